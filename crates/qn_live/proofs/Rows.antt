-- Runs that were worked by hand, as theorems of the definition.
use Rattle.std.proofs.Common.{ℕ, true, false, ◌+◌, ◌^◌, List, [], ◌∷◌, None, refl}
use Rattle.qn_base.specs.declared.calls.Call.TheVariants as call
use Rattle.qn_base.specs.declared.calls.Received.TheVariants as received
use Rattle.qn_base.specs.Plans.{Follows}
use Rattle.qn_model.specs.declared.disk.Message.TheVariants as message
use Rattle.qn_model.specs.declared.seen.HeaderSeen.TheVariants as header
use Rattle.qn_model.specs.declared.seen.SlotSeen.TheVariants as slot
use Rattle.qn_model.specs.declared.seen.MailSeen.TheVariants as mail
use Rattle.qn_model.specs.declared.entries.Entry.{Entry}
use Rattle.qn_model.specs.declared.entries.What.{What}
use Rattle.qn_model.specs.declared.entries.What.TheVariants as what
use Rattle.qn_model.specs.declared.outputs.BootCause.TheVariants as cause
use Rattle.qn_model.specs.Log.{op_out, ask_place, ask_tick, begins_clean, claimed, slot_number, timing}
use Rattle.qn_model.specs.lemmas.TwoNodes.{one_node}
use Rattle.qn_model.specs.Timing.{usual_times}
use Rattle.qn_model.specs.NodeVotes.{view, install, votes}
use Rattle.qn_model.specs.Votes.{answer_at, present_view, view_tick, is_released, expected_votes, device_yes}
use Rattle.qn_model.specs.Phases.{phase}
use Rattle.qn_model.specs.Holding.{holds, stop_due, may_stop}
use Rattle.qn_model.specs.Hearing.{told}
use Rattle.qn_model.specs.Licences.{out_time, slot_read_since, reset_since}
use Rattle.qn_model.specs.Unmet.{least_from, unmet}
use Rattle.qn_model.specs.Wanted.{mail_tick, wanted_with_delay}
use Rattle.qn_model.specs.NodeOutputs.{moment, acts, outs_at, with_entry, log_from, log_of}
use Rattle.qn_model.specs.Sectors.{anonymous, header_bytes, header_bytes_in, mail_bytes, slot_bytes}
use Rattle.qn_model.specs.World.{failed}
use Rattle.qn_sector.specs.Reading.{header_in, mail_of, slot_of}
use Rattle.qn_candidate.specs.Candidate.{heaviest}
use Rattle.qn_member.specs.Maker.{ranks_that, with_ranks}
use Rattle.qn_member.specs.Naming.{least_sure}
use Rattle.qn_member.specs.NamingViews.{after_found, after_look, answer_at as answer_by_name, view_found}
use Rattle.qn_live.specs.declared.live_end.LiveEnd.TheVariants as end
use Rattle.qn_live.specs.Choosing.{choice_plan}
use Rattle.qn_live.specs.Greetings.{sends_plan}
use Rattle.qn_live.specs.Performing.{disk_call, done, out_call, outs_plan, waits_after}
use Rattle.qn_live.specs.Runs.{clocked, greeted, handled, live_plan, parted, run_plan, settled, turns_end}

abbrev at : ℕ → What → Entry
at tick entry = record { tick = tick; what = entry }

-- the header can't be read: the boot halts with cause 1, which is code 11
boot_halts : Follows (live_plan one_node 0 false None None 5)
    (call.Now 5 ∷ call.Read 0 [] false ∷ call.Now 6 ∷ call.Halt 11 ∷ [])
    (record {
      end = end.BootHalted cause.ReadFailed;
      log = log_of one_node 0 (at 5 what.Begin ∷ at 6 (what.Header header.Failed) ∷ []);
    })
unfolding op_out ask_place begins_clean slot_number claimed phase outs_at with_entry log_from failed choice_plan disk_call done out_call outs_plan waits_after sends_plan clocked greeted handled parted settled live_plan run_plan
boot_halts = (refl, (refl, (refl, (refl, (refl, refl)))))

-- the clock goes back in the second turn, and nothing else is called
clock_goes_back : Follows (live_plan one_node 0 false None None 5)
    (call.Now 50 ∷ call.Read 0 [] false ∷ call.Now 40 ∷ [])
    (record { end = end.ClockBack 50 40; log = log_of one_node 0 (at 50 what.Begin ∷ []) })
unfolding op_out ask_place begins_clean slot_number claimed phase outs_at with_entry log_from failed choice_plan disk_call done out_call outs_plan waits_after sends_plan clocked greeted handled parted settled live_plan run_plan
clock_goes_back = (refl, (refl, (refl, (refl, refl))))

-- what the node of the next row is handed
abbrev seven_entries : List Entry
seven_entries =
    at 0 what.Begin
    ∷ at 10 (what.Header (header.Read 1 usual_times))
    ∷ at 20 (what.SlotRead (record { 0 = 0 }) (slot.Read (record { incarnation = 0; clean = true })))
    ∷ at 30 (what.Claimed true)
    ∷ at 40 (what.Cleared true)
    ∷ at 50 (what.MailRead (mail.Read message.Empty))
    ∷ at 60 (what.View (record { id = 2 ^ 56 + 1; members = record { 0 = 1 } }))
    ∷ []

-- seven turns of one node: it boots, installs its first view, which names it, at the first turn that receives, and starts the resource
starts_in_seven_turns : Follows (live_plan one_node 0 false None None 7)
    (call.Now 0 ∷ call.Read 0 (header_bytes 1 usual_times) true
    ∷ call.Now 10 ∷ call.Feed true ∷ call.Read 1 (slot_bytes 1 (record { incarnation = 0; clean = true })) true
    ∷ call.Now 20 ∷ call.Feed true ∷ call.Write 1 (slot_bytes 1 (record { incarnation = 1; clean = false })) true
    ∷ call.Now 30 ∷ call.Feed true ∷ call.Write 512 (mail_bytes (anonymous message.Empty)) true
    ∷ call.Now 40 ∷ call.Feed true ∷ call.Read 512 (mail_bytes (anonymous message.Empty)) true
    ∷ call.Now 50 ∷ call.Feed true
    ∷ call.Receive received.Nothing ∷ call.Now 60 ∷ call.Start true ∷ [])
    (record {
      end = turns_end one_node 0 (log_of one_node 0 seven_entries);
      log = log_of one_node 0 seven_entries;
    })
unfolding op_out ask_place ask_tick begins_clean slot_number claimed timing view install votes answer_at present_view view_tick is_released expected_votes device_yes phase holds stop_due may_stop told out_time slot_read_since reset_since least_from unmet mail_tick wanted_with_delay moment acts outs_at with_entry log_from header_bytes_in mail_bytes slot_bytes header_in mail_of slot_of failed view_found after_found answer_by_name after_look heaviest ranks_that with_ranks least_sure choice_plan sends_plan disk_call done out_call outs_plan waits_after clocked greeted handled parted settled live_plan run_plan
starts_in_seven_turns = (refl, (refl, (refl, (refl, (refl, (refl, (refl, (refl, (refl, (refl, (refl, (refl, (refl, (refl, (refl, (refl, (refl, (refl, (refl, (refl, refl))))))))))))))))))))
