-- Schedules of three images that were worked by hand, as theorems of the definitions.
use Rattle.std.proofs.Common.{◌≡◌, ℕ, Bool, true, false, List, [], ◌∷◌, ◌++◌, Option, Some, None, refl, ◌&&◌, if◌then◌else◌}
use Rattle.std.specs.Prelude.{is_none}
use Rattle.qn_base.specs.declared.ids.Rank.{Rank}
use Rattle.qn_model.specs.declared.configuration.Settings.{Settings}
use Rattle.qn_model.specs.declared.disk.Message.TheVariants as message
use Rattle.qn_model.specs.declared.outputs.DiskOp.TheVariants as disk
use Rattle.qn_model.specs.declared.outputs.Out.{Out}
use Rattle.qn_model.specs.declared.outputs.Out.TheVariants as out
use Rattle.qn_model.specs.declared.outputs.BootCause.TheVariants as cause
use Rattle.qn_model.specs.declared.outputs.HaltKind.TheVariants as halt
use Rattle.qn_model.specs.declared.life.Why.{Why}
use Rattle.qn_model.specs.declared.life.Why.TheVariants as why
use Rattle.qn_model.specs.declared.events.Event.TheVariants as event
use Rattle.qn_model.specs.declared.reports.Report.{Report}
use Rattle.qn_model.specs.lemmas.WorldSteps.{world_steps}
use Rattle.qn_model.specs.lemmas.TwoNodes.{first, one_node, second, two_nodes}
use Rattle.qn_model.specs.NodeVotes.{votes}
use Rattle.qn_model.specs.Timing.{usual_times}
use Rattle.qn_model.specs.Steps.{report}
use Rattle.qn_safety.specs.declared.triple_event.TripleEvent.{TripleEvent}
use Rattle.qn_safety.specs.declared.triple_event.TripleEvent.TheVariants as triple
use Rattle.qn_safety.specs.TripleWorld.{TripleWorld, first_triple, answer_of}
use Rattle.qn_safety.specs.TripleRules.{is_well_formed_triple, refusal_triple}
use Rattle.qn_safety.specs.TripleSteps.{step_triple, report_triple}

abbrev view_of : Rank → ℕ → TripleEvent
view_of rank members = triple.One (event.View rank (record { id = 1; members = record { 0 = members } }))

abbrev done : Rank → TripleEvent
done rank = triple.One (event.Done rank)

abbrev boot : Rank → TripleEvent
boot rank = triple.One (event.Boot rank 0)

-- the operation that is out lands on all images and is answered; and it fails on the third one
abbrev all_three : Rank → List TripleEvent
all_three rank = triple.LandOn rank 1 ∷ triple.LandOn rank 2 ∷ triple.LandOn rank 3 ∷ done rank ∷ []

abbrev two_of_three : Rank → List TripleEvent
two_of_three rank = triple.LandOn rank 1 ∷ triple.LandOn rank 2 ∷ triple.FailOn rank 3 ∷ done rank ∷ []

-- the world after further events, in order
unfoldable run_on : Settings → TripleWorld → List TripleEvent → TripleWorld
run_on s w [] = w
run_on s w (event ∷ later) = run_on s (step_triple s usual_times event w) later

-- the rule that refuses an event after others, which are well formed and allowed in their turns; 0 where they are not
unfoldable refused_by : Settings → TripleWorld → List TripleEvent → TripleEvent → Option ℕ
refused_by s w [] last = if is_well_formed_triple s last then refusal_triple s usual_times last w else Some 0
refused_by s w (event ∷ later) last =
    if is_well_formed_triple s event && is_none (refusal_triple s usual_times event w)
    then refused_by s (step_triple s usual_times event w) later last
    else Some 0

-- what a last event reports, after others
abbrev reported : Settings → List TripleEvent → TripleEvent → Report
reported s events last = report_triple s last (run_on s first_triple (events ++ last ∷ []))

-- what the one node reports
abbrev says : List Out → ℕ → Bool → ℕ → Why → Report
says outs holders quorate votes condition =
    record {
      time = 0;
      touched = Some first;
      outs = outs;
      holders = record { 0 = holders };
      answer = record { quorate = quorate; votes = votes; quorum = 1; expected = 1; released = true };
      why = condition;
    }

-- what the rows compute with
triple_steps : Bool
unfolding world_steps report answer_of is_well_formed_triple refusal_triple step_triple report_triple run_on refused_by
triple_steps = true

-- row A: a node boots with its third image lost, and starts
abbrev up_without_three : List TripleEvent
up_without_three = boot first ∷ two_of_three first ++ two_of_three first ++ two_of_three first ++ two_of_three first

row_a_reads : reported one_node
    (boot first ∷ two_of_three first ++ two_of_three first ++ two_of_three first
    ++ triple.LandOn first 1 ∷ triple.LandOn first 2 ∷ triple.FailOn first 3 ∷ []) (done first)
    ≡ says (out.Feed ∷ out.Disk disk.ReadMail ∷ []) 0 false 0 why.NoView
unfolding triple_steps
row_a_reads = refl

row_a_starts : reported one_node up_without_three (view_of first 1) ≡ says (out.Start ∷ []) 1 true 1 why.Holding
unfolding triple_steps
row_a_starts = refl

-- row B: the clear that failed on the third image lands there late, and the read fails on the second: no feed comes
-- out, also where the read lands on the third image, which is not a good one
abbrev one_good : List TripleEvent
one_good =
    up_without_three ++ view_of first 1 ∷ triple.LateOn first 3 2 ∷ triple.LandOn first 1 ∷ triple.FailOn first 2 ∷ []

row_b_fails : reported one_node (one_good ++ triple.FailOn first 3 ∷ []) (done first) ≡ says [] 1 true 1 why.Holding
unfolding triple_steps
row_b_fails = refl

row_b_lands : reported one_node (one_good ++ triple.LandOn first 3 ∷ []) (done first) ≡ says [] 1 true 1 why.Holding
unfolding triple_steps
row_b_lands = refl

row_b_is_allowed : refused_by one_node first_triple (one_good ++ triple.LandOn first 3 ∷ []) (done first) ≡ None
unfolding triple_steps
row_b_is_allowed = refl

-- row C: the header is read on one image alone
row_c : reported one_node (boot first ∷ triple.LandOn first 1 ∷ triple.FailOn first 2 ∷ triple.FailOn first 3 ∷ [])
    (done first)
    ≡ says (out.Halt (halt.Boot cause.ReadFailed) ∷ []) 0 false 0 why.Down
unfolding triple_steps
row_c = refl

-- what names no image is refused, an answer waits for each part, and rule 3 comes first but for a late write
no_image_named : refused_by one_node first_triple (boot first ∷ []) (triple.One (event.Land first)) ≡ Some 4
unfolding triple_steps
no_image_named = refl

no_image_failed : refused_by one_node first_triple (boot first ∷ []) (triple.One (event.Fail first)) ≡ Some 5
unfolding triple_steps
no_image_failed = refl

off_comes_first : refused_by one_node first_triple [] (triple.One (event.Land first)) ≡ Some 3
unfolding triple_steps
off_comes_first = refl

late_off : refused_by one_node first_triple [] (triple.One (event.Late first 1)) ≡ Some 6
unfolding triple_steps
late_off = refl

operator_unnamed : refused_by one_node first_triple [] (triple.One (event.Operator first message.Reset)) ≡ Some 10
unfolding triple_steps
operator_unnamed = refl

lands_once : refused_by one_node first_triple (boot first ∷ triple.LandOn first 1 ∷ []) (triple.LandOn first 1) ≡ Some 4
unfolding triple_steps
lands_once = refl

fails_after_it_landed : refused_by one_node first_triple
    (boot first ∷ triple.LandOn first 1 ∷ triple.FailOn first 1 ∷ []) (triple.FailOn first 1) ≡ Some 5
unfolding triple_steps
fails_after_it_landed = refl

waits_for_each_part : refused_by one_node first_triple
    (boot first ∷ triple.LandOn first 1 ∷ triple.LandOn first 2 ∷ []) (done first) ≡ Some 5
unfolding triple_steps
waits_for_each_part = refl

operator_spares_a_reset : refused_by one_node first_triple
    (up_without_three ++ triple.OperatorOn first 2 message.Reset ∷ []) (triple.OperatorOn first 2 message.Empty)
    ≡ Some 10
unfolding triple_steps
operator_spares_a_reset = refl

-- A node still feeds after its reset was answered as written: the reset landed on the first image before the clear of
-- the node's boot, and on the second one after it, where that clear failed. The node came up after the reset had
-- landed on the first image, so it starts only with a licence for the writer or a word of it.
abbrev reset_is_out : List TripleEvent
reset_is_out =
    boot second ∷ all_three second ++ all_three second ++ all_three second ++ all_three second
    ++ boot first ∷ all_three first ++ all_three first
    ++ all_three first ++ all_three first ++ view_of first 1 ∷ all_three first
    ++ triple.LandOn first 1 ∷ triple.LandOn first 2 ∷ triple.LandOn first 3 ∷ []

abbrev clear_is_out : List TripleEvent
clear_is_out =
    reset_is_out ++ done first ∷ triple.One (event.Crash second) ∷ boot second ∷ all_three second ++ all_three second
    ++ triple.LandOn second 1 ∷ triple.LandOn second 2 ∷ triple.LandOn second 3 ∷ []

abbrev clear_is_done : List TripleEvent
clear_is_done =
    clear_is_out ++ done second ∷ triple.LandOn first 1 ∷ triple.LandOn second 1 ∷ triple.FailOn second 2
    ∷ triple.LandOn second 3 ∷ []

abbrev reset_is_written : List TripleEvent
reset_is_written = clear_is_done ++ done second ∷ triple.LandOn first 2 ∷ triple.FailOn first 3 ∷ []

abbrev mail_is_read : List TripleEvent
mail_is_read =
    reset_is_written ++ done first ∷ triple.LandOn second 1 ∷ triple.LandOn second 2 ∷ triple.LandOn second 3 ∷ []

abbrev mail_is_read_again : List TripleEvent
mail_is_read_again =
    mail_is_read ++ done second ∷ triple.One (event.Feed second) ∷ triple.One (event.Pass 1000 [])
    ∷ triple.One (event.Tick second)
    ∷ triple.LandOn second 1 ∷ triple.LandOn second 2 ∷ triple.LandOn second 3 ∷ []

asks_for_the_reset : (reported two_nodes reset_is_out (done first)).outs ≡ out.Disk (disk.WriteReset second) ∷ []
unfolding triple_steps
asks_for_the_reset = refl

asks_for_the_clear : (reported two_nodes clear_is_out (done second)).outs ≡ out.Feed ∷ out.Disk disk.WriteClear ∷ []
unfolding triple_steps
asks_for_the_clear = refl

comes_up : (reported two_nodes clear_is_done (done second)).outs ≡ out.Feed ∷ out.Disk disk.ReadMail ∷ []
unfolding triple_steps
comes_up = refl

reset_written : (reported two_nodes reset_is_written (done first)).why ≡ why.Unfenced (record { 0 = 2 }) true 10000
unfolding triple_steps
reset_written = refl

feeds_on : (reported two_nodes mail_is_read (done second)).outs ≡ out.Feed ∷ []
unfolding triple_steps
feeds_on = refl

feeds_again : (reported two_nodes mail_is_read_again (done second)).outs ≡ out.Feed ∷ []
unfolding triple_steps
feeds_again = refl

feeding_is_allowed : refused_by two_nodes first_triple mail_is_read_again (done second) ≡ None
unfolding triple_steps
feeding_is_allowed = refl
