-- The soak: events drawn from a seed, and the summary of what they came to. This project's profile.
use Rattle.std.specs.Prelude.{◌≡◌, ◌≤◌, ◌⊎◌, ℕ, zero, suc, Bool, true, false, List, ◌+◌, ◌++◌, max, count_by, codes, decimal, count_ones, if◌then◌else◌}
use Rattle.qn_model.specs.declared.events.Event.{Event}
use Rattle.qn_model.specs.declared.events.Event.TheVariants as event
use Rattle.qn_model.specs.declared.outputs.DiskOp.TheVariants as disk
use Rattle.qn_model.specs.declared.outputs.Out.{Out}
use Rattle.qn_model.specs.declared.outputs.Out.TheVariants as out
use Rattle.qn_model.specs.declared.reports.Report.{Report}
use Rattle.qn_model.specs.Steps.{report, step}
use Rattle.qn_model.specs.World.{World, first_world}
use Rattle.qn_sched.specs.declared.replay_end.ReplayEnd.{ReplayEnd}
use Rattle.qn_sched.specs.declared.replay_end.ReplayEnd.TheVariants.{Done, WriteFault, NoMemory}
use Rattle.qn_replay.specs.declared.tally.Tally.{Tally}
use Rattle.qn_replay.specs.Generator.{Drawn, next_event, soak_settings, soak_timing}

abbrev pub is_boot : Event → Bool
is_boot (event.Boot rank base) = true
is_boot (event.BootClean rank base) = true
is_boot other = false

abbrev pub is_crash : Event → Bool
is_crash (event.Crash rank) = true
is_crash other = false

abbrev pub is_reset : Out → Bool
is_reset (out.Disk (disk.WriteReset rank)) = true
is_reset other = false

abbrev pub is_start : Out → Bool
is_start out.Start = true
is_start other = false

abbrev pub is_stop : Out → Bool
is_stop out.Stop = true
is_stop other = false

-- one more where it is so
abbrev pub one_if : Bool → ℕ
one_if happened = if happened then 1 else 0

abbrev pub nothing_tallied : Tally
nothing_tallied = record { boots = 0; crashes = 0; resets = 0; starts = 0; stops = 0; most_holders = 0 }

-- boots and crashes count events; resets, starts and stops count outputs
abbrev pub counted : Event → List Out → Tally → Tally
counted event outs tally =
    record tally {
      boots = tally.boots + one_if (is_boot event);
      crashes = tally.crashes + one_if (is_crash event);
      resets = tally.resets + count_by is_reset outs;
      starts = tally.starts + count_by is_start outs;
      stops = tally.stops + count_by is_stop outs;
    }

-- these, and the greatest number of holders
unfoldable pub tallied : Event → Report → Tally → Tally
tallied event report tally =
    record (counted event report.outs tally) { most_holders = max tally.most_holders (count_ones report.holders.0) }

-- each of the counts is at most this number
pub record IsWithin (most : ℕ) (tally : Tally) : Type 0 where
  pub boots : tally.boots ≤ most
  pub crashes : tally.crashes ≤ most
  pub resets : tally.resets ≤ most
  pub starts : tally.starts ≤ most
  pub stops : tally.stops ≤ most

-- each of the counts grew by at most this number
pub record GrowsBy (most : ℕ) (old new : Tally) : Type 0 where
  pub boots : new.boots ≤ old.boots + most
  pub crashes : new.crashes ≤ old.crashes + most
  pub resets : new.resets ≤ old.resets + most
  pub starts : new.starts ≤ old.starts + most
  pub stops : new.stops ≤ old.stops + most

-- a soak after some events: the generator's state, the world, and the tally
pub record Soaked : Type 0 where
  pub state : ℕ
  pub world : World
  pub tally : Tally

abbrev pub after_drawn : Drawn → World → Soaked → Soaked
after_drawn drawn after soaked =
    record { state = drawn.state; world = after; tally = tallied drawn.event (report soak_settings drawn.event after) soaked.tally }

unfoldable pub after_event : Soaked → Soaked
after_event soaked =
    let drawn = next_event soaked.world soaked.state in
    after_drawn drawn (step soak_settings soak_timing drawn.event soaked.world) soaked

-- the soak of a seed after so many events
unfoldable pub soaked : ℕ → ℕ → Soaked
soaked seed zero = record { state = seed; world = first_world; tally = nothing_tallied }
soaked seed (suc events) = after_event (soaked seed events)

-- the summary
unfoldable pub summary : ℕ → ℕ → Tally → List ℕ
summary seed events tally =
    codes "soak seed " ++ decimal seed ++ codes " events " ++ decimal events ++ codes " boots " ++ decimal tally.boots ++ codes " crashes "
    ++ decimal tally.crashes ++ codes " resets " ++ decimal tally.resets ++ codes " starts " ++ decimal tally.starts ++ codes " stops "
    ++ decimal tally.stops ++ codes " most_holders " ++ decimal tally.most_holders ++ codes "\n"

-- what a soak writes
abbrev pub soak_text : ℕ → ℕ → List ℕ
soak_text seed events = summary seed events (soaked seed events).tally

-- how a soak of so many events may end
abbrev pub IsSoakEnd : ℕ → ReplayEnd → Type 0
IsSoakEnd events end = (end ≡ Done events) ⊎ (end ≡ WriteFault) ⊎ (end ≡ NoMemory)
