-- What a replay beside an arbiter answers for its whole input: this project's profile.
use Rattle.std.specs.Prelude.{ℕ, List, Option}
use Rattle.qn_arbiter.specs.EventReading.{arbiter_event_of}
use Rattle.qn_arbiter.specs.TraceLines.{arbiter_trace_line}
use Rattle.qn_arbiter.specs.Memory.{needs_memory}
use Rattle.qn_arbiter.specs.Standing.{ArbiterFor}
use Rattle.qn_arbiter.specs.Whole.{Whole}
use Rattle.qn_playback.specs.Replays as kinds
use Rattle.qn_playback.specs.Replays.{ReplayKind, answer_of}
use Rattle.qn_safety.specs.declared.arbiter_event.ArbiterEvent.{ArbiterEvent}
use Rattle.qn_safety.specs.declared.lease.Lease.{Lease}
use Rattle.qn_safety.specs.declared.arbiter_reports.ArbiterReport.{ArbiterReport}
use Rattle.qn_safety.specs.ArbiterRules.{is_well_formed_beside, refusal_beside}
use Rattle.qn_safety.specs.ArbiterSteps.{report_beside, step_beside}
use Rattle.qn_safety.specs.ArbiterWorld.{ArbiterWorld, first_arbiter_world}
use Rattle.qn_model.specs.Lines.{Ending}
use Rattle.qn_model.specs.Settings.{ids}
use Rattle.qn_playback.specs.Played.{Played}
use Rattle.qn_playback.specs.Worlds.{Progress, WorldRules}
use Rattle.qn_replay.specs.declared.arbiter_head.ArbiterHead.{ArbiterHead}
use Rattle.qn_replay.specs.BesideHeads.{arbiter_head_part}
use Rattle.qn_replay.specs.EventWorlds.{EventWorld}

-- the world beside an arbiter with these two times, and the lines of its schedules
abbrev pub beside_rules : Lease → WorldRules ArbiterWorld ArbiterEvent
beside_rules times =
    record {
      first = first_arbiter_world times;
      event_of = arbiter_event_of;
      refusal = refusal_beside;
      step = λ s t event w. step_beside s t times event w;
      text = λ s number event before after. arbiter_trace_line (ids s.nodes) number event (report_beside s event before after);
      needs_memory = needs_memory;
    }

-- the world beside an arbiter, as one that takes events
abbrev pub beside_world : EventWorld Whole ArbiterWorld ArbiterEvent ArbiterReport
beside_world =
    record {
      settings = λ w. w.settings;
      timing = λ w. w.timing;
      steps = λ w. w.steps;
      time = λ w. w.time;
      StandsFor = ArbiterFor;
      rules = λ w. beside_rules w.lease;
      is_well_formed = is_well_formed_beside;
      trace_line = λ s number event report. arbiter_trace_line (ids s.nodes) number event report;
    }

-- the replay of a schedule beside an arbiter
abbrev pub beside_replay : ReplayKind ArbiterHead ArbiterWorld ArbiterEvent
beside_replay =
    record {
      head_part = arbiter_head_part;
      settings = λ head. head.settings;
      timing = λ head. head.timing;
      lines = λ head. head.lines;
      rules = λ head. beside_rules head.lease;
    }

-- what a replay answers for the bytes that were read and the way in which the input ended
abbrev pub replay_arbiter_of : Ending → List ℕ → Played (Option (Progress ArbiterWorld))
replay_arbiter_of ending bytes = answer_of beside_replay ending bytes

-- Why it ran out of memory after a trace: nothing was written yet; or the world wants memory for the event after those whose
-- lines were written.
abbrev pub WantsMemory : List ℕ → List ℕ → Type 0
WantsMemory = kinds.WantsMemory beside_replay
