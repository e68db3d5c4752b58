-- What a replay of three images answers for its whole input: this project's profile.
use Rattle.std.specs.Prelude.{ℕ, List, Option}
use Rattle.qn_playback.specs.declared.head.Head.{Head}
use Rattle.qn_playback.specs.Heads.{head_part}
use Rattle.qn_playback.specs.Replays as kinds
use Rattle.qn_playback.specs.Replays.{ReplayKind, answer_of}
use Rattle.qn_model.specs.declared.reports.Report.{Report}
use Rattle.qn_model.specs.Lines.{Ending}
use Rattle.qn_model.specs.Settings.{ids}
use Rattle.qn_playback.specs.Played.{Played}
use Rattle.qn_playback.specs.Worlds.{Progress, WorldRules}
use Rattle.qn_safety.specs.declared.triple_event.TripleEvent.{TripleEvent}
use Rattle.qn_safety.specs.TripleRules.{is_well_formed_triple, refusal_triple}
use Rattle.qn_safety.specs.TripleSteps.{report_triple, step_triple}
use Rattle.qn_safety.specs.TripleWorld.{TripleWorld, first_triple}
use Rattle.qn_sched.specs.TraceLines.{trace_line}
use Rattle.qn_triple.specs.Memory.{needs_memory}
use Rattle.qn_triple.specs.Standing.{TripleFor}
use Rattle.qn_triple.specs.TripleReading.{triple_event_of}
use Rattle.qn_triple.specs.Whole.{Whole}
use Rattle.qn_replay.specs.EventWorlds.{EventWorld}

-- the world of three images, with the lines of its schedules
abbrev pub triple_rules : WorldRules TripleWorld TripleEvent
triple_rules =
    record {
      first = first_triple;
      event_of = triple_event_of;
      refusal = refusal_triple;
      step = step_triple;
      text = λ s number event before after. trace_line (ids s.nodes) number (report_triple s event after);
      needs_memory = needs_memory;
    }

-- the world of three images, as one that takes events
abbrev pub triple_world : EventWorld Whole TripleWorld TripleEvent Report
triple_world =
    record {
      settings = λ w. w.settings;
      timing = λ w. w.timing;
      steps = λ w. w.steps;
      time = λ w. w.time;
      StandsFor = TripleFor;
      rules = λ w. triple_rules;
      is_well_formed = is_well_formed_triple;
      trace_line = λ s number event report. trace_line (ids s.nodes) number report;
    }

-- the replay of a schedule of three images
abbrev pub triple_replay : ReplayKind Head TripleWorld TripleEvent
triple_replay =
    record {
      head_part = head_part;
      settings = λ head. head.settings;
      timing = λ head. head.timing;
      lines = λ head. head.lines;
      rules = λ head. triple_rules;
    }

-- what a replay answers for the bytes that were read and the way in which the input ended
abbrev pub replay3_of : Ending → List ℕ → Played (Option (Progress TripleWorld))
replay3_of ending bytes = answer_of triple_replay ending bytes

-- Why it ran out of memory after a trace: nothing was written yet; or the event after those whose lines were written adds a packet or a
-- leftover to the world.
abbrev pub WantsMemory : List ℕ → List ℕ → Type 0
WantsMemory = kinds.WantsMemory triple_replay
