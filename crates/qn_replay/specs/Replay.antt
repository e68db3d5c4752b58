-- What a replay answers for its whole input: this project's profile.
use Rattle.std.specs.Prelude.{ℕ, List, None, Option}
use Rattle.qn_playback.specs.declared.head.Head.{Head}
use Rattle.qn_playback.specs.Heads.{head_part}
use Rattle.qn_playback.specs.Replays.{ReplayKind, answer_of}
use Rattle.qn_model.specs.declared.events.Event.{Event}
use Rattle.qn_model.specs.declared.reports.Report.{Report}
use Rattle.qn_model.specs.Lines.{Ending}
use Rattle.qn_model.specs.Rules.{is_well_formed, refusal}
use Rattle.qn_model.specs.Settings.{ids}
use Rattle.qn_model.specs.Steps.{report, step}
use Rattle.qn_model.specs.World.{World, first_world}
use Rattle.qn_playback.specs.Played.{Played, ended}
use Rattle.qn_playback.specs.Worlds.{Progress, WorldRules}
use Rattle.qn_sched.specs.declared.replay_end.ReplayEnd.{ReplayEnd}
use Rattle.qn_sched.specs.EventReading.{event_of}
use Rattle.qn_sched.specs.TraceLines.{trace_line}
use Rattle.qn_world.specs.Memory.{needs_memory}
use Rattle.qn_world.specs.Standing.{WorldFor}
use Rattle.qn_world.specs.Whole.{Whole}
use Rattle.qn_replay.specs.EventWorlds.{EventWorld}

-- the world of one image, with the lines of its schedules
abbrev pub image_rules : WorldRules World Event
image_rules =
    record {
      first = first_world;
      event_of = event_of;
      refusal = refusal;
      step = step;
      text = λ s number event before after. trace_line (ids s.nodes) number (report s event after);
      needs_memory = needs_memory;
    }

-- the world of one image, as one that takes events
abbrev pub image_world : EventWorld Whole World Event Report
image_world =
    record {
      settings = λ w. w.settings;
      timing = λ w. w.timing;
      steps = λ w. w.steps;
      time = λ w. w.time;
      StandsFor = WorldFor;
      rules = λ w. image_rules;
      is_well_formed = is_well_formed;
      trace_line = λ s number event report. trace_line (ids s.nodes) number report;
    }

-- the replay of a schedule
abbrev pub image_replay : ReplayKind Head World Event
image_replay =
    record {
      head_part = head_part;
      settings = λ head. head.settings;
      timing = λ head. head.timing;
      lines = λ head. head.lines;
      rules = λ head. image_rules;
    }

-- the trace that a replay writes, how it ends, and where it stood after its last good line, or none within the head
abbrev pub Replayed : Type 0
Replayed = Played (Option (Progress World))

-- nothing is written within the head
abbrev pub ends : ReplayEnd → Replayed
ends end = ended None end

-- what a replay answers for the bytes that were read and the way in which the input ended
abbrev pub replay_of : Ending → List ℕ → Replayed
replay_of ending bytes = answer_of image_replay ending bytes
