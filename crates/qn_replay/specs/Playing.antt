-- A replay after its head, line after line, whatever world takes the events: this project's profile.
use Rattle.std.specs.Prelude.{◌≡◌, ℕ, List, Result, Ok, Err}
use Rattle.qn_playback.specs.Lines.{Play, Taken, Wants}
use Rattle.qn_playback.specs.Worlds.{IsAfter, Place, Progress, RefusesLine, TakesLine, WorldRules, event_play, event_wants, start_of}
use Rattle.qn_sched.specs.declared.replay_end.ReplayEnd.{ReplayEnd}
use Rattle.qn_sched.specs.declared.replay_end.ReplayEnd.TheVariants.{Done}
use Rattle.qn_replay.specs.declared.playback.Playback.{Playback}
use Rattle.qn_replay.specs.EventWorlds.{EventWorld, line_if, traced_if}

module _ {Kept World Event Report Head : Type 0} (kind : EventWorld Kept World Event Report) where
  -- what is kept beside the world of a playback
  abbrev pub place_at : Playback Kept Event Report Head → Place
  place_at playback =
      record {
        settings = kind.settings playback.world;
        timing = kind.timing playback.world;
        head = playback.head;
        events = playback.events;
        steps = kind.steps playback.world;
        time = kind.time playback.world;
      }

  -- the rules of its world, and its trace lines
  abbrev pub rules_of : Playback Kept Event Report Head → WorldRules World Event
  rules_of playback = traced_if playback.traced (kind.rules playback.world)

  -- where a playback began
  abbrev pub start_at : Playback Kept Event Report Head → Progress World
  start_at playback = start_of (rules_of playback) (place_at playback)

  -- what a line comes to after the earlier ones, in the run that a playback began, and whether it wants memory
  abbrev pub play_from : Playback Kept Event Report Head → Play
  play_from start = event_play (rules_of start) (start_at start)

  abbrev pub wants_from : Playback Kept Event Report Head → Wants
  wants_from start = event_wants (rules_of start) (start_at start)

  -- what a playback has become after these lines, newest first: its rules are those that it began with
  pub record HasPlayed (start playback : Playback Kept Event Report Head) (earlier : Taken) : Type 0 where
    pub rules : rules_of playback ≡ rules_of start
    pub after : IsAfter (rules_of start) (place_at start) (place_at playback) (kind.StandsFor playback.world) earlier

  -- the trace line of the last event, without its end
  abbrev pub last_line : Playback Kept Event Report Head → List ℕ
  last_line playback =
      line_if playback.traced (kind.trace_line (kind.settings playback.world) playback.events playback.event playback.report)

  -- a line was an event that is allowed, and happened
  abbrev pub Takes : Playback Kept Event Report Head → Playback Kept Event Report Head → List ℕ → Type 0
  Takes old new line =
      (world : World) → kind.StandsFor old.world world
      → TakesLine (rules_of old) (place_at old) (place_at new) (kind.StandsFor new.world) (last_line new) line world

  -- a line is at fault, or its event is refused, or it ran out of memory for what its event adds
  abbrev pub Refuses : Playback Kept Event Report Head → List ℕ → ReplayEnd → Type 0
  Refuses old line end = (world : World) → kind.StandsFor old.world world → RefusesLine (rules_of old) (place_at old) line end world

-- the world, where the replay ended well
abbrev pub last_of : {Kept : Type 0} → Kept → ReplayEnd → Result Kept ReplayEnd
last_of world (Done events) = Ok world
last_of world end = Err end
