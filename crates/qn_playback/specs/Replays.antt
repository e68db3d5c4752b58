-- What a replay answers for its whole input, whatever its head and its world are: this project's profile.
use Rattle.std.specs.Prelude.{◌≡◌, ◌≢◌, ◌≤◌, ℕ, true, List, [], ◌∷◌, ◌++◌, length, None, Option, Some, Ok}
use Rattle.qn_base.specs.declared.limits.TheConstants.{MOST_EVENTS, MOST_LINE_BYTES}
use Rattle.qn_model.specs.declared.configuration.Settings.{Settings}
use Rattle.qn_model.specs.declared.times.Timing.{Timing}
use Rattle.qn_model.specs.Lines.{Ending, Ended}
use Rattle.qn_model.specs.Settings.{ids}
use Rattle.qn_playback.specs.Lines.{Play, Taken, Wants, played}
use Rattle.qn_playback.specs.Played.{Played, standing_at}
use Rattle.qn_playback.specs.Reading.{Rest}
use Rattle.qn_playback.specs.Runs.{OutOfMemory, ReadsWhole, Runs}
use Rattle.qn_playback.specs.Worlds.{Progress, WorldRules, after_lines, at_start, event_play, event_wants}
use Rattle.qn_sched.specs.declared.replay_end.ReplayEnd.{ReplayEnd}
use Rattle.qn_sched.specs.declared.replay_end.ReplayEnd.TheVariants.{Done}
use Rattle.qn_playback.specs.Parts.{Part}
use Rattle.qn_playback.specs.PartLaws.{after_part}

-- A kind of replay: the head of its input, and what a head gives: the settings, the times, how many lines it has, and the rules of the
-- world that takes the lines after it.
pub record ReplayKind (Head World Event : Type 0) : Type 0 where
  pub head_part : Part Head
  pub settings : Head → Settings
  pub timing : Head → Timing
  pub lines : Head → ℕ
  pub rules : Head → WorldRules World Event

-- wherever a replay stood
abbrev pub AnyPlace : {World : Type 0} → Option (Progress World) → Type 0
AnyPlace last = Unit {0}

-- the line that was taken is within the bounds of every input and says an event that is allowed, and that adds something to the
-- world which takes memory
pub record WantsAt {World Event : Type 0} (rules : WorldRules World Event) (so_far : Progress World) (taken : List ℕ) : Type 0 where
  pub line : List ℕ
  pub event : Event
  pub parts : taken ≡ line ++ 10 ∷ []
  pub short : length line ≤ MOST_LINE_BYTES
  pub few : so_far.events ≢ MOST_EVENTS
  pub said : rules.event_of (ids so_far.settings.nodes) line ≡ Ok event
  pub allowed : rules.refusal so_far.settings so_far.timing event so_far.world ≡ None
  pub wants : rules.needs_memory so_far.settings so_far.timing event so_far.world ≡ true

module _ {Head World Event : Type 0} (kind : ReplayKind Head World Event) where
  -- after a head nothing has happened
  abbrev pub start_after : Head → Progress World
  start_after head = at_start (kind.rules head) (kind.settings head) (kind.timing head) (kind.lines head)

  -- what a line after a head comes to, and whether it wants memory
  abbrev pub play_after : Head → Play
  play_after head = event_play (kind.rules head) (start_after head)

  abbrev pub wants_after : Head → Wants
  wants_after head = event_wants (kind.rules head) (start_after head)

  -- where a replay stands after these lines, newest first
  abbrev pub place_after : Head → Taken → Progress World
  place_after head earlier = after_lines (kind.rules head) (start_after head) earlier

  abbrev pub stood_after : Head → Taken → Option (Progress World)
  stood_after head earlier = Some (place_after head earlier)

  -- a run of the lines after a head
  abbrev pub after_head : Head → Ending → List (List ℕ) → Played (Option (Progress World))
  after_head head ending lines = standing_at (stood_after head) (played (play_after head) (kind.lines head) [] ending lines)

  -- what a replay answers for the bytes that were read and the way in which the input ended: its trace, its end, and where it
  -- stood after its last good line, or none within the head
  abbrev pub answer_of : Rest (Option (Progress World))
  answer_of ending bytes = after_part None kind.head_part after_head ending bytes

  -- Why it ran out of memory after a trace: nothing was written yet; or the event after those whose lines were written adds
  -- something to the world which takes memory.
  pub data WantsMemory (taken trace : List ℕ) : Type 0 where
    AtHead : trace ≡ [] → WantsMemory taken trace
    AtEvent : (head : Head) (rest : List (List ℕ)) (so_far : Progress World) (front line : List ℕ) → taken ≡ front ++ line
        → kind.head_part Ended front ≡ Ok (head, rest)
        → answer_of Ended front ≡ record { trace = trace; end = Done so_far.events; last = Some so_far }
        → WantsAt (kind.rules head) so_far line → WantsMemory taken trace

  -- Bytes were taken, none more than the end needs. The trace that they tell of was written whole, and the end is the one that
  -- they tell of; or a prefix of it was written, because the sink failed or it ran out of memory. What was read after them is
  -- of one piece, waits, and was not looked at.
  abbrev pub Replays : Option (List ℕ) → Option (List ℕ) → Type 0 → Option (List ℕ) → Option (List ℕ) → Type 0 → ReplayEnd → Type 0
  Replays left_old left_new read_failed old new write_failed end =
      Runs answer_of AnyPlace WantsMemory left_old left_new read_failed old new write_failed end

  -- out of memory after this trace, which is all that was written
  abbrev pub RunsOut : Option (List ℕ) → Option (List ℕ) → Option (List ℕ) → Option (List ℕ) → Type 0
  RunsOut left_old left_new old new = OutOfMemory answer_of WantsMemory left_old left_new old new

  -- the whole input was read, and all of its trace was written
  abbrev pub Completes : Option (List ℕ) → Option (List ℕ) → Option (List ℕ) → Option (List ℕ) → ReplayEnd → Type 0
  Completes left_old left_new old new end = ReadsWhole answer_of left_old left_new old new end
