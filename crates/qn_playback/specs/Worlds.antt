-- A world that takes events under rules, and what the lines of a schedule come to in it: this project's profile.
use Rattle.std.specs.Prelude.{◌≡◌, ◌≤◌, ℕ, ◌+◌, ◌*◌, Bool, true, false, List, [], ◌∷◌, ◌++◌, length, Option, None, Some, Result, Ok, Err}
use Rattle.qn_base.specs.declared.limits.TheConstants.{MOST_EVENTS}
use Rattle.qn_model.specs.declared.configuration.Settings.{Settings}
use Rattle.qn_model.specs.declared.line_fault.LineFault.{LineFault}
use Rattle.qn_model.specs.declared.reports.Refused.{Refused}
use Rattle.qn_model.specs.declared.reports.Refused.TheVariants as refused
use Rattle.qn_model.specs.declared.times.Timing.{Timing}
use Rattle.qn_model.specs.Settings.{ids}
use Rattle.qn_sched.specs.declared.replay_end.ReplayEnd.{ReplayEnd}
use Rattle.qn_sched.specs.declared.replay_end.ReplayEnd.TheVariants.{BadSchedule, NoMemory, NotAllowed}
use Rattle.qn_playback.specs.Lines.{Play, Taken, Wants}

-- The definition of a world: its beginning, the event that a line says where the nodes have these ids, the rule that refuses an
-- event, the step of an event, the trace line of the event of a number by the worlds before and after it, and whether it adds
-- something that takes memory.
pub record WorldRules (World Event : Type 0) : Type 0 where
  pub first : World
  pub event_of : List ℕ → List ℕ → Result Event LineFault
  pub refusal : Settings → Timing → Event → World → Option ℕ
  pub step : Settings → Timing → Event → World → World
  pub text : Settings → ℕ → Event → World → World → List ℕ
  pub needs_memory : Settings → Timing → Event → World → Bool

-- where a run stands after its head: how many lines of the input there were so far, how many of them were events, and the world
-- after these events
pub record Progress (World : Type 0) : Type 0 where
  pub settings : Settings
  pub timing : Timing
  pub lines : ℕ
  pub events : ℕ
  pub world : World

abbrev pub or_bad_line : {Event : Type 0} → ℕ → Result Event LineFault → Result Event ReplayEnd
or_bad_line number (Ok event) = Ok event
or_bad_line number (Err fault) = Err (BadSchedule number fault)

abbrev pub unless_refused : {Event : Type 0} → ℕ → Event → Option ℕ → Result Event ReplayEnd
unless_refused number event None = Ok event
unless_refused number event (Some rule) = Err (NotAllowed number (record { 0 = rule }))

-- how a run ends at the event of line `number` that the world refused
abbrev pub refused_end : ℕ → Refused → ReplayEnd
refused_end number (refused.NotAllowed rule) = NotAllowed number rule
refused_end number refused.NoMemory = NoMemory

module _ {World Event : Type 0} (rules : WorldRules World Event) where
  -- after a head of so many lines nothing has happened
  abbrev pub at_start : Settings → Timing → ℕ → Progress World
  at_start settings timing lines = record { settings = settings; timing = timing; lines = lines; events = 0; world = rules.first }

  -- the event that a line says, or its first fault
  abbrev pub said_event : Progress World → List ℕ → Result Event ReplayEnd
  said_event so_far line = or_bad_line (so_far.lines + 1) (rules.event_of (ids so_far.settings.nodes) line)

  -- the event, unless a rule of the world refuses it
  unfoldable pub allowed_in : Progress World → Event → Result Event ReplayEnd
  allowed_in so_far event = unless_refused (so_far.lines + 1) event (rules.refusal so_far.settings so_far.timing event so_far.world)

  -- the world after one more event
  abbrev pub stepped : Progress World → Event → World
  stepped so_far event = rules.step so_far.settings so_far.timing event so_far.world

  -- one line more, an event
  unfoldable pub with_event : Progress World → Event → Progress World
  with_event so_far event = record so_far { lines = so_far.lines + 1; events = so_far.events + 1; world = stepped so_far event }

  -- the trace line of an event, with its end
  unfoldable pub event_text : Progress World → Event → List ℕ
  event_text so_far event =
      rules.text so_far.settings (so_far.events + 1) event so_far.world (stepped so_far event) ++ 10 ∷ []

  -- where a run stands after one more line, which was an event
  abbrev pub moved_on : Progress World → Result Event ReplayEnd → Progress World
  moved_on so_far (Ok event) = with_event so_far event
  moved_on so_far (Err end) = so_far

  abbrev pub after_line : Progress World → List ℕ → Progress World
  after_line so_far line = moved_on so_far (said_event so_far line)

  -- where a run stands after these lines, newest first, each of which was an event
  unfoldable pub after_lines : Progress World → Taken → Progress World
  after_lines start [] = start
  after_lines start (line ∷ earlier) = after_line (after_lines start earlier) line

  -- the trace line of an event, unless a rule of the world refuses it
  abbrev pub text_if : Progress World → Result Event ReplayEnd → Result (List ℕ) ReplayEnd
  text_if so_far (Ok event) = Ok (event_text so_far event)
  text_if so_far (Err end) = Err end

  abbrev pub text_of : Progress World → Result Event ReplayEnd → Result (List ℕ) ReplayEnd
  text_of so_far (Ok event) = text_if so_far (allowed_in so_far event)
  text_of so_far (Err end) = Err end

  -- what a line comes to after the earlier ones: the trace line of its event, or the end
  abbrev pub event_play : Progress World → Play
  event_play start earlier line = text_of (after_lines start earlier) (said_event (after_lines start earlier) line)

  -- whether an event adds something that takes memory
  abbrev pub adds : Progress World → Result Event ReplayEnd → Bool
  adds so_far (Ok event) = rules.needs_memory so_far.settings so_far.timing event so_far.world
  adds so_far (Err end) = false

  -- whether the event of a line after the earlier ones does
  abbrev pub event_wants : Progress World → Wants
  event_wants start earlier line = adds (after_lines start earlier) (said_event (after_lines start earlier) line)

-- ---- a world of the code that takes the lines

-- what is kept beside a world of the code: its settings and times, how many lines the head had, how many events there were, how
-- many steps the world has left, and its time
pub record Place : Type 0 where
  pub settings : Settings
  pub timing : Timing
  pub head : ℕ
  pub events : ℕ
  pub steps : ℕ
  pub time : ℕ

-- the numbers of a place fit; an event takes 1000000000 milliseconds at most
pub record IsGoing (place : Place) : Type 0 where
  pub few : place.events ≤ MOST_EVENTS
  pub numbered : place.head ≤ 4294967296
  pub steps : place.steps + place.events ≡ 18446744073709551615
  pub early : place.time ≤ 1000000000 * place.events

-- where a run stands, with the world that the world of the code stands for
abbrev pub progress_at : {World : Type 0} → Place → World → Progress World
progress_at place world =
    record { settings = place.settings; timing = place.timing; lines = place.head + place.events; events = place.events; world = world }

module _ {World Event : Type 0} (rules : WorldRules World Event) where
  -- where a run began
  abbrev pub start_of : Place → Progress World
  start_of place = at_start rules place.settings place.timing place.head

  -- what a place has become after these lines, newest first, where the world of the code stands for worlds so
  pub record IsAfter (start place : Place) (standing : World → Type 0) (earlier : Taken) : Type 0 where
    pub world : World
    pub stands : standing world
    pub going : IsGoing place
    pub counted : length earlier ≡ place.events
    pub place_is : after_lines rules (start_of start) earlier ≡ progress_at place world

  -- a line was an event that is allowed, and happened, with that trace line
  pub record TakesLine (old new : Place) (standing : World → Type 0) (text line : List ℕ) (world : World) : Type 0 where
    pub event : Event
    pub said : said_event rules (progress_at old world) line ≡ Ok event
    pub allowed : allowed_in rules (progress_at old world) event ≡ Ok event
    pub stands : standing (stepped rules (progress_at old world) event)
    pub going : IsGoing new
    pub counted : new.events ≡ old.events + 1
    pub moved : progress_at new (stepped rules (progress_at old world) event) ≡ with_event rules (progress_at old world) event
    pub says : text ≡ rules.text old.settings new.events event world (stepped rules (progress_at old world) event)

  -- a line is at fault, or its event is refused, or it ran out of memory for what its event adds
  pub data RefusesLine (old : Place) (line : List ℕ) (end : ReplayEnd) (world : World) : Type 0 where
    AtFault : said_event rules (progress_at old world) line ≡ Err end → RefusesLine old line end world
    NotAllowedHere : (event : Event) → said_event rules (progress_at old world) line ≡ Ok event → allowed_in rules (progress_at old world) event ≡ Err end
        → RefusesLine old line end world
    OutOfMemory : (event : Event) → said_event rules (progress_at old world) line ≡ Ok event → allowed_in rules (progress_at old world) event ≡ Ok event
        → rules.needs_memory old.settings old.timing event world ≡ true → end ≡ NoMemory → RefusesLine old line end world
