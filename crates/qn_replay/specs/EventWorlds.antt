-- A world of the code that takes the lines of a schedule as events: this project's profile.
use Rattle.std.specs.Prelude.{ℕ, Bool, true, false, List, [], Option, Result, Ok, Err}
use Rattle.qn_model.specs.declared.configuration.Settings.{Settings}
use Rattle.qn_model.specs.declared.line_fault.LineFault.{LineFault}
use Rattle.qn_model.specs.declared.times.Timing.{Timing}
use Rattle.qn_playback.specs.Replays.{ReplayKind}
use Rattle.qn_playback.specs.Worlds.{WorldRules}

-- What a world of the code keeps: its settings and times, how many steps it has left, and its time; the worlds of the definitions that it
-- stands for, and their rules; the events that are well formed; and the trace line of the event of a number, by what was reported of it.
pub record EventWorld (Kept World Event Report : Type 0) : Type 1 where
  pub settings : Kept → Settings
  pub timing : Kept → Timing
  pub steps : Kept → ℕ
  pub time : Kept → ℕ
  pub StandsFor : Kept → World → Type 0
  pub rules : Kept → WorldRules World Event
  pub is_well_formed : Settings → Event → Bool
  pub trace_line : Settings → ℕ → Event → Report → List ℕ

-- the event that a line was read as, or its fault
abbrev pub read_as : {Event : Type 0} → Result (Unit {0}) LineFault → Event → Result Event LineFault
read_as (Ok done) event = Ok event
read_as (Err fault) event = Err fault

module _ {Kept World Event Report : Type 0} (kind : EventWorld Kept World Event Report) where
  -- the rule that refuses an event, and the world after it
  abbrev pub rule_of : Kept → Event → World → Option ℕ
  rule_of w event d = (kind.rules w).refusal (kind.settings w) (kind.timing w) event d

  abbrev pub after_event : Kept → Event → World → World
  after_event w event d = (kind.rules w).step (kind.settings w) (kind.timing w) event d

  -- whether an event adds something to the world that takes memory
  abbrev pub wants_memory : Kept → Event → World → Bool
  wants_memory w event d = (kind.rules w).needs_memory (kind.settings w) (kind.timing w) event d

  -- the trace line of the event of a number
  abbrev pub text_of_event : Kept → ℕ → Event → World → List ℕ
  text_of_event w number event d = (kind.rules w).text (kind.settings w) number event d (after_event w event d)

-- ---- a trace that nobody reads

-- a trace line, which is empty where the trace is not kept
abbrev pub line_if : Bool → List ℕ → List ℕ
line_if true line = line
line_if false line = []

-- the same world, of which each trace line is empty where the trace is not kept
abbrev pub traced_if : {World Event : Type 0} → Bool → WorldRules World Event → WorldRules World Event
traced_if true rules = rules
traced_if false rules = record rules { text = λ s number event before after. [] }

-- the same kind of replay, of which each trace line is empty
abbrev pub untraced : {Head World Event : Type 0} → ReplayKind Head World Event → ReplayKind Head World Event
untraced kind = record kind { rules = λ head. traced_if false (kind.rules head) }
