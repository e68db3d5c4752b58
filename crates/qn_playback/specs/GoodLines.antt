-- What is known of a line that a world took.
use Rattle.std.proofs.Common.{◌≡◌, ◌+◌, ◌==◌, ℕ, Bool, true, false, cond, List, length, None, Option, Some, Result, Ok, Err, refl, sym, ap, ◌∙◌, nat_lt}
use Rattle.qn_base.specs.declared.limits.TheConstants.{MOST_EVENTS, MOST_LINE_BYTES}
use Rattle.qn_model.specs.declared.line_fault.LineFault.{LineFault}
use Rattle.qn_model.specs.declared.line_fault.LineFault.TheVariants.{TooLong, TooMany}
use Rattle.qn_model.specs.Settings.{ids}
use Rattle.qn_playback.specs.Lines.{Play, Taken, bad_line, line_of}
use Rattle.qn_playback.specs.Worlds.{Progress, WorldRules, allowed_in, event_text, or_bad_line, said_event, text_if, text_of, unless_refused}
use Rattle.qn_sched.specs.declared.replay_end.ReplayEnd.{ReplayEnd}

within_bounds : (long many : Bool) (too_long too_many : ReplayEnd) (text : List ℕ) (played : Result (List ℕ) ReplayEnd)
    → cond long (Err too_long) (cond many (Err too_many) played) ≡ Ok text → played ≡ Ok text
within_bounds true many too_long too_many text played is = absurd cc
within_bounds false true too_long too_many text played is = absurd cc
within_bounds false false too_long too_many text played is = is

-- within the bounds of every input a line is what the world says of it
pub line_of-ok : (play : Play) (head : ℕ) (earlier : Taken) (line text : List ℕ) → line_of play head earlier line ≡ Ok text → play earlier line ≡ Ok text
unfolding line_of
line_of-ok play head earlier line text is =
    within_bounds (nat_lt MOST_LINE_BYTES (length line)) (length earlier == MOST_EVENTS) (bad_line head earlier TooLong) (bad_line head earlier TooMany) text (play earlier line) is

module _ {World Event : Type 0} (rules : WorldRules World Event) where
  -- the line says an event that no rule refuses, and this is its trace line
  pub record GoodLine (so_far : Progress World) (line text : List ℕ) : Type 0 where
    pub event : Event
    pub said : rules.event_of (ids so_far.settings.nodes) line ≡ Ok event
    pub allowed : rules.refusal so_far.settings so_far.timing event so_far.world ≡ None
    pub is_text : text ≡ event_text rules so_far event

  not_refused : (number : ℕ) (event other : Event) (rule : Option ℕ) → unless_refused number event rule ≡ Ok other → (rule ≡ None) × (event ≡ other)
  not_refused number event other None is = (refl, cc)
  not_refused number event other (Some rule) is = absurd cc

  read_event : (number : ℕ) (read : Result Event LineFault) (event : Event) → or_bad_line number read ≡ Ok event → read ≡ Ok event
  read_event number (Ok other) event is = cc
  read_event number (Err fault) event is = absurd cc

  allowed_line : (so_far : Progress World) (line text : List ℕ) (event : Event) (allowed : Result Event ReplayEnd) → said_event rules so_far line ≡ Ok event
      → allowed_in rules so_far event ≡ allowed → text_if rules so_far allowed ≡ Ok text → GoodLine so_far line text
  unfolding allowed_in
  allowed_line so_far line text event (Ok other) said may plays =
      let refused = not_refused (so_far.lines + 1) event other (rules.refusal so_far.settings so_far.timing event so_far.world) may in
      let text_is : event_text rules so_far other ≡ text = cc in
      record {
        event = event;
        said = read_event (so_far.lines + 1) (rules.event_of (ids so_far.settings.nodes) line) event said;
        allowed = refused.0;
        is_text = sym text_is ∙ ap (event_text rules so_far) (sym refused.1);
      }
  allowed_line so_far line text event (Err end) said may plays = absurd cc

  said_line : (so_far : Progress World) (line text : List ℕ) (said : Result Event ReplayEnd) → said_event rules so_far line ≡ said
      → text_of rules so_far said ≡ Ok text → GoodLine so_far line text
  said_line so_far line text (Ok event) is plays = allowed_line so_far line text event (allowed_in rules so_far event) is refl plays
  said_line so_far line text (Err end) is plays = absurd cc

  -- a line that was taken is good
  pub good_line : (so_far : Progress World) (line text : List ℕ) → text_of rules so_far (said_event rules so_far line) ≡ Ok text → GoodLine so_far line text
  good_line so_far line text plays = said_line so_far line text (said_event rules so_far line) refl plays

  -- so it says its event
  pub said_event-is : (so_far : Progress World) (line : List ℕ) (event : Event) → rules.event_of (ids so_far.settings.nodes) line ≡ Ok event → said_event rules so_far line ≡ Ok event
  said_event-is so_far line event said = ap (or_bad_line (so_far.lines + 1)) said
