-- A replay of which no trace is kept ends, and stands, as one of which it is.
use Rattle.std.proofs.Common.{◌≡◌, ◌==◌, ℕ, Bool, true, false, cond, List, [], ◌∷◌, length, None, Some, Result, Ok, Err, refl, sym, ap, ◌∙◌, subst, nat_lt}
use Rattle.qn_base.specs.declared.limits.TheConstants.{MOST_EVENTS, MOST_LINE_BYTES}
use Rattle.qn_playback.specs.Parts.{Given}
use Rattle.qn_playback.specs.Replays.{ReplayKind, after_head, answer_of, play_after, start_after, stood_after}
use Rattle.qn_model.specs.declared.line_fault.LineFault.TheVariants.{TooLong, TooMany}
use Rattle.qn_model.specs.Lines.{Ending}
use Rattle.qn_playback.specs.Lines.{Play, Taken, bad_line, line_of, played}
use Rattle.qn_playback.specs.Played.{Played, go_on, traced}
use Rattle.qn_playback.specs.Worlds.{Progress, WorldRules, after_line, after_lines, allowed_in, event_play, moved_on, said_event, text_if, text_of, with_event}
use Rattle.qn_sched.specs.declared.replay_end.ReplayEnd.{ReplayEnd}
use Rattle.qn_replay.specs.EventWorlds.{traced_if, untraced}

-- the same end at the same place, whatever the trace is
pub record SameEnd {Last : Type 0} (a b : Played Last) : Type 0 where
  pub end : a.end ≡ b.end
  pub last : a.last ≡ b.last

-- both are texts, or both the same end
abbrev SameAnswer : Result (List ℕ) ReplayEnd → Result (List ℕ) ReplayEnd → Type 0
SameAnswer (Ok text) (Ok other) = Unit {0}
SameAnswer (Ok text) (Err end) = ⊥
SameAnswer (Err end) (Ok text) = ⊥
SameAnswer (Err end) (Err other) = end ≡ other

either_same : (test : Bool) (end : ReplayEnd) (a b : Result (List ℕ) ReplayEnd) → SameAnswer a b → SameAnswer (cond test (Err end) a) (cond test (Err end) b)
either_same true end a b same = refl
either_same false end a b same = same

goes_same : (earlier : Taken) (a b : Result (List ℕ) ReplayEnd) (rest other : Played Taken) → SameAnswer a b → SameEnd rest other
    → SameEnd (go_on earlier a (λ text. traced text rest)) (go_on earlier b (λ text. traced text other))
goes_same earlier (Ok text) (Ok second) rest other same goes = record { end = goes.end; last = goes.last }
goes_same earlier (Ok text) (Err end) rest other same goes = absurd same
goes_same earlier (Err end) (Ok text) rest other same goes = absurd same
goes_same earlier (Err end) (Err second) rest other same goes = record { end = same; last = refl }

module _ (play other : Play) (same : (earlier : Taken) (line : List ℕ) → SameAnswer (play earlier line) (other earlier line)) where
  line_same : (head : ℕ) (earlier : Taken) (line : List ℕ) → SameAnswer (line_of play head earlier line) (line_of other head earlier line)
  unfolding line_of
  line_same head earlier line =
      either_same (nat_lt MOST_LINE_BYTES (length line)) (bad_line head earlier TooLong) _ _
      (either_same (length earlier == MOST_EVENTS) (bad_line head earlier TooMany) (play earlier line) (other earlier line) (same earlier line))

  played_same : (head : ℕ) (earlier : Taken) (ending : Ending) (lines : List (List ℕ)) → SameEnd (played play head earlier ending lines) (played other head earlier ending lines)
  played_same head earlier ending [] = record { end = refl; last = refl }
  played_same head earlier ending (rest ∷ []) = record { end = refl; last = refl }
  played_same head earlier ending (line ∷ next ∷ lines) =
      goes_same earlier (line_of play head earlier line) (line_of other head earlier line) (played play head (line ∷ earlier) ending (next ∷ lines))
      (played other head (line ∷ earlier) ending (next ∷ lines)) (line_same head earlier line) (played_same head (line ∷ earlier) ending (next ∷ lines))

module _ {World Event : Type 0} (rules : WorldRules World Event) where
  moved_same : (so_far : Progress World) (said : Result Event ReplayEnd) → moved_on (traced_if false rules) so_far said ≡ moved_on rules so_far said
  unfolding with_event
  moved_same so_far (Ok event) = refl
  moved_same so_far (Err end) = refl

  after_same : (start : Progress World) (earlier : Taken) → after_lines (traced_if false rules) start earlier ≡ after_lines rules start earlier
  unfolding after_lines
  after_same start [] = refl
  after_same start (line ∷ earlier) =
      ap (λ (p : Progress World). after_line (traced_if false rules) p line) (after_same start earlier)
      ∙ moved_same (after_lines rules start earlier) (said_event rules (after_lines rules start earlier) line)

  allowed_same : (so_far : Progress World) (allowed : Result Event ReplayEnd) → SameAnswer (text_if (traced_if false rules) so_far allowed) (text_if rules so_far allowed)
  allowed_same so_far (Ok event) = tt
  allowed_same so_far (Err end) = refl

  text_same : (so_far : Progress World) (said : Result Event ReplayEnd) → SameAnswer (text_of (traced_if false rules) so_far said) (text_of rules so_far said)
  unfolding allowed_in
  text_same so_far (Ok event) = allowed_same so_far (allowed_in rules so_far event)
  text_same so_far (Err end) = refl

  play_same : (start : Progress World) (earlier : Taken) (line : List ℕ) → SameAnswer (event_play (traced_if false rules) start earlier line) (event_play rules start earlier line)
  play_same start earlier line =
      subst (λ (p : Progress World). SameAnswer (text_of (traced_if false rules) p (said_event rules p line)) (event_play rules start earlier line)) (sym (after_same start earlier))
      (text_same (after_lines rules start earlier) (said_event rules (after_lines rules start earlier) line))

module _ {Head World Event : Type 0} (kind : ReplayKind Head World Event) where
  given_same : (ending : Ending) (given : Given Head)
      → SameEnd (go_on None given (λ g. after_head (untraced kind) g.0 ending g.1)) (go_on None given (λ g. after_head kind g.0 ending g.1))
  given_same ending (Ok given) =
      let rules = kind.rules given.0 in
      let start = start_after kind given.0 in
      let same = played_same (play_after (untraced kind) given.0) (play_after kind given.0) (play_same rules start) (kind.lines given.0) [] ending given.1 in
      record {
        end = same.end;
        last = ap (stood_after (untraced kind) given.0) same.last ∙ ap (λ (p : Progress World). Some p) (after_same rules start _);
      }
  given_same ending (Err end) = record { end = refl; last = refl }

  -- so it does for every input
  pub answers_same : (ending : Ending) (bytes : List ℕ) → SameEnd (answer_of (untraced kind) ending bytes) (answer_of kind ending bytes)
  answers_same ending bytes = given_same ending (kind.head_part ending bytes)
