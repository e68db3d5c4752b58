-- One more line of a head.
use Rattle.std.proofs.Common.{◌≡◌, ◌+◌, ◌<◌, ◌≤◌, ◌==◌, ℕ, false, List, [], ◌∷◌, ◌++◌, Option, Ok, Err, length, refl, sym, ap, ◌∙◌, arith, nat_lt, append_assoc, lt-ltb, le-ltb}
use Rattle.std.specs.Io.KnownBytes.{prepend_known}
use Rattle.std.proofs.lemmas.Bool.{cond-false, cond-true}
use Rattle.std.proofs.lemmas.List.{length-append}
use Rattle.std.proofs.lemmas.List.Elements.{All-push}
use Rattle.qn_io.specs.Lines.{IsTooLong}
use Rattle.qn_model.specs.declared.line_fault.LineFault.TheVariants.{TooLong, Unended}
use Rattle.qn_model.specs.LineLaws.{IsPartOfLine, first_line, lines_of-last, lines_of-line, lines_of-some}
use Rattle.qn_model.specs.Lines.{Ending, Ended, ReadFailed, lines_of}
use Rattle.qn_sched.specs.declared.replay_end.ReplayEnd.{ReplayEnd}
use Rattle.qn_sched.specs.declared.replay_end.ReplayEnd.TheVariants.{BadSchedule, ReadFault}
use Rattle.qn_playback.specs.Heads.{cut, last_line, line_lines, line_part, within_bound}
use Rattle.qn_playback.specs.Parts.{Gives, IsOpen, LastDecides, Refuses}
use Rattle.qn_playback.specs.PartLaws.{refuses_at, refuses_ended, refuses_failed}

line_lines-more : (before : ℕ) (ending : Ending) (line : List ℕ) (lines : List (List ℕ)) → 0 < length lines → line_lines before ending (line ∷ lines) ≡ within_bound before line lines
line_lines-more before ending line [] some = absurd (omega arith)
line_lines-more before ending line (next ∷ lines) some = refl

within-short : (before : ℕ) (line : List ℕ) (lines : List (List ℕ)) → length line ≤ 4096 → within_bound before line lines ≡ Ok (line, lines)
unfolding within_bound
within-short before line lines short = cond-false (nat_lt 4096 (length line)) _ _ (le-ltb 4096 (length line) short)

-- a whole line, whatever follows
line_part-line : (before : ℕ) (ending : Ending) (line more : List ℕ) → IsPartOfLine line → length line ≤ 4096
    → line_part before ending ((line ++ 10 ∷ []) ++ more) ≡ Ok (line, lines_of more)
line_part-line before ending line more inside short =
    ap (line_part before ending) (append_assoc line (10 ∷ []) more)
    ∙ ap (line_lines before ending) (lines_of-line line more inside)
    ∙ line_lines-more before ending line (lines_of more) (lines_of-some more)
    ∙ within-short before line (lines_of more) short

last_line-short : (before : ℕ) (ending : Ending) (line : List ℕ) → length line ≤ 4096 → last_line before ending line ≡ cut (before + 1) ending
unfolding last_line
last_line-short before ending line short = cond-false (nat_lt 4096 (length line)) _ _ (le-ltb 4096 (length line) short)

-- the input ended, or a read failed, before the line was whole
line_part-cut : (before : ℕ) (ending : Ending) (line : List ℕ) → IsPartOfLine line → length line ≤ 4096 → line_part before ending line ≡ Err (cut (before + 1) ending)
line_part-cut before ending line inside short =
    ap (line_lines before ending) (lines_of-last line inside) ∙ ap (λ e. Err e) (last_line-short before ending line short)

line_lines-long : (before : ℕ) (ending : Ending) (line : List ℕ) (lines : List (List ℕ)) → 4096 < length line
    → line_lines before ending (line ∷ lines) ≡ Err (BadSchedule (before + 1) TooLong)
unfolding last_line within_bound
line_lines-long before ending line [] long = ap (λ e. Err e) (cond-true (nat_lt 4096 (length line)) _ _ (lt-ltb 4096 (length line) long))
line_lines-long before ending line (next ∷ lines) long = cond-true (nat_lt 4096 (length line)) _ _ (lt-ltb 4096 (length line) long)

-- too many bytes of the line, whatever follows
line_part-long : (before : ℕ) (ending : Ending) (front more : List ℕ) → IsPartOfLine front → 4096 < length front
    → line_part before ending (front ++ more) ≡ Err (BadSchedule (before + 1) TooLong)
line_part-long before ending front more inside long =
    let first = first_line front more inside in
    ap (line_lines before ending) first.cut
    ∙ line_lines-long before ending (front ++ first.more) first.others (omega (arith, length-append front first.more))

module _ (before : ℕ) (line : List ℕ) (inside : IsPartOfLine line) (short : length line ≤ 4096) where
  stays_open : IsOpen (line_part before) line
  stays_open = line_part-cut before ReadFailed line inside short

  -- a whole line
  pub gives_line : {a b : Option (List ℕ)} → a ≡ prepend_known (line ++ 10 ∷ []) b → Gives (line_part before) line a b
  gives_line takes = record {
    taken = line ++ 10 ∷ [];
    takes = takes;
    needed = LastDecides line 10 refl stays_open;
    rest = λ ending more. line_part-line before ending line more inside short;
  }

  -- the input ended
  pub refuses_end : {a b : Option (List ℕ)} {at_end failed : Type 0} (end : ReplayEnd) → a ≡ prepend_known line b → at_end → end ≡ BadSchedule (before + 1) Unended
      → Refuses (line_part before) a b at_end failed end
  refuses_end end takes at_end is = refuses_ended line end takes at_end stays_open (line_part-cut before Ended line inside short ∙ ap (λ e. Err e) (sym is))

  -- a read failed
  pub refuses_failure : {a b : Option (List ℕ)} {at_end failed : Type 0} → a ≡ prepend_known line b → failed → Refuses (line_part before) a b at_end failed ReadFault
  refuses_failure takes failed = refuses_failed line takes failed stays_open

  -- more of the line was read than there may be
  pub refuses_length : {a b : Option (List ℕ)} {at_end failed : Type 0} (end : ReplayEnd) → IsTooLong line a b → end ≡ BadSchedule (before + 1) TooLong → Refuses (line_part before) a b at_end failed end
  refuses_length end long is =
      refuses_at line long.byte end long.takes stays_open
      (λ ending more.
      line_part-long before ending (line ++ long.byte ∷ []) more (All-push (λ b. (b == 10) ≡ false) line long.byte inside long.goes_on)
      (omega (arith, length-append line (long.byte ∷ []), long.full))
      ∙ ap (λ e. Err e) (sym is))
