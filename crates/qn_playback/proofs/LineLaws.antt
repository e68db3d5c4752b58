-- The input after the lines that a world took.
use Rattle.std.proofs.Common.{◌≡◌, ◌≢◌, ◌<◌, ◌≤◌, ◌==◌, ℕ, List, [], ◌∷◌, ◌++◌, Err, length, refl, ap, ◌∙◌, arith, nat_lt, append_assoc, lt-ltb, le-ltb, eq-eqb, ne_eqb}
use Rattle.std.proofs.lemmas.Bool.{cond-false, cond-true}
use Rattle.std.proofs.lemmas.List.{length-append}
use Rattle.qn_model.specs.declared.line_fault.LineFault.TheVariants.{TooLong, TooMany}
use Rattle.qn_model.specs.LineLaws.{IsPartOfLine, first_line, lines_of-last, lines_of-line, lines_of-some}
use Rattle.qn_model.specs.Lines.{Ending, lines_of}
use Rattle.qn_sched.specs.declared.replay_end.ReplayEnd.{ReplayEnd}
use Rattle.qn_playback.specs.Judging.{AtFault, OutOfMemory, RefusesAt}
use Rattle.qn_playback.specs.Lines.{Play, Taken, bad_line, end_of_input, last_line, line_of, played, rest_of, Wants}
use Rattle.qn_playback.specs.Played.{ended, go_on, traced}

module _ (play : Play) (head : ℕ) (earlier : Taken) (line : List ℕ) where
  -- more bytes than a line may have
  line_of-long : 4096 < length line → line_of play head earlier line ≡ Err (bad_line head earlier TooLong)
  unfolding line_of
  line_of-long long = cond-true (nat_lt 4096 (length line)) _ _ (lt-ltb 4096 (length line) long)

  -- one line too many
  pub line_of-many : length line ≤ 4096 → length earlier ≡ 200000 → line_of play head earlier line ≡ Err (bad_line head earlier TooMany)
  unfolding line_of
  line_of-many short many =
      cond-false (nat_lt 4096 (length line)) _ _ (le-ltb 4096 (length line) short) ∙ cond-true (length earlier == 200000) _ _ (eq-eqb (length earlier) 200000 many)

  -- a line that the world judges
  pub line_of-within : length line ≤ 4096 → length earlier ≢ 200000 → line_of play head earlier line ≡ play earlier line
  unfolding line_of
  line_of-within short few =
      cond-false (nat_lt 4096 (length line)) _ _ (le-ltb 4096 (length line) short) ∙ cond-false (length earlier == 200000) _ _ (ne_eqb (length earlier) 200000 few)

  -- the world does not take it
  pub refuses_within : (wants : Wants) (end : ReplayEnd) → length line ≤ 4096 → length earlier ≢ 200000 → RefusesAt play wants earlier line end → RefusesAt (line_of play head) wants earlier line end
  refuses_within wants end short few (AtFault is) = AtFault (line_of-within short few ∙ is)
  refuses_within wants end short few (OutOfMemory text is wants_more memory) = OutOfMemory text (line_of-within short few ∙ is) wants_more memory

module _ (play : Play) (head : ℕ) (earlier : Taken) (ending : Ending) where
  played-more : (line : List ℕ) (lines : List (List ℕ)) → 0 < length lines
      → played play head earlier ending (line ∷ lines)
      ≡ go_on earlier (line_of play head earlier line) (λ text. traced text (played play head (line ∷ earlier) ending lines))
  played-more line [] some = absurd (omega arith)
  played-more line (next ∷ lines) some = refl

  -- a whole line, whatever follows
  pub rest_of-line : (line more : List ℕ) → IsPartOfLine line
      → rest_of play head earlier ending ((line ++ 10 ∷ []) ++ more)
      ≡ go_on earlier (line_of play head earlier line) (λ text. traced text (rest_of play head (line ∷ earlier) ending more))
  rest_of-line line more inside =
      ap (rest_of play head earlier ending) (append_assoc line (10 ∷ []) more)
      ∙ ap (played play head earlier ending) (lines_of-line line more inside)
      ∙ played-more line (lines_of more) (lines_of-some more)

  -- the input ended, or a read failed, after the last end of a line
  pub rest_of-last : (line : List ℕ) → IsPartOfLine line → length line ≤ 4096
      → rest_of play head earlier ending line ≡ ended earlier (end_of_input head earlier ending line)
  unfolding last_line
  rest_of-last line inside short =
      ap (played play head earlier ending) (lines_of-last line inside)
      ∙ ap (ended earlier) (cond-false (nat_lt 4096 (length line)) _ _ (le-ltb 4096 (length line) short))

  played-long : (line : List ℕ) (lines : List (List ℕ)) → 4096 < length line
      → played play head earlier ending (line ∷ lines) ≡ ended earlier (bad_line head earlier TooLong)
  unfolding last_line
  played-long line [] long = ap (ended earlier) (cond-true (nat_lt 4096 (length line)) _ _ (lt-ltb 4096 (length line) long))
  played-long line (next ∷ lines) long =
      ap (λ judged. go_on earlier judged (λ text. traced text (played play head (line ∷ earlier) ending (next ∷ lines)))) (line_of-long play head earlier line long)

  -- too many bytes of a line, whatever follows
  pub rest_of-long : (front more : List ℕ) → IsPartOfLine front → 4096 < length front
      → rest_of play head earlier ending (front ++ more) ≡ ended earlier (bad_line head earlier TooLong)
  rest_of-long front more inside long =
      let first = first_line front more inside in
      ap (played play head earlier ending) first.cut
      ∙ played-long (front ++ first.more) first.others (omega (arith, length-append front first.more))
