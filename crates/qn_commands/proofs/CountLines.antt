-- The text of `count` for an input whose first line, or what there is of it, is known.
use Rattle.std.proofs.Common.{◌≡◌, ◌+◌, ◌<◌, ℕ, List, [], ◌∷◌, ◌++◌, length, refl, ap, ◌∙◌, arith, Err, lt-ltb}
use Rattle.std.proofs.lemmas.List.{length-append}
use Rattle.qn_io.specs.Lines.{HasNoLineFeed}
use Rattle.qn_model.specs.declared.line_fault.LineFault.TheVariants.{TooLong}
use Rattle.qn_model.specs.LineLaws.{first_line, lines_of-last, lines_of-line, lines_of-some}
use Rattle.qn_model.specs.Lines.{Ending, bad_line, lines_of}
use Rattle.qn_model.specs.CountText.{Counted, count_lines, go_on, last_line, line_of, with_line}
use Rattle.qn_commands.specs.CountTurns.{count_rest}

count_lines-more : (so_far : Counted) (ending : Ending) (line : List ℕ) (lines : List (List ℕ)) → 0 < length lines
    → count_lines so_far ending (line ∷ lines) ≡ go_on so_far (line_of so_far line) (λ good. count_lines (with_line so_far good) ending lines)
count_lines-more so_far ending line [] some = absurd (omega arith)
count_lines-more so_far ending line (next ∷ lines) some = refl

-- a whole line, whatever follows
pub count_rest-line : (so_far : Counted) (ending : Ending) (line more : List ℕ) → HasNoLineFeed line
    → count_rest so_far ending (line ++ 10 ∷ more) ≡ go_on so_far (line_of so_far line) (λ good. count_rest (with_line so_far good) ending more)
count_rest-line so_far ending line more plain =
    ap (count_lines so_far ending) (lines_of-line line more plain)
    ∙ count_lines-more so_far ending line (lines_of more) (lines_of-some more)

-- what follows the last end of a line
pub count_rest-last : (so_far : Counted) (ending : Ending) (line : List ℕ) → HasNoLineFeed line
    → count_rest so_far ending line ≡ last_line so_far ending line
count_rest-last so_far ending line plain = ap (count_lines so_far ending) (lines_of-last line plain)

line_of-long : (so_far : Counted) (line : List ℕ) → 4096 < length line → line_of so_far line ≡ Err TooLong
unfolding line_of
line_of-long so_far line long = rw (lt-ltb 4096 (length line) long)

last_line-long : (so_far : Counted) (ending : Ending) (line : List ℕ) → 4096 < length line → last_line so_far ending line ≡ bad_line (so_far.lines + 1) TooLong
unfolding last_line
last_line-long so_far ending line long = rw (lt-ltb 4096 (length line) long)

count_lines-long : (so_far : Counted) (ending : Ending) (line : List ℕ) (lines : List (List ℕ)) → 4096 < length line
    → count_lines so_far ending (line ∷ lines) ≡ bad_line (so_far.lines + 1) TooLong
count_lines-long so_far ending line [] long = last_line-long so_far ending line long
count_lines-long so_far ending line (next ∷ lines) long =
    ap (λ judged. go_on so_far judged (λ good. count_lines (with_line so_far good) ending (next ∷ lines))) (line_of-long so_far line long)

-- more than 4096 bytes of a line, whatever follows
pub count_rest-long : (so_far : Counted) (ending : Ending) (front more : List ℕ) → HasNoLineFeed front → 4096 < length front
    → count_rest so_far ending (front ++ more) ≡ bad_line (so_far.lines + 1) TooLong
count_rest-long so_far ending front more plain long =
    let first = first_line front more plain in
    ap (count_lines so_far ending) first.cut
    ∙ count_lines-long so_far ending (front ++ first.more) first.others (omega (arith, length-append front first.more))
