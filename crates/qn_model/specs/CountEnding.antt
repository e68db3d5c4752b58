-- How the status of `count` and the way in which its input ended belong together.
use Rattle.std.specs.Prelude.{◌≡◌, ◌⊎◌, ℕ, ◌+◌, true, false, cond, List, [], ◌∷◌, length, Result, Ok, Err, nat_lt}
use Rattle.std.proofs.Common.{refl, inl, inr}
use Rattle.qn_base.specs.declared.limits.TheConstants.{MOST_LINE_BYTES}
use Rattle.qn_model.specs.declared.line_fault.LineFault.{LineFault}
use Rattle.qn_model.specs.declared.line_fault.LineFault.TheVariants.{TooLong}
use Rattle.qn_model.specs.declared.count_line.CountLine.{CountLine}
use Rattle.qn_model.specs.Lines.{Ending, Ended, ReadFailed, Outcome, bad_line, lines_of}
use Rattle.qn_model.specs.CountText.{Counted, nothing_counted, count_of, count_lines, last_line, line_of, with_line, go_on, end_of_input}

-- an input that was read to its end gives status 0 or 4, and one that could not be read further 6 or 4
abbrev pub StatusFits : Ending → ℕ → Type 0
StatusFits Ended status = (status ≡ 0) ⊎ (status ≡ 4)
StatusFits ReadFailed status = (status ≡ 6) ⊎ (status ≡ 4)

bad_line_fits : (ending : Ending) (line : ℕ) (fault : LineFault) → StatusFits ending (bad_line line fault).status
bad_line_fits Ended line fault = inr refl
bad_line_fits ReadFailed line fault = inr refl

end_fits : (so_far : Counted) (ending : Ending) (rest : List ℕ) → StatusFits ending (end_of_input so_far ending rest).status
unfolding end_of_input
end_fits so_far ReadFailed rest = inl refl
end_fits so_far Ended [] = inl refl
end_fits so_far Ended (byte ∷ rest) = inr refl

last_line_fits : (so_far : Counted) (ending : Ending) (rest : List ℕ) → StatusFits ending (last_line so_far ending rest).status
unfolding last_line
last_line_fits so_far ending rest =
    elim (nat_lt MOST_LINE_BYTES (length rest)) as (λ b. StatusFits ending (cond b (bad_line (so_far.lines + 1) TooLong) (end_of_input so_far ending rest)).status)
    [ true ↦ bad_line_fits ending (so_far.lines + 1) TooLong | false ↦ end_fits so_far ending rest ]

go_on_fits : (so_far : Counted) (ending : Ending) (judged : Result CountLine LineFault) (next : CountLine → Outcome)
    → ((line : CountLine) → StatusFits ending (next line).status) → StatusFits ending (go_on so_far judged next).status
go_on_fits so_far ending (Ok line) next fits = fits line
go_on_fits so_far ending (Err fault) next fits = bad_line_fits ending (so_far.lines + 1) fault

lines_fit : (so_far : Counted) (ending : Ending) (lines : List (List ℕ)) → StatusFits ending (count_lines so_far ending lines).status
lines_fit so_far ending [] = last_line_fits so_far ending []
lines_fit so_far ending (rest ∷ []) = last_line_fits so_far ending rest
lines_fit so_far ending (line ∷ next ∷ lines) =
    go_on_fits so_far ending (line_of so_far line) (λ good. count_lines (with_line so_far good) ending (next ∷ lines))
    (λ good. lines_fit (with_line so_far good) ending (next ∷ lines))

-- the status of `count` fits the way in which its input ended
pub count_fits : (ending : Ending) (bytes : List ℕ) → StatusFits ending (count_of ending bytes).status
count_fits ending bytes = lines_fit nothing_counted ending (lines_of bytes)

-- the law, for a clause
abbrev pub CountFits : Type 0
CountFits = (ending : Ending) (bytes : List ℕ) → StatusFits ending (count_of ending bytes).status
