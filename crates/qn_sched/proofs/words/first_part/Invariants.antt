use Rattle.std.proofs.Common.{◌≡◌, ◌==◌, false, take}
use Rattle.std.specs.Prelude.{All}
use Rattle.qn_sched.proofs.words.first_part.Given as goal

-- the byte does not stand in what was passed
abbrev pub invariant-loop-i : goal.invariant-loop-i
invariant-loop-i l = All (λ b. (b == l.byte) ≡ false) (take l.i l.text)
