use Rattle.std.proofs.Common.{◌≡◌, inl, inr, arith, length}
use Rattle.std.proofs.lemmas.Bool.Decides.{nat_tests}
use Rattle.qn_audit.proofs.Digits.{bytes_between-other}
use Rattle.qn_audit.proofs.log_bytes.count_of.Goals as goal
use Rattle.qn_audit.proofs.log_bytes.count_of.Goals.{then-is_empty-via-then-is_empty, then-is_empty-via-else-is_empty+then-word-ne0, then-is_empty-via-else-is_empty+else-word-ne0+then-count-least, then-is_empty-via-else-is_empty+else-word-ne0+else-count-least+then-most-count}

pub returns-then-is_empty-clause-fault : goal.returns-then-is_empty-clause-fault
returns-then-is_empty-clause-fault c =
    let word = c.args.word.now in
    let least = c.args.least in
    let most = c.args.most in
    let empty = c.is_empty.ensures in
    bytes_between-other least most word c.requires.some
    (λ bytes some twice. elim c.then-is_empty.branch [
      | then-is_empty-via-then-is_empty w ↦ absurd (let is = w.if-is_empty.true in let none : length word ≡ 0 = grind (arith, nat_tests, empty, is) in omega arith)
      | then-is_empty-via-else-is_empty+then-word-ne0 w ↦ absurd (omega arith)
      | then-is_empty-via-else-is_empty+else-word-ne0+then-count-least w ↦ inl (omega arith)
      | then-is_empty-via-else-is_empty+else-word-ne0+else-count-least+then-most-count w ↦ inr (omega arith)
    ])
