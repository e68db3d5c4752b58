use Rattle.std.proofs.Common.{◌∙◌, ◌≡◌, ◌<◌, ◌≤◌, ◌/◌, ◌%◌, ◌+◌, ◌++◌, ◌∷◌, [], ℕ, List, ap, append_assoc, arith, decimal, sym}
use Rattle.std.proofs.lemmas.Fmt.{decimal_digit, decimal_step}
use Rattle.std.proofs.lemmas.Nat.{div_below}
use Rattle.qn_base.proofs.text.add_number.Goals as goal

-- a number of two digits
two_digits : (n : ℕ) → 10 ≤ n → n < 100 → decimal n ≡ (48 + n / 10) ∷ (48 + n % 10) ∷ []
two_digits n low high =
    decimal_step n low (omega arith)
    ∙ ap (λ (digits : List ℕ). digits ++ (48 + n % 10) ∷ []) (decimal_digit (n / 10) (div_below n 10 10 (omega arith) (omega arith)))

pub returns-then-number-lt10-clause-text : goal.returns-then-number-lt10-clause-text
returns-then-number-lt10-clause-text g c =
    c.push.ensures.items ∙ ap (λ digits. c.args.into.now.items ++ digits) (sym (decimal_digit c.args.number (omega arith)))

pub returns-then-number-lt100-clause-text : goal.returns-then-number-lt100-clause-text
returns-then-number-lt100-clause-text g c =
    let n = c.args.number in
    let into = c.args.into.now.items in
    c.push-then-number-lt100-2.ensures.items
    ∙ ap (λ (digits : List ℕ). digits ++ (48 + n % 10) ∷ []) c.push-then-number-lt100.ensures.items
    ∙ append_assoc into ((48 + n / 10) ∷ []) ((48 + n % 10) ∷ [])
    ∙ ap (λ (digits : List ℕ). into ++ digits) (sym (two_digits n (omega arith) (omega arith)))
