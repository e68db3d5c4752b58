-- A number of which all digits but the last one are kept.
use Rattle.std.proofs.Common.{◌≡◌, ◌≤◌, ◌<◌, ◌+◌, ◌^◌, ◌/◌, ◌%◌, ◌++◌, ◌∷◌, [], ◌∙◌, ℕ, List, ap, append_assoc, arith, decimal, sym}
use Rattle.std.proofs.lemmas.Fmt.{decimal_step}

-- the last digit, and a text behind it, follow them
pub with_last : (n : ℕ) (rest : List ℕ) → 10 ≤ n → n < 2 ^ 64 → decimal (n / 10) ++ (48 + n % 10) ∷ rest ≡ decimal n ++ rest
with_last n rest long small =
    sym (append_assoc (decimal (n / 10)) ((48 + n % 10) ∷ []) rest)
    ∙ ap (λ digits. digits ++ rest) (sym (decimal_step n long small))
