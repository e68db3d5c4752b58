-- Texts that are added one after another.
use Rattle.std.proofs.Common.{◌≡◌, ℕ, List, ◌++◌, sym, ap, ◌∙◌, append_assoc}

-- two texts were added, each of two parts
pub added_both : (start first second third fourth middle end : List ℕ) → middle ≡ start ++ (first ++ second) → end ≡ middle ++ (third ++ fourth)
    → end ≡ start ++ (((first ++ second) ++ third) ++ fourth)
added_both start first second third fourth middle end one other =
    other
    ∙ ap (λ text. text ++ (third ++ fourth)) one
    ∙ append_assoc start (first ++ second) (third ++ fourth)
    ∙ ap (λ text. start ++ text) (sym (append_assoc (first ++ second) third fourth))
