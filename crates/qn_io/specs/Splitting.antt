-- Bytes that go out in parts.
use Rattle.std.proofs.Common.{◌≡◌, ℕ, List, ◌++◌, take, drop, sym, ap, ◌∙◌, append_assoc, take-append-drop}

-- a text whose rest is split goes on after the longer prefix
pub split_rest : (text front rest back : List ℕ) (count : ℕ) → text ≡ front ++ rest → back ≡ drop count rest → text ≡ (front ++ take count rest) ++ back
split_rest text front rest back count parts is =
    parts ∙ ap (λ xs. front ++ xs) (sym (take-append-drop count rest)) ∙ sym (append_assoc front (take count rest) (drop count rest))
    ∙ ap (λ xs. (front ++ take count rest) ++ xs) (sym is)
