-- A prefix of the bytes that wait, which goes after a line.
use Rattle.std.proofs.Common.{◌≡◌, ℕ, ◌+◌, ◌<◌, ◌≤◌, ◌==◌, false, List, ◌∷◌, ◌++◌, length, take, drop, get_or, sym, ap, subst, ◌∙◌, append_assoc, take-append-drop, length-append, add-zero, arith}
use Rattle.std.proofs.lemmas.List.{get_or-drop, get_or-take, length-take-le}
use Rattle.std.proofs.lemmas.List.Elements.{All-append, All-from_get_or, All-get_or}
use Rattle.qn_io.specs.declared.buffered.Moved.TheVariants as moved
use Rattle.qn_io.specs.Lines.{HasNoLineFeed, Moves}

-- the line and what waits are the same bytes after the move
front_moved : (line waiting line_new waiting_new : List ℕ) (count : ℕ) → line_new ≡ line ++ take count waiting → drop count waiting ≡ waiting_new
    → line ++ waiting ≡ line_new ++ waiting_new
front_moved line waiting line_new waiting_new count adds leaves =
    ap (λ xs. line ++ xs) (sym (take-append-drop count waiting)) ∙ sym (append_assoc line (take count waiting) (drop count waiting))
    ∙ ap (λ xs. xs ++ drop count waiting) (sym adds) ∙ ap (λ xs. line_new ++ xs) leaves

-- `count` bytes of what waits have no end of line, and only `room` of them, which are fewer, went to the line
module _ (line waiting line_new : List ℕ) (room count : ℕ) (none : HasNoLineFeed (take count waiting)) (high : count ≤ length waiting)
    (low : room < count) (adds : line_new ≡ line ++ take room waiting) where
  byte_at : (k : ℕ) → k < count → (get_or waiting k 0 == 10) ≡ false
  byte_at k below =
      let within : k < length (take count waiting) = omega (arith, length-take-le count waiting high) in
      subst (λ (b : ℕ). (b == 10) ≡ false) (get_or-take count waiting k 0 below) (All-get_or (λ b. (b == 10) ≡ false) (take count waiting) k 0 within none)

  pub short_unended : HasNoLineFeed line → HasNoLineFeed line_new
  short_unended before =
      let short : HasNoLineFeed (take room waiting) = All-from_get_or (λ b. (b == 10) ≡ false) (take room waiting) 0
      (λ k below.
      let near : k < room = omega (arith, length-take-le room waiting (omega arith)) in
      subst (λ (b : ℕ). (b == 10) ≡ false) (sym (get_or-take room waiting k 0 near)) (byte_at k (omega arith))) in
      subst HasNoLineFeed (sym adds) (All-append (λ b. (b == 10) ≡ false) line (take room waiting) before short)

  pub short_moves : (byte : ℕ) (waiting_new : List ℕ) → room + length line ≡ 4096 → drop room waiting ≡ byte ∷ waiting_new → Moves moved.TooLong line waiting line_new waiting_new
  short_moves byte waiting_new full leaves =
      let here : get_or waiting room 0 ≡ byte = ap (λ n. get_or waiting n 0) (sym (add-zero room)) ∙ sym (get_or-drop room waiting 0 0) ∙ ap (λ xs. get_or xs 0 0) leaves in
      let parts : length line_new ≡ length line + length (take room waiting) = ap length adds ∙ length-append line (take room waiting) in (
        omega (arith, parts, length-take-le room waiting (omega arith)),
        (byte, subst (λ (b : ℕ). (b == 10) ≡ false) here (byte_at room low), front_moved line waiting line_new (byte ∷ waiting_new) room adds leaves),
      )
