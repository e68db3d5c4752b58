-- A text round one byte, which stands at a place that is kept.
use Rattle.std.proofs.Common.{◌≡◌, ◌≤◌, ◌<◌, ◌+◌, ◌++◌, ◌∷◌, ◌∙◌, ℕ, suc, List, add-one, ap, arith, drop, length, length-append, set, sym, take}
use Rattle.std.proofs.lemmas.List.{set_split}
use Rattle.std.proofs.Math.Seq.{drop-append-add, drop-append_seam, take-append_seam}

module _ (before behind text : List ℕ) (byte place : ℕ) (is : text ≡ before ++ byte ∷ behind) (here : place ≡ length before) where
  pub within : place < length text
  within =
      let long : length text ≡ length before + length (byte ∷ behind) = ap length is ∙ length-append before (byte ∷ behind) in
      omega arith

  pub taken : take place text ≡ before
  taken = ap (λ i. take i text) here ∙ ap (λ t. take (length before) t) is ∙ take-append_seam before (byte ∷ behind)

  pub left : drop place text ≡ byte ∷ behind
  left = ap (λ i. drop i text) here ∙ ap (λ t. drop (length before) t) is ∙ drop-append_seam before (byte ∷ behind)

  past : drop (suc place) text ≡ behind
  past =
      ap (λ i. drop (suc i) text) here
      ∙ ap (λ t. drop (suc (length before)) t) is
      ∙ ap (λ i. drop i (before ++ byte ∷ behind)) (sym (add-one (length before)))
      ∙ drop-append-add before (byte ∷ behind) 1

  -- another byte stands at the place
  pub changed : (other : ℕ) → set text place other ≡ before ++ other ∷ behind
  changed other =
      set_split text place other within
      ∙ ap (λ front. front ++ other ∷ drop (suc place) text) taken
      ∙ ap (λ end. before ++ other ∷ end) past
