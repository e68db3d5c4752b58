-- Laws of the lines of an input whose first line, or what there is of it, is known.
use Rattle.std.specs.Prelude.{◌≡◌, ◌<◌, ◌==◌, ℕ, false, List, [], ◌∷◌, ◌++◌, length, All}
use Rattle.std.specs.List.{onto_first}
use Rattle.std.proofs.Common.{refl, ap, ◌∙◌, arith}
use Rattle.std.proofs.lemmas.List.Elements.{All-head, All-tail}
use Rattle.std.proofs.lemmas.List.Splits.{slice_split_at, slice_split_none, slice_split-cons_no, length-slice_split}
use Rattle.qn_model.specs.Lines.{lines_of}

-- no byte ends a line
abbrev pub IsPartOfLine : List ℕ → Type 0
IsPartOfLine text = All (λ byte. (byte == 10) ≡ false) text

-- a whole line, whatever follows
pub lines_of-line : (line more : List ℕ) → IsPartOfLine line → lines_of (line ++ 10 ∷ more) ≡ line ∷ lines_of more
lines_of-line line more plain = slice_split_at (λ b. b == 10) line 10 more plain refl

-- what follows the last end of a line
pub lines_of-last : (line : List ℕ) → IsPartOfLine line → lines_of line ≡ line ∷ []
lines_of-last line plain = slice_split_none (λ b. b == 10) line plain

-- there is always a last line
pub lines_of-some : (text : List ℕ) → 0 < length (lines_of text)
lines_of-some text = omega (arith, length-slice_split (λ b. b == 10) text)

-- the first line of a text that begins with these bytes
pub record FirstLine (front text : List ℕ) : Type 0 where
  pub more : List ℕ
  pub others : List (List ℕ)
  pub cut : lines_of text ≡ (front ++ more) ∷ others

some_first : (lines : List (List ℕ)) → 0 < length lines → (first : List ℕ) × (others : List (List ℕ)) × (lines ≡ first ∷ others)
some_first [] some = absurd (omega arith)
some_first (first ∷ others) some = (first, others, refl)

-- the first line goes on with them
pub first_line : (front more : List ℕ) → IsPartOfLine front → FirstLine front (front ++ more)
first_line [] more plain =
    let first = some_first (lines_of more) (lines_of-some more) in
    record { more = first.0; others = first.1; cut = first.2 }
first_line (byte ∷ front) more plain =
    let behind = first_line front more (All-tail (λ b. (b == 10) ≡ false) byte front plain) in
    record {
      more = behind.more;
      others = behind.others;
      cut =
          slice_split-cons_no (λ b. b == 10) byte (front ++ more) (All-head (λ b. (b == 10) ≡ false) byte front plain)
          ∙ ap (onto_first byte) behind.cut;
    }
