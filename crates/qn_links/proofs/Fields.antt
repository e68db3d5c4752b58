-- A field of a layout in front of other bytes has one value.
use Rattle.std.proofs.Common.{◌≡◌, ℕ, ◌^◌, ◌<◌, Bool, true, false, cond, List, ◌∷◌, ◌++◌, length, drop, take, slice_index, refl, sym, ap, ◌∙◌, append_assoc, arith}
use Rattle.std.specs.Int.{bytes_high_first}
use Rattle.std.proofs.Math.Seq.{take-append_seam, drop-append_seam}
use Rattle.byteorder.specs.Endian.{big_from}
use Rattle.byteorder.specs.Numbers.{big_number-reads_back, length-bytes_high_first}

-- bytes that were added in two parts
pub adds_two : (old middle new first second : List ℕ) → middle ≡ old ++ first → new ≡ middle ++ second → new ≡ old ++ (first ++ second)
adds_two old middle new first second one two = two ∙ ap (λ l. l ++ second) one ∙ append_assoc old first second

pub two_parts : (first other rest remnant : List ℕ) → length first ≡ length other → first ++ rest ≡ other ++ remnant → (first ≡ other) × (rest ≡ remnant)
two_parts first other rest remnant size is =
    let front : first ≡ other = sym (take-append_seam first rest) ∙ ap (take (length first)) is ∙ ap (λ n. take n (other ++ remnant)) size ∙ take-append_seam other remnant in
    let back : rest ≡ remnant = sym (drop-append_seam first rest) ∙ ap (drop (length first)) is ∙ ap (λ n. drop n (other ++ remnant)) size ∙ drop-append_seam other remnant in
    (front, back)

pub one_number : (n x y : ℕ) (rest remnant : List ℕ) → x < 256 ^ n → y < 256 ^ n → bytes_high_first n x ++ rest ≡ bytes_high_first n y ++ remnant → (x ≡ y) × (rest ≡ remnant)
one_number n x y rest remnant x_fits y_fits is =
    let parts = two_parts (bytes_high_first n x) (bytes_high_first n y) rest remnant (length-bytes_high_first n x ∙ sym (length-bytes_high_first n y)) is in
    let same : x ≡ y = sym (big_number-reads_back n x rest x_fits) ∙ ap (big_from 0 n) is ∙ big_number-reads_back n y remnant y_fits in
    (same, parts.1)

pub one_head : (x y : ℕ) (rest remnant : List ℕ) → x ∷ rest ≡ y ∷ remnant → (x ≡ y) × (rest ≡ remnant)
one_head x y rest remnant is =
    let head : x ≡ y = ap (λ l. slice_index l 0) is in
    let back : rest ≡ remnant = ap (λ l. drop 1 l) is in
    (head, back)

pub one_flag : (x y : Bool) → ◌≡◌ {A = ℕ} (cond x 1 0) (cond y 1 0) → x ≡ y
one_flag true true is = refl
one_flag true false is = absurd (omega (arith, is))
one_flag false true is = absurd (omega (arith, is))
one_flag false false is = refl
