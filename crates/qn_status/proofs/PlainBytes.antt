-- Conditions stand between quotes as they are, and are UTF-8.
use Rattle.std.proofs.Common.{◌≡◌, ℕ, zero, suc, ◌+◌, ◌/◌, ◌%◌, ◌<◌, ◌≤◌, Bool, true, false, cond, ◌&&◌, ◌==◌, not, List, [], ◌∷◌, ◌++◌, refl, ap₂, ◌∙◌, arith, nat_le, nat_lt, codes, decimal}
use Rattle.std.specs.Str.{IsAscii}
use Rattle.std.specs.Fmt.{digits, digits_onto, digit_glyph}
use Rattle.std.proofs.lemmas.Bool.{and_parts, leb-true, not-true}
use Rattle.std.proofs.lemmas.Bool.Decides.{nat_tests}
use Rattle.std.proofs.lemmas.List.Folds.{list_all-append}
use Rattle.std.proofs.lemmas.Str.Ascii.{IsAscii-cons, IsAscii-nil}
use Rattle.json.specs.Print.{escape, escape_byte}
use Rattle.qn_model.specs.declared.life.Why.{Why}
use Rattle.qn_model.specs.declared.life.Why.TheVariants.{Down, Holding, NoView, WaitForAll, NotQuorate, NotChosen, HeldBy, Unheard, Unfenced, Clear}
use Rattle.qn_names.specs.WhyTexts.{why_text}
use Rattle.qn_status.specs.PlainTexts.{is_plain, are_plain}

plain_glyph : (d : ℕ) → d < 10 → is_plain (digit_glyph false d) ≡ true
plain_glyph d small =
    let is : nat_lt d 10 ≡ true = grind (arith, nat_tests) in
    let plain : is_plain (48 + d) ≡ true = grind (arith, nat_tests) in
    rw is plain

plain_cons : (b : ℕ) (text : List ℕ) → is_plain b ≡ true → are_plain text ≡ true → are_plain (b ∷ text) ≡ true
plain_cons b text first rest = ap₂ (λ x y. x && y) first rest

plain_either : (b : Bool) (one other : List ℕ) → are_plain one ≡ true → are_plain other ≡ true → are_plain (cond b one other) ≡ true
plain_either true one other first second = first
plain_either false one other first second = second

plain_onto : (k n : ℕ) (text : List ℕ) → are_plain text ≡ true → are_plain (digits_onto k 10 false n text) ≡ true
plain_onto zero n text plain = plain
plain_onto (suc k) n text plain =
    let more = plain_cons (digit_glyph false (n % 10)) text (plain_glyph (n % 10) (omega arith)) plain in
    plain_either (n / 10 == 0) (digit_glyph false (n % 10) ∷ text) (digits_onto k 10 false (n / 10) (digit_glyph false (n % 10) ∷ text)) more
    (plain_onto k (n / 10) (digit_glyph false (n % 10) ∷ text) more)

plain_decimal : (n : ℕ) → are_plain (decimal n) ≡ true
unfolding digits
plain_decimal n = plain_onto 64 n [] refl

plain_append : (front back : List ℕ) → are_plain front ≡ true → are_plain back ≡ true → are_plain (front ++ back) ≡ true
plain_append front back first second = list_all-append is_plain front back ∙ ap₂ (λ x y. x && y) first second

plain_id : (word : List ℕ) (id : ℕ) → are_plain word ≡ true → are_plain (word ++ decimal id) ≡ true
plain_id word id plain = plain_append word (decimal id) plain (plain_decimal id)

-- every condition is plain
pub plain_why : (why : Why) → are_plain (why_text why) ≡ true
plain_why Down = refl
plain_why Holding = refl
plain_why NoView = refl
plain_why WaitForAll = refl
plain_why (NotQuorate votes quorum) =
    plain_id (codes "not-quorate:" ++ decimal votes ++ codes "/") quorum (plain_append (codes "not-quorate:" ++ decimal votes) (codes "/") (plain_id (codes "not-quorate:") votes refl) refl)
plain_why (NotChosen id) = plain_id (codes "not-chosen:") id.0 refl
plain_why (HeldBy id) = plain_id (codes "held-by:") id.0 refl
plain_why (Unheard id) = plain_id (codes "unheard:") id.0 refl
plain_why (Unfenced id false left) = plain_append (codes "unfenced:" ++ decimal id.0) (codes ":unwritten") (plain_id (codes "unfenced:") id.0 refl) refl
plain_why (Unfenced id true left) =
    plain_id (codes "unfenced:" ++ decimal id.0 ++ codes ":") left (plain_append (codes "unfenced:" ++ decimal id.0) (codes ":") (plain_id (codes "unfenced:") id.0 refl) refl)
plain_why Clear = refl

record Bounds (b : ℕ) : Type 0 where
  low : 45 ≤ b
  high : b ≤ 122
  other : (b == 92) ≡ false

bounds_of : (b : ℕ) → is_plain b ≡ true → Bounds b
bounds_of b plain =
    let outer = and_parts (nat_le 45 b && nat_le b 122) (not (b == 92)) plain in
    let inner = and_parts (nat_le 45 b) (nat_le b 122) outer.0 in
    record { low = leb-true 45 b inner.0; high = leb-true b 122 inner.1; other = not-true (b == 92) outer.1 }

escape_plain_byte : (b : ℕ) → is_plain b ≡ true → escape_byte b ≡ b ∷ []
unfolding escape_byte
escape_plain_byte b plain =
    let bounds = bounds_of b plain in
    let low = bounds.low in
    let a : (b == 34) ≡ false = grind (arith, nat_tests) in
    let c : (b == 8) ≡ false = grind (arith, nat_tests) in
    let d : (b == 12) ≡ false = grind (arith, nat_tests) in
    let e : (b == 10) ≡ false = grind (arith, nat_tests) in
    let f : (b == 13) ≡ false = grind (arith, nat_tests) in
    let g : (b == 9) ≡ false = grind (arith, nat_tests) in
    let h : nat_lt b 32 ≡ false = grind (arith, nat_tests) in
    let i = bounds.other in
    rw (a, i, c, d, e, f, g, h) refl

-- a plain text has no escapes
pub escape_plain : (text : List ℕ) → are_plain text ≡ true → escape text ≡ text
escape_plain [] plain = refl
escape_plain (b ∷ text) plain =
    let parts = and_parts (is_plain b) (are_plain text) plain in
    ap₂ (λ x y. x ++ y) (escape_plain_byte b parts.0) (escape_plain text parts.1)

-- a plain text is ASCII
pub ascii_plain : (text : List ℕ) → are_plain text ≡ true → IsAscii text
ascii_plain [] plain = IsAscii-nil
ascii_plain (b ∷ text) plain =
    let parts = and_parts (is_plain b) (are_plain text) plain in
    let high = (bounds_of b parts.0).high in
    IsAscii-cons b text (omega arith) (ascii_plain text parts.1)
