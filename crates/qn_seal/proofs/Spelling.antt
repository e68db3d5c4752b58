-- Bytes are opened exactly where they are a spelling.
use Rattle.std.proofs.Common.{◌≡◌, ◌<◌, ◌≤◌, ◌^◌, ◌-◌, ◌+◌, ℕ, Bool, true, false, List, ◌++◌, length, drop, take, Option, Some, None, IfSome, IfNone, option_map, if◌then◌else◌, refl, sym, ap, ◌∙◌, arith}
use Rattle.std.specs.Int.{bytes_high_first}
use Rattle.std.proofs.lemmas.Slice.Eq.{bytes_eq-Decides}
use Rattle.std.proofs.lemmas.List.{length-append, length-drop, length-take}
use Rattle.std.proofs.Math.Seq.{take-append_seam, drop-append_seam}
use Rattle.std.proofs.lemmas.Bool.{and_parts, and_from, cond-true, leb-true, le-leb}
use Rattle.std.proofs.lemmas.Option.{cond_some}
use Rattle.byteorder.specs.Numbers.{big_number-reads_back}
use Rattle.sha2.proofs.Facts256.{length-sha256}
use Rattle.qn_seal.specs.Hmac.{hmac}
use Rattle.qn_seal.specs.declared.keys.Key.{Key}
use Rattle.qn_seal.specs.declared.seals.Seal.{Seal}
use Rattle.qn_seal.specs.Seals.{head_bytes, sealed, IsSeal, Spells}
use Rattle.qn_seal.specs.Opening.{opened, seal_at, inner_at}

same_seal : (first second : Seal) → first.from ≡ second.from → first.to ≡ second.to → first.boot ≡ second.boot → first.number ≡ second.number → first ≡ second
same_seal first second from to boot number = rw (from, to, boot, number) refl

-- the fields of a head are read back
seal_back : (key : ℕ) (seal : Seal) (inner tag : List ℕ) → seal.boot < 2 ^ 64 → seal.number < 2 ^ 64 → seal_at ((head_bytes key seal ++ inner) ++ tag) ≡ seal
unfolding head_bytes
seal_back key seal inner tag boot number =
    same_seal (seal_at ((head_bytes key seal ++ inner) ++ tag)) seal refl refl
    (big_number-reads_back 8 seal.boot ((bytes_high_first 8 seal.number ++ inner) ++ tag) boot)
    (big_number-reads_back 8 seal.number (inner ++ tag) number)

length-head : (key : ℕ) (seal : Seal) → length (head_bytes key seal) ≡ 22
unfolding head_bytes
length-head key seal = refl

length-three : (head inner tag : List ℕ) → length head ≡ 22 → length tag ≡ 32 → length ((head ++ inner) ++ tag) ≡ length inner + 54
length-three head inner tag is_head is_tag = grind (arith, length-append, is_head, is_tag)

-- a packet of a spelling is read back
inner_back : (head inner tag : List ℕ) → length head ≡ 22 → length tag ≡ 32 → inner_at ((head ++ inner) ++ tag) ≡ inner
inner_back head inner tag is_head is_tag =
    let size : length ((head ++ inner) ++ tag) - 32 ≡ length (head ++ inner) = grind (arith, length-append, is_tag) in
    let body : take (length ((head ++ inner) ++ tag) - 32) ((head ++ inner) ++ tag) ≡ head ++ inner =
    ap (λ n. take n ((head ++ inner) ++ tag)) size ∙ take-append_seam (head ++ inner) tag in
    let rest : drop 22 (head ++ inner) ≡ inner = ap (λ n. drop n (head ++ inner)) (sym is_head) ∙ drop-append_seam head inner in
    ap (drop 22) body ∙ rest

inner_sizes : (bytes : List ℕ) → 58 ≤ length bytes → length bytes ≤ 128 → (4 ≤ length (inner_at bytes)) × (length (inner_at bytes) ≤ 74)
inner_sizes bytes long short =
    let size : length (inner_at bytes) ≡ length bytes - 54 = grind (arith, length-drop 22 (take (length bytes - 32) bytes), length-take (length bytes - 32) bytes) in
    (rw size (omega arith), rw size (omega arith))

opened_spells : (key : Key) (text bytes : List ℕ) (seal : Seal) (inner : List ℕ) → opened key text bytes ≡ Some (seal, inner) → Spells key text bytes seal inner
unfolding opened
opened_spells key text bytes seal inner is =
    let found = cond_some _ (seal_at bytes, inner_at bytes) (seal, inner) is in
    let tests = and_parts _ _ found.0 in
    let bounds = and_parts _ _ tests.0 in
    let same_seal : seal ≡ seal_at bytes = ap (λ p. p.0) (sym found.1) in
    let same_inner : inner ≡ inner_at bytes = ap (λ p. p.1) (sym found.1) in
    let sizes = inner_sizes bytes (leb-true _ _ bounds.0) (leb-true _ _ bounds.1) in
    record {
      long = rw same_inner sizes.0;
      short = rw same_inner sizes.1;
      spelling = rw (same_seal, same_inner) (sym ((bytes_eq-Decides _ _).0 tests.1));
    }

opens_where : (key : Key) (text bytes : List ℕ) (seal : Seal) (inner : List ℕ) → bytes ≡ sealed key text seal inner → seal_at bytes ≡ seal → inner_at bytes ≡ inner → 58 ≤ length bytes → length bytes ≤ 128 → opened key text bytes ≡ Some (seal, inner)
unfolding opened
opens_where key text bytes seal inner is is_seal is_inner long short =
    let same : sealed key text (seal_at bytes) (inner_at bytes) ≡ bytes = rw (is_seal, is_inner) (sym is) in
    cond-true _ (Some (seal_at bytes, inner_at bytes)) None (and_from _ _ (and_from _ _ (le-leb _ _ long) (le-leb _ _ short)) ((bytes_eq-Decides _ _).1 same)) ∙ rw (is_seal, is_inner) refl

spelling_opens : (key : Key) (text : List ℕ) (seal : Seal) (inner : List ℕ) → 4 ≤ length inner → length inner ≤ 74 → seal.boot < 2 ^ 64 → seal.number < 2 ^ 64 → opened key text (sealed key text seal inner) ≡ Some (seal, inner)
spelling_opens key text seal inner long short boot number =
    let tag = hmac key.secret (text ++ (head_bytes key.number seal ++ inner)) in
    let is_tag : length tag ≡ 32 = length-sha256 _ in
    let is_head = length-head key.number seal in
    let size : length (sealed key text seal inner) ≡ length inner + 54 = length-three (head_bytes key.number seal) inner tag is_head is_tag in
    opens_where key text (sealed key text seal inner) seal inner refl
    (seal_back key.number seal inner tag boot number)
    (inner_back (head_bytes key.number seal) inner tag is_head is_tag)
    (rw size (omega arith)) (rw size (omega arith))

none_spells : (key : Key) (text bytes : List ℕ) → None ≡ opened key text bytes → (seal : Seal) (inner : List ℕ) → IsSeal seal → Spells key text bytes seal inner → ⊥
none_spells key text bytes is seal inner fits spells =
    let opens = spelling_opens key text seal inner spells.long spells.short fits.boot fits.number in
    let same : opened key text bytes ≡ Some (seal, inner) = ap (opened key text) spells.spelling ∙ opens in
    cc

pub found_some : {A : Type 0} (key : Key) (text bytes : List ℕ) (found : Option A) (seal : A → Seal) (inner : A → List ℕ) → option_map (λ p. (seal p, inner p)) found ≡ opened key text bytes → IfSome found (λ p. Spells key text bytes (seal p) (inner p))
found_some key text bytes None seal inner is = tt
found_some key text bytes (Some p) seal inner is = opened_spells key text bytes (seal p) (inner p) (sym is)

pub found_none : {A : Type 0} (key : Key) (text bytes : List ℕ) (found : Option A) (seal : A → Seal) (inner : A → List ℕ) → option_map (λ p. (seal p, inner p)) found ≡ opened key text bytes → IfNone found ((s : Seal) (i : List ℕ) → IsSeal s → Spells key text bytes s i → ⊥)
found_none key text bytes None seal inner is = none_spells key text bytes is
found_none key text bytes (Some p) seal inner is = tt
