-- The window keeps what was taken, and adds nothing else.
use Rattle.std.proofs.Common.{◌≡◌, ◌≢◌, ℕ, ◌+◌, ◌-◌, ◌*◌, ◌/◌, ◌%◌, ◌^◌, ◌<◌, ◌≤◌, ◌==◌, ◌&&◌, ◌||◌, ◌⊎◌, inl, inr, suc, Bool, true, false, not, List, [], ◌∷◌, Option, Some, None, if◌then◌else◌, refl, sym, ap, subst, ◌∙◌, arith}
use Rattle.std.specs.Int.{bit_at}
use Rattle.std.specs.Int.Bits.{shifted_even}
use Rattle.std.specs.Prelude.{bit_or, nat_le, nat_lt}
use Rattle.std.proofs.lemmas.Bool.{and_parts, and_from, cases_lt, cond-true, cond-false, eqb-true, eq-eqb, leb-true, le-leb, lt-ltb, ltb-true, ltb-false, not_from_true, or_from, or_left, or_right}
use Rattle.std.proofs.lemmas.Nat.{pow_pos, pow-add, shr_high, shr-shr, mod-pow-add}
use Rattle.std.proofs.lemmas.Nat.Bits.{bit_at_or, bit_at-pow_same, bit_at-pow_other, bit_at-zero}
use Rattle.std.proofs.Math.Pow.{mod-mod-pow}
use Rattle.qn_seal.specs.declared.seals.Seal.{Seal}
use Rattle.qn_seal.specs.declared.receiver.Newest.{Newest}
use Rattle.qn_seal.specs.Receiving.{is_forgotten, is_newer_than, is_taken, first_newest, late_bit, newest_after, same_boot_after, seen_after}
use Rattle.qn_seal.specs.Windows.{Coming, GoesOn, GoOn, known_after, RefusedOnly, TakenOnce}

-- a mask that is longer than the place of a bit keeps it
pub bit_masked : (n w j : ℕ) → j < w → bit_at (n % 2 ^ w) j ≡ bit_at n j
bit_masked n w j within =
    let m = w - j - 1 in
    let parts : w ≡ (m + 1) + j = omega arith in
    let low : n % 2 ^ j < 2 ^ j = omega (arith, pow_pos j) in
    let split : n % 2 ^ w ≡ (n / 2 ^ j % 2 ^ (m + 1)) * 2 ^ j + n % 2 ^ j = ap (λ k. n % 2 ^ k) parts ∙ mod-pow-add n (m + 1) j in
    ap (λ x. bit_at x j) split ∙ ap (λ x. x % 2) (shr_high (n / 2 ^ j % 2 ^ (m + 1)) j (n % 2 ^ j) low) ∙ mod-mod-pow (n / 2 ^ j) m 1

-- a bit that was shifted up
pub bit_shifted : (x d j : ℕ) → d ≤ j → bit_at (x * 2 ^ d) j ≡ bit_at x (j - d)
bit_shifted x d j above =
    let parts : j ≡ d + (j - d) = omega arith in
    let more : x * 2 ^ d ≡ x * 2 ^ d + 0 = omega arith in
    let back : x * 2 ^ d / 2 ^ d ≡ x = ap (λ y. y / 2 ^ d) more ∙ shr_high x d 0 (pow_pos d) in
    ap (bit_at (x * 2 ^ d)) parts ∙ ap (λ y. y % 2) (sym (shr-shr (x * 2 ^ d) d (j - d))) ∙ ap (λ y. y / 2 ^ (j - d) % 2) back

-- below it no bit is set
pub bit_below : (x d j : ℕ) → j < d → bit_at (x * 2 ^ d) j ≡ 0
bit_below x d j below =
    let k = d - j - 1 in
    let parts : d ≡ suc k + j = omega arith in
    let split : x * 2 ^ d ≡ (x * 2 ^ suc k) * 2 ^ j + 0 = omega (arith, ap (λ e. x * 2 ^ e) parts, ap (λ e. x * e) (pow-add 2 (suc k) j)) in
    ap (λ y. bit_at y j) split ∙ ap (λ y. y % 2) (shr_high (x * 2 ^ suc k) j 0 (pow_pos j)) ∙ shifted_even x k

-- ---- one step of the window

not_less : (a b : ℕ) → b ≤ a → nat_lt a b ≡ false
not_less a b above = by_test (nat_lt a b) refl
  where
    by_test : (t : Bool) → nat_lt a b ≡ t → nat_lt a b ≡ false
    by_test true is = absurd (let less : a < b = ltb-true _ _ is in omega arith)
    by_test false is = is

-- the greatest number is taken
pub seen_first : (seen d : ℕ) → bit_at (seen_after seen d) 0 ≡ 1
seen_first seen d = by_order (cases_lt d 64)
  where
    by_order : (d < 64) ⊎ (64 ≤ d) → bit_at (seen_after seen d) 0 ≡ 1
    by_order (inl short) =
        let is : seen_after seen d ≡ bit_or (seen * 2 ^ d % 2 ^ 64) 1 = cond-true _ _ _ (lt-ltb _ _ short) in
        ap (λ y. bit_at y 0) is ∙ omega (arith, bit_at_or (seen * 2 ^ d % 2 ^ 64) 1 0, bit_at-pow_same 0)
    by_order (inr long) =
        let is : seen_after seen d ≡ 1 = cond-false _ _ _ (not_less d 64 long) in
        ap (λ y. bit_at y 0) is ∙ bit_at-pow_same 0

-- the bit of a number that was taken before, after a step
pub seen_before : (seen d j : ℕ) → 1 ≤ d → d ≤ j → j < 64 → bit_at (seen_after seen d) j ≡ bit_at seen (j - d)
seen_before seen d j some above within =
    let short : nat_lt d 64 ≡ true = lt-ltb _ _ (omega arith) in
    let is : seen_after seen d ≡ bit_or (seen * 2 ^ d % 2 ^ 64) 1 = cond-true _ _ _ short in
    let moved : bit_at (seen * 2 ^ d % 2 ^ 64) j ≡ bit_at seen (j - d) = bit_masked _ 64 j within ∙ bit_shifted seen d j above in
    let apart : j ≢ 0 = λ e. omega (arith, e) in
    let none : bit_at 1 j ≡ 0 = bit_at-pow_other 0 j apart in
    ap (λ y. bit_at y j) is ∙ omega (arith, bit_at_or (seen * 2 ^ d % 2 ^ 64) 1 j, moved, none)

-- no number between the greatest of before and that of now was taken
pub seen_between : (seen d j : ℕ) → 1 ≤ j → j < d → j < 64 → bit_at (seen_after seen d) j ≡ 0
seen_between seen d j some below within = by_order (cases_lt d 64)
  where
    apart : j ≢ 0
    apart e = omega (arith, e)

    none : bit_at 1 j ≡ 0
    none = bit_at-pow_other 0 j apart

    by_order : (d < 64) ⊎ (64 ≤ d) → bit_at (seen_after seen d) j ≡ 0
    by_order (inl short) =
        let is : seen_after seen d ≡ bit_or (seen * 2 ^ d % 2 ^ 64) 1 = cond-true _ _ _ (lt-ltb _ _ short) in
        let low : bit_at (seen * 2 ^ d % 2 ^ 64) j ≡ 0 = bit_masked _ 64 j within ∙ bit_below seen d j below in
        ap (λ y. bit_at y j) is ∙ omega (arith, bit_at_or (seen * 2 ^ d % 2 ^ 64) 1 j, low, none)
    by_order (inr long) =
        let no : nat_lt d 64 ≡ false = not_less d 64 long in
        let is : seen_after seen d ≡ 1 = cond-false _ _ _ no in
        ap (λ y. bit_at y j) is ∙ none

-- ---- a number counts as taken

-- it is no greater than the greatest, and too far behind or marked
abbrev pub Marked : Newest → ℕ → Type 0
Marked last number = (number ≤ last.number) × ((64 ≤ last.number - number) ⊎ (bit_at last.seen (last.number - number) ≡ 1))

either : (x y : Bool) → (x || y) ≡ true → (x ≡ true) ⊎ (y ≡ true)
either true y h = inl refl
either false y h = inr h

pub marked : (last : Newest) (number : ℕ) → is_taken last number ≡ true → Marked last number
marked last number is =
    let parts = and_parts _ _ is in
    (leb-true _ _ parts.0, by_case (either _ _ parts.1))
  where
    by_case : (nat_le 64 (last.number - number) ≡ true) ⊎ ((last.seen / 2 ^ (last.number - number) % 2 == 1) ≡ true)
        → (64 ≤ last.number - number) ⊎ (bit_at last.seen (last.number - number) ≡ 1)
    by_case (inl far) = inl (leb-true _ _ far)
    by_case (inr bit) = inr (eqb-true _ _ bit)

pub taken : (last : Newest) (number : ℕ) → Marked last number → is_taken last number ≡ true
taken last number h = and_from _ _ (le-leb _ _ h.0) (by_case h.1)
  where
    by_case : (64 ≤ last.number - number) ⊎ (bit_at last.seen (last.number - number) ≡ 1)
        → (nat_le 64 (last.number - number) || last.seen / 2 ^ (last.number - number) % 2 == 1) ≡ true
    by_case (inl far) = or_left _ _ (le-leb _ _ far)
    by_case (inr bit) = or_right _ _ (eq-eqb _ _ bit)

-- what is known after a packet with a greater number, and after a late one
abbrev stepped : Newest → Seal → ℕ → Newest
stepped last seal tick = record { boot = seal.boot; number = seal.number; tick = tick; seen = seen_after last.seen (seal.number - last.number) }

abbrev filled : Newest → Seal → ℕ → Newest
filled last seal tick = record { boot = seal.boot; number = last.number; tick = tick; seen = bit_or last.seen (late_bit (last.number - seal.number)) }

after_greater : (last : Newest) (seal : Seal) (tick : ℕ) → last.number < seal.number → same_boot_after last seal tick ≡ stepped last seal tick
after_greater last seal tick greater = cond-true _ _ _ (lt-ltb _ _ greater)

after_late : (last : Newest) (seal : Seal) (tick : ℕ) → seal.number ≤ last.number → same_boot_after last seal tick ≡ filled last seal tick
after_late last seal tick late = cond-false _ _ _ (not_less _ _ late)

-- a packet is taken
own_same : (last : Newest) (seal : Seal) (tick : ℕ) → Marked (same_boot_after last seal tick) seal.number
own_same last seal tick = by_order (cases_lt last.number seal.number)
  where
    by_order : (last.number < seal.number) ⊎ (seal.number ≤ last.number) → Marked (same_boot_after last seal tick) seal.number
    by_order (inl greater) =
        let none : seal.number - seal.number ≡ 0 = omega arith in
        let own : Marked (stepped last seal tick) seal.number =
        (omega arith, inr (ap (bit_at (seen_after last.seen (seal.number - last.number))) none ∙ seen_first last.seen (seal.number - last.number))) in
        subst (λ l. Marked l seal.number) (sym (after_greater last seal tick greater)) own
    by_order (inr late) = subst (λ l. Marked l seal.number) (sym (after_late last seal tick late)) (late, by_place (cases_lt (last.number - seal.number) 64))
      where
        by_place : (last.number - seal.number < 64) ⊎ (64 ≤ last.number - seal.number)
            → (64 ≤ last.number - seal.number) ⊎ (bit_at (bit_or last.seen (late_bit (last.number - seal.number))) (last.number - seal.number) ≡ 1)
        by_place (inr far) = inl far
        by_place (inl near) =
            let k = last.number - seal.number in
            let bit : late_bit k ≡ 2 ^ k = cond-true _ _ _ (lt-ltb _ _ near) in
            inr (ap (λ b. bit_at (bit_or last.seen b) k) bit ∙ omega (arith, bit_at_or last.seen (2 ^ k) k, bit_at-pow_same k))

-- what was taken stays so
kept_same : (last : Newest) (seal : Seal) (tick number : ℕ) → Marked last number → Marked (same_boot_after last seal tick) number
kept_same last seal tick number h = by_order (cases_lt last.number seal.number)
  where
    by_order : (last.number < seal.number) ⊎ (seal.number ≤ last.number) → Marked (same_boot_after last seal tick) number
    by_order (inl greater) = subst (λ l. Marked l number) (sym (after_greater last seal tick greater)) (omega (arith, h.0), by_place (cases_lt (seal.number - number) 64))
      where
        by_place : (seal.number - number < 64) ⊎ (64 ≤ seal.number - number)
            → (64 ≤ seal.number - number) ⊎ (bit_at (seen_after last.seen (seal.number - last.number)) (seal.number - number) ≡ 1)
        by_place (inr far) = inl far
        by_place (inl near) = inr (by_mark h.1)
          where
            by_mark : (64 ≤ last.number - number) ⊎ (bit_at last.seen (last.number - number) ≡ 1)
                → bit_at (seen_after last.seen (seal.number - last.number)) (seal.number - number) ≡ 1
            by_mark (inl far) = absurd (omega (arith, h.0, far, near, greater))
            by_mark (inr bit) =
                let back : seal.number - number - (seal.number - last.number) ≡ last.number - number = omega (arith, h.0, greater) in
                seen_before last.seen (seal.number - last.number) (seal.number - number) (omega (arith, greater)) (omega (arith, h.0, greater)) near ∙ ap (bit_at last.seen) back ∙ bit
    by_order (inr late) = subst (λ l. Marked l number) (sym (after_late last seal tick late)) (h.0, by_mark h.1)
      where
        by_mark : (64 ≤ last.number - number) ⊎ (bit_at last.seen (last.number - number) ≡ 1)
            → (64 ≤ last.number - number) ⊎ (bit_at (bit_or last.seen (late_bit (last.number - seal.number))) (last.number - number) ≡ 1)
        by_mark (inl far) = inl far
        by_mark (inr bit) =
            let b = late_bit (last.number - seal.number) in
            let j = last.number - number in
            let low : bit_at b j < 2 = omega arith in
            inr (omega (arith, bit_at_or last.seen b j, bit, low))

-- nothing else is: a number counts as taken only where it is this one, was taken, or is too far behind
only_same : (last : Newest) (seal : Seal) (tick number : ℕ) → Marked (same_boot_after last seal tick) number
    → (number ≡ seal.number) ⊎ (Marked last number ⊎ (number + 64 ≤ (same_boot_after last seal tick).number))
only_same last seal tick number h = by_order (cases_lt last.number seal.number)
  where
    Says : Newest → Type 0
    Says new = (number ≡ seal.number) ⊎ (Marked last number ⊎ (number + 64 ≤ new.number))

    by_order : (last.number < seal.number) ⊎ (seal.number ≤ last.number) → Says (same_boot_after last seal tick)
    by_order (inl greater) =
        let is = after_greater last seal tick greater in
        let now : Marked (stepped last seal tick) number = subst (λ l. Marked l number) is h in
        subst Says (sym is) (by_mark now now.1)
      where
        by_mark : Marked (stepped last seal tick) number
            → (64 ≤ seal.number - number) ⊎ (bit_at (seen_after last.seen (seal.number - last.number)) (seal.number - number) ≡ 1) → Says (stepped last seal tick)
        by_mark now (inl far) = inr (inr (omega (arith, now.0)))
        by_mark now (inr bit) = by_far (cases_lt (seal.number - number) 64)
          where
            between : number < seal.number → last.number < number → seal.number - number < 64 → Says (stepped last seal tick)
            between below above near =
                let none = seen_between last.seen (seal.number - last.number) (seal.number - number) (omega arith) (omega arith) near in
                absurd (omega (arith, bit, none))

            before : number ≤ last.number → seal.number - number < 64 → Says (stepped last seal tick)
            before below near =
                let back : seal.number - number - (seal.number - last.number) ≡ last.number - number = omega (arith, below, greater) in
                let was : bit_at last.seen (last.number - number) ≡ 1 =
                ap (bit_at last.seen) (sym back)
                ∙ sym (seen_before last.seen (seal.number - last.number) (seal.number - number) (omega (arith, greater)) (omega (arith, below, greater)) near) ∙ bit in
                inr (inl (below, inr was))

            by_place : seal.number - number < 64 → (last.number < number) ⊎ (number ≤ last.number) → Says (stepped last seal tick)
            by_place near (inr below) = before below near
            by_place near (inl above) = by_own (cases_lt number seal.number)
              where
                by_own : (number < seal.number) ⊎ (seal.number ≤ number) → Says (stepped last seal tick)
                by_own (inl below) = between below above near
                by_own (inr same) = inl (omega (arith, now.0))

            by_far : (seal.number - number < 64) ⊎ (64 ≤ seal.number - number) → Says (stepped last seal tick)
            by_far (inl near) = by_place near (cases_lt last.number number)
            by_far (inr far) = inr (inr (omega (arith, now.0)))
    by_order (inr late) =
        let is = after_late last seal tick late in
        let now : Marked (filled last seal tick) number = subst (λ l. Marked l number) is h in
        subst Says (sym is) (by_mark now now.1)
      where
        by_mark : Marked (filled last seal tick) number
            → (64 ≤ last.number - number) ⊎ (bit_at (bit_or last.seen (late_bit (last.number - seal.number))) (last.number - number) ≡ 1) → Says (filled last seal tick)
        by_mark now (inl far) = inr (inr (omega (arith, now.0)))
        by_mark now (inr bit) = by_was (cases_lt (bit_at last.seen (last.number - number)) 1)
          where
            own : bit_at (late_bit (last.number - seal.number)) (last.number - number) ≡ 1 → Says (filled last seal tick)
            own set = by_near (cases_lt (last.number - seal.number) 64)
              where
                by_near : (last.number - seal.number < 64) ⊎ (64 ≤ last.number - seal.number) → Says (filled last seal tick)
                by_near (inr far) =
                    let zero_bit : late_bit (last.number - seal.number) ≡ 0 = cond-false _ _ _ (not_less (last.number - seal.number) 64 far) in
                    absurd (omega (arith, sym set ∙ ap (λ b. bit_at b (last.number - number)) zero_bit ∙ bit_at-zero (last.number - number)))
                by_near (inl near) = by_same (cases_lt (last.number - number) (last.number - seal.number)) (cases_lt (last.number - seal.number) (last.number - number))
                  where
                    one_bit : late_bit (last.number - seal.number) ≡ 2 ^ (last.number - seal.number)
                    one_bit = cond-true _ _ _ (lt-ltb _ _ near)

                    here : bit_at (2 ^ (last.number - seal.number)) (last.number - number) ≡ 1
                    here = ap (λ b. bit_at b (last.number - number)) (sym one_bit) ∙ set

                    other : (last.number - number) ≢ (last.number - seal.number) → Says (filled last seal tick)
                    other apart = absurd (omega (arith, sym here ∙ bit_at-pow_other (last.number - seal.number) (last.number - number) apart))

                    by_same : ((last.number - number) < (last.number - seal.number)) ⊎ ((last.number - seal.number) ≤ (last.number - number)) → ((last.number - seal.number) < (last.number - number)) ⊎ ((last.number - number) ≤ (last.number - seal.number)) → Says (filled last seal tick)
                    by_same (inl less) more = other (λ e. omega (arith, e, less))
                    by_same (inr less) (inl more) = other (λ e. omega (arith, e, more))
                    by_same (inr less) (inr more) = inl (omega (arith, now.0, late, less, more))

            by_was : (bit_at last.seen (last.number - number) < 1) ⊎ (1 ≤ bit_at last.seen (last.number - number)) → Says (filled last seal tick)
            by_was (inr was) = inr (inl (now.0, inr (omega arith)))
            by_was (inl none) =
                own (omega (arith, bit, bit_at_or last.seen (late_bit (last.number - seal.number)) (last.number - number)))

-- ---- the laws

-- of a boot that goes on
goes_on : (last : Newest) (came : Coming) → GoesOn last came → newest_after (Some last) came.0 came.1 ≡ same_boot_after last came.0 came.1
goes_on last came h = cond-false _ _ _ (or_from _ _ h.0 (not_less last.boot came.0.boot (omega (arith, h.1))))

-- the first packet, or one of a later boot
own_first : (seal : Seal) (tick : ℕ) → Marked (first_newest seal tick) seal.number
own_first seal tick =
    let none : seal.number - seal.number ≡ 0 = omega arith in
    (omega arith, inr (ap (bit_at 1) none ∙ bit_at-pow_same 0))

own_after : (last : Option Newest) (seal : Seal) (tick : ℕ) → Marked (newest_after last seal tick) seal.number
own_after None seal tick = own_first seal tick
own_after (Some last) seal tick = by_test (is_forgotten last tick || nat_lt last.boot seal.boot) refl
  where
    by_test : (t : Bool) → (is_forgotten last tick || nat_lt last.boot seal.boot) ≡ t → Marked (newest_after (Some last) seal tick) seal.number
    by_test true is =
        let first : newest_after (Some last) seal tick ≡ first_newest seal tick = cond-true _ _ _ is in
        subst (λ l. Marked l seal.number) (sym first) (own_first seal tick)
    by_test false is =
        let same : newest_after (Some last) seal tick ≡ same_boot_after last seal tick = cond-false _ _ _ is in
        subst (λ l. Marked l seal.number) (sym same) (own_same last seal tick)

-- a boot that goes on stays the boot, and what was taken stays taken
kept_after : (last : Newest) (later : List Coming) (number : ℕ) → GoOn last later → Marked last number → Marked (known_after last later) number
kept_after last [] number go h = h
kept_after last (came ∷ later) number go h =
    kept_after (newest_after (Some last) came.0 came.1) later number go.1
    (subst (λ l. Marked l number) (sym (goes_on last came go.0)) (kept_same last came.0 came.1 number h))

same_boot : (last : Newest) (seal : Seal) (tick : ℕ) → (same_boot_after last seal tick).boot ≡ seal.boot
same_boot last seal tick = by_order (cases_lt last.number seal.number)
  where
    by_order : (last.number < seal.number) ⊎ (seal.number ≤ last.number) → (same_boot_after last seal tick).boot ≡ seal.boot
    by_order (inl greater) = ap (λ l. l.boot) (after_greater last seal tick greater)
    by_order (inr late) = ap (λ l. l.boot) (after_late last seal tick late)

boot_after : (last : Newest) (later : List Coming) → GoOn last later → (known_after last later).boot ≡ last.boot
boot_after last [] go = refl
boot_after last (came ∷ later) go =
    boot_after (newest_after (Some last) came.0 came.1) later go.1
    ∙ ap (λ l. l.boot) (goes_on last came go.0) ∙ same_boot last came.0 came.1 ∙ go.0.1

boot_first : (last : Option Newest) (seal : Seal) (tick : ℕ) → (newest_after last seal tick).boot ≡ seal.boot
boot_first None seal tick = refl
boot_first (Some last) seal tick = by_test (is_forgotten last tick || nat_lt last.boot seal.boot) refl
  where
    by_test : (t : Bool) → (is_forgotten last tick || nat_lt last.boot seal.boot) ≡ t → (newest_after (Some last) seal tick).boot ≡ seal.boot
    by_test true is =
        let first : newest_after (Some last) seal tick ≡ first_newest seal tick = cond-true _ _ _ is in
        ap (λ l. l.boot) first
    by_test false is =
        let same : newest_after (Some last) seal tick ≡ same_boot_after last seal tick = cond-false _ _ _ is in
        ap (λ l. l.boot) same ∙ same_boot last seal tick

and_off : (x y : Bool) → y ≡ false → (x && y) ≡ false
and_off true y off = off
and_off false y off = refl

pub taken_once : TakenOnce
taken_once last first later tick go heard =
    let start = newest_after last first.0 first.1 in
    let known = known_after start later in
    let boot : known.boot ≡ first.0.boot = boot_after start later go ∙ boot_first last first.0 first.1 in
    let here : is_taken known first.0.number ≡ true = taken known first.0.number (kept_after start later first.0.number go (own_after last first.0 first.1)) in
    or_from _ _ (or_from _ _ heard (not_less known.boot first.0.boot (omega (arith, boot)))) (and_off _ _ (not_from_true _ here))

pub refused_only : RefusedOnly
refused_only last came number go is =
    let new = goes_on last came go in
    let now : Marked (same_boot_after last came.0 came.1) number = subst (λ l. Marked l number) new (marked (newest_after (Some last) came.0 came.1) number is) in
    by_case (only_same last came.0 came.1 number now)
  where
    by_case : (number ≡ came.0.number) ⊎ (Marked last number ⊎ (number + 64 ≤ (same_boot_after last came.0 came.1).number))
        → (number ≡ came.0.number) ⊎ ((is_taken last number ≡ true) ⊎ (number + 64 ≤ (newest_after (Some last) came.0 came.1).number))
    by_case (inl own) = inl own
    by_case (inr (inl was)) = inr (inl (taken last number was))
    by_case (inr (inr far)) = inr (inr (subst (λ l. number + 64 ≤ l.number) (sym (goes_on last came go)) far))
