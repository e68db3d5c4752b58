-- Tests joined by "and" and "or": what each part says. The kit has both parts at once, and how they join.
use Rattle.std.proofs.Common.{◌≡◌, ℕ, Bool, true, false, cond, ◌&&◌, ◌||◌, ◌==◌, not, IsTrue, refl, sym, ◌∙◌}
use Rattle.std.proofs.lemmas.Bool.{false≢true, true≢false, and_parts, or_parts}

pub first_of_both : (a b : Bool) → (a && b) ≡ true → a ≡ true
first_of_both a b both = (and_parts a b both).0

pub second_of_both : (a b : Bool) → (a && b) ≡ true → b ≡ true
second_of_both a b both = (and_parts a b both).1

pub first_of_three : (a b c : Bool) → (a && b && c) ≡ true → a ≡ true
first_of_three a b c all = first_of_both a b (first_of_both (a && b) c all)

pub second_of_three : (a b c : Bool) → (a && b && c) ≡ true → b ≡ true
second_of_three a b c all = second_of_both a b (first_of_both (a && b) c all)

pub last_of_three : (a b c : Bool) → IsTrue (a && b && c) → IsTrue c
last_of_three true true c all = all
last_of_three true false c all = absurd (false≢true all)
last_of_three false b c all = absurd (false≢true all)

pub first_of_neither : (a b : Bool) → (a || b) ≡ false → a ≡ false
first_of_neither a b neither = (or_parts a b neither).0

pub second_of_neither : (a b : Bool) → (a || b) ≡ false → b ≡ false
second_of_neither a b neither = (or_parts a b neither).1

-- a test that is wanted to fail, and others
pub first_fails : (a b : Bool) → (not a && b) ≡ true → a ≡ false
first_fails true b all = absurd (false≢true all)
first_fails false b all = refl

pub first_of_three_fails : (a b c : Bool) → (not a && b && c) ≡ true → a ≡ false
first_of_three_fails a b c all = first_fails a b (first_of_both (not a && b) c all)

-- no test both holds and fails
pub never_both : {P : Type 0} (b : Bool) → b ≡ true → b ≡ false → P
never_both b holds fails = absurd (true≢false (sym holds ∙ fails))

-- a truth that is written as 1 or 0 is read back
pub cond_is_one : (b : Bool) → (cond b 1 0 == 1) ≡ b
cond_is_one true = refl
cond_is_one false = refl
