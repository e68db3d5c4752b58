-- The clocks of a pass are accepted exactly where they are spelled so.
use Rattle.std.proofs.Common.{◌≡◌, ◌==◌, ℕ, Bool, true, false, ◌&&◌, cond, List, [], ◌∷◌, ◌++◌, Ok, Err, map, length, nat_le, nat_lt, refl, sym, ap, ◌∙◌, subst, arith, inr}
use Rattle.std.specs.Prelude.{decimal}
use Rattle.std.specs.List.{join_with_byte, list_all}
use Rattle.std.proofs.lemmas.Bool.{and_parts, leb-true, ltb-true}
use Rattle.std.proofs.lemmas.Bool.Decides.{nat_tests}
use Rattle.std.proofs.lemmas.List.Splits.{slice_split_at, join_with_byte-slice_split}
use Rattle.qn_base.specs.declared.ids.Rank.{Rank}
use Rattle.qn_model.specs.declared.line_fault.LineFault.TheVariants.{BadCount}
use Rattle.qn_model.specs.lemmas.Lines.{bind_ok, good, same_ok}
use Rattle.qn_model.specs.Lines.{is_ascending, number_between, parts}
use Rattle.qn_sched.specs.EventLines.{clock_word, id_word}
use Rattle.qn_sched.specs.EventReading.{clock_at, clock_of, clock_of_parts, clocks_of, each_clock, rank_of}
use Rattle.qn_sched.proofs.ClocksListed.{clock_of-cut}
use Rattle.qn_sched.proofs.RankSpelling.{AreIds, rank_of-id, rank_of-ok}
use Rattle.qn_sched.specs.WrittenNumbers.{decimal_without, number_between-decimal, number_between-ok}

abbrev pub ranks_of : List (Rank × ℕ) → List ℕ
ranks_of clocks = map (λ (clock : Rank × ℕ). clock.0.0) clocks

-- a clock in range
abbrev pub is_clock : ℕ → Rank × ℕ → Bool
is_clock count clock = nat_lt clock.0.0 count && nat_le clock.1 1000000000000

-- what is accepted as a clock is spelled so
pub record IsClock (ids word : List ℕ) (clock : Rank × ℕ) : Type 0 where
  pub in_range : is_clock (length ids) clock ≡ true
  pub word_is : word ≡ clock_word ids clock

clock_at-ok : (ids first second : List ℕ) (clock : Rank × ℕ) → clock_at ids first second ≡ Ok clock → IsClock ids (first ++ 61 ∷ second) clock
unfolding clock_at
clock_at-ok ids first second clock is =
    let step = bind_ok (rank_of ids first) _ clock is in
    let next = bind_ok (number_between 0 1000000000000 second) _ clock step.2 in
    let one = rank_of-ok ids first step.0 step.1 in
    let other = number_between-ok 0 1000000000000 second next.0 next.1 in
    let inside = one.inside in
    let below = other.below in
    let low : nat_lt step.0.0 (length ids) ≡ true = grind (arith, nat_tests) in
    let high : nat_le next.0 1000000000000 ≡ true = grind (arith, nat_tests) in
    subst (λ (c : Rank × ℕ). IsClock ids (first ++ 61 ∷ second) c) (same_ok (step.0, next.0) clock next.2)
    (record {
      in_range = rw (low, high) refl;
      word_is = ap (λ w. w ++ 61 ∷ second) one.word_is ∙ ap (λ w. id_word ids step.0 ++ 61 ∷ w) other.word_is;
    })

clock_of_parts-ok : (ids : List ℕ) (words : List (List ℕ)) (clock : Rank × ℕ) → clock_of_parts ids words ≡ Ok clock → IsClock ids (join_with_byte 61 words) clock
unfolding clock_of_parts
clock_of_parts-ok ids [] clock is = cc
clock_of_parts-ok ids (first ∷ []) clock is = cc
clock_of_parts-ok ids (first ∷ next ∷ others) clock is = clock_at-ok ids first (join_with_byte 61 (next ∷ others)) clock is

clock_of-ok : (ids word : List ℕ) (clock : Rank × ℕ) → clock_of ids word ≡ Ok clock → IsClock ids word clock
clock_of-ok ids word clock is =
    subst (λ (w : List ℕ). IsClock ids w clock) (join_with_byte-slice_split 61 word) (clock_of_parts-ok ids (parts 61 word) clock is)

-- a clock in range is accepted as it is spelled
clock_of-word : (ids : List ℕ) → AreIds ids → (clock : Rank × ℕ) → is_clock (length ids) clock ≡ true → clock_of ids (clock_word ids clock) ≡ Ok clock
unfolding clock_at
clock_of-word ids known clock in_range =
    let both = and_parts (nat_lt clock.0.0 (length ids)) (nat_le clock.1 1000000000000) in_range in
    let inside = ltb-true clock.0.0 (length ids) both.0 in
    let below = leb-true clock.1 1000000000000 both.1 in
    let cut : parts 61 (clock_word ids clock) ≡ id_word ids clock.0 ∷ parts 61 (decimal clock.1) =
    slice_split_at (λ b. b == 61) (id_word ids clock.0) 61 (decimal clock.1) (decimal_without 61 (inr (omega arith)) _ (known.fit clock.0.0)) refl in
    clock_of-cut ids (clock_word ids clock) (id_word ids clock.0) (decimal clock.1) cut
    ∙ rw (rank_of-id ids known clock.0 inside, number_between-decimal 0 1000000000000 clock.1 (omega arith) below (omega arith)) refl

each_clock-ok : (ids : List ℕ) (words : List (List ℕ)) (clocks : List (Rank × ℕ)) → each_clock ids words ≡ Ok clocks
    → (words ≡ map (clock_word ids) clocks) × (list_all (is_clock (length ids)) clocks ≡ true)
unfolding each_clock
each_clock-ok ids [] [] is = (refl, refl)
each_clock-ok ids [] (clock ∷ clocks) is = cc
each_clock-ok ids (word ∷ words) clocks is =
    let first = bind_ok (clock_of ids word) _ clocks is in
    let later = bind_ok (each_clock ids words) _ clocks first.2 in
    let one = clock_of-ok ids word first.0 first.1 in
    let rest = each_clock-ok ids words later.0 later.1 in
    subst (λ (cs : List (Rank × ℕ)). (word ∷ words ≡ map (clock_word ids) cs) × (list_all (is_clock (length ids)) cs ≡ true)) (same_ok (first.0 ∷ later.0) clocks later.2)
    (ap (λ w. w ∷ words) one.word_is ∙ ap (λ ws. clock_word ids first.0 ∷ ws) rest.0, ap (λ b. b && list_all (is_clock (length ids)) later.0) one.in_range ∙ rest.1)

each_clock-words : (ids : List ℕ) → AreIds ids → (clocks : List (Rank × ℕ)) → list_all (is_clock (length ids)) clocks ≡ true
    → each_clock ids (map (clock_word ids) clocks) ≡ Ok clocks
unfolding each_clock
each_clock-words ids known [] all = refl
each_clock-words ids known (clock ∷ clocks) all =
    let both = and_parts (is_clock (length ids) clock) (list_all (is_clock (length ids)) clocks) all in
    rw (clock_of-word ids known clock both.0, each_clock-words ids known clocks both.1) refl

chosen : (b : Bool) (read clocks : List (Rank × ℕ)) → good clocks ≡ cond b (good read) (Err BadCount) → (b ≡ true) × (read ≡ clocks)
chosen true read clocks is = (refl, same_ok read clocks (sym is))
chosen false read clocks is = cc

-- clocks that were accepted
pub record AreClocks (ids : List ℕ) (words : List (List ℕ)) (clocks : List (Rank × ℕ)) : Type 0 where
  pub words_are : words ≡ map (clock_word ids) clocks
  pub in_range : list_all (is_clock (length ids)) clocks ≡ true
  pub ascend : is_ascending (ranks_of clocks) ≡ true

pub clocks_of-ok : (ids : List ℕ) (words : List (List ℕ)) (clocks : List (Rank × ℕ)) → clocks_of ids words ≡ Ok clocks → AreClocks ids words clocks
unfolding clocks_of
clocks_of-ok ids words clocks is =
    let step = bind_ok (each_clock ids words) _ clocks is in
    let choice = chosen (is_ascending (ranks_of step.0)) step.0 clocks (sym step.2) in
    let read = each_clock-ok ids words step.0 step.1 in
    subst (λ (cs : List (Rank × ℕ)). AreClocks ids words cs) choice.1 (record { words_are = read.0; in_range = read.1; ascend = choice.0 })

pub clocks_of-words : (ids : List ℕ) → AreIds ids → (clocks : List (Rank × ℕ)) → list_all (is_clock (length ids)) clocks ≡ true → is_ascending (ranks_of clocks) ≡ true
    → clocks_of ids (map (clock_word ids) clocks) ≡ Ok clocks
unfolding clocks_of
clocks_of-words ids known clocks all ascend = rw (each_clock-words ids known clocks all, ascend) refl
