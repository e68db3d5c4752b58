-- A list of members is accepted exactly where it is the spelling of a set of nodes.
use Rattle.std.proofs.Common.{◌≡◌, ◌≢◌, ◌+◌, ◌^◌, ◌<◌, ◌≤◌, ◌==◌, ℕ, zero, suc, Bool, true, false, ◌&&◌, ◌||◌, cond, List, [], ◌∷◌, Ok, Err, map, filter, fold, length, max, slice_index, bit_or, refl, sym, ap, ◌∙◌, subst, arith, eq-eqb, ◌⊎◌, inl, inr, nat_le, nat_lt}
use Rattle.std.specs.Prelude.{decimal}
use Rattle.std.specs.Int.{bit_at}
use Rattle.std.specs.List.{join_with_byte, list_all, list_any}
use Rattle.std.proofs.lemmas.Bool.{false≢true, and_parts, leb-true, cases_lt}
use Rattle.std.proofs.lemmas.Bool.Decides.{nat_tests, Decides-eqb}
use Rattle.std.proofs.lemmas.List.Splits.{join_with_byte-slice_split}
use lib.Bits.{or_lt}
use Rattle.std.proofs.Math.Pow.{pow-lt}
use Rattle.std.proofs.lemmas.Fmt.{decimal_nonempty}
use Rattle.std.proofs.lemmas.Nat.Bits.{bit_at_or, bit_at-pow_same, bit_at-pow_other, bit_at-zero, bit_at_above, same_from_bits}
use Rattle.std.proofs.Math.Bool.{or_assoc}
use Rattle.qn_base.specs.declared.ids.Mask.{Mask}
use Rattle.qn_base.specs.Members.{is_member}
use Rattle.qn_base.specs.lemmas.Masks.{bit_cases}
use Rattle.qn_model.specs.declared.line_fault.LineFault.TheVariants.{BadView}
use Rattle.qn_model.specs.lemmas.Lines.{bind_ok, good, same_ok}
use Rattle.qn_model.specs.Lines.{is_ascending, is_filled, known_rank, known_ranks, mask_of, members_of, parts}
use Rattle.qn_names.specs.MemberWords.{ids_from, joined, member_word}
use Rattle.qn_sched.proofs.PartsLemmas.{AreWithout, parts-joined, parts-some}
use Rattle.qn_sched.specs.WrittenNumbers.{decimal_without}
use Rattle.qn_sched.proofs.RankSpelling.{AreIds, id_lt, known_rank-id, known_rank-ok}
use Rattle.qn_sched.proofs.ClocksListed.{ascends_from, ascends_whole}

-- the members among so many ranks, of which the first is `rank`
abbrev pub ranks_from : ℕ → ℕ → Mask → List ℕ
ranks_from rank zero members = []
ranks_from rank (suc count) members =
    cond (is_member members rank) (rank ∷ ranks_from (rank + 1) count members) (ranks_from (rank + 1) count members)

-- the ids of the members are those of their ranks
ids_from-ranks : (all : List ℕ) (members : Mask) (rank : ℕ) (ids : List ℕ) → ((k : ℕ) → k < length ids → slice_index all (rank + k) ≡ slice_index ids k)
    → ids_from rank ids members ≡ map (slice_index all) (ranks_from rank (length ids) members)
ids_from-ranks all members rank [] same = refl
ids_from-ranks all members rank (id ∷ ids) same =
    let here : slice_index all rank ≡ id = ap (slice_index all) (omega arith) ∙ same 0 (omega arith) in
    let later = ids_from-ranks all members (rank + 1) ids (λ k inside. ap (slice_index all) (omega arith) ∙ same (suc k) (omega arith)) in
    by_member (is_member members rank) (ids_from (rank + 1) ids members) (ranks_from (rank + 1) (length ids) members) here later
  where
    by_member : (b : Bool) (xs ys : List ℕ) → slice_index all rank ≡ id → xs ≡ map (slice_index all) ys
        → cond b (id ∷ xs) xs ≡ map (slice_index all) (cond b (rank ∷ ys) ys)
    by_member true xs ys here later = ap (λ n. n ∷ xs) (sym here) ∙ ap (λ ns. slice_index all rank ∷ ns) later
    by_member false xs ys here later = later

-- ---- a set as a list of ranks

either_bit : (x y : ℕ) → (x ≡ 0) ⊎ (x ≡ 1) → (y ≡ 0) ⊎ (y ≡ 1) → (max x y == 1) ≡ (x == 1 || y == 1)
either_bit x y (inl p) (inl q) = rw (p, q)
either_bit x y (inl p) (inr q) = rw (p, q)
either_bit x y (inr p) (inl q) = rw (p, q)
either_bit x y (inr p) (inr q) = rw (p, q)

one_bit : (rank j : ℕ) (same : Bool) → (rank == j) ≡ same → (bit_at (2 ^ rank) j == 1) ≡ same
one_bit rank j true is =
    subst (λ k. (bit_at (2 ^ rank) k == 1) ≡ true) ((Decides-eqb rank j).0 is) (ap (λ bit. bit == 1) (bit_at-pow_same rank))
one_bit rank j false is =
    let other : j ≢ rank = λ e. false≢true (sym is ∙ eq-eqb rank j (sym e)) in
    ap (λ bit. bit == 1) (bit_at-pow_other rank j other)

set_bit : (a rank j : ℕ) → (bit_at (bit_or a (2 ^ rank)) j == 1) ≡ (bit_at a j == 1 || rank == j)
set_bit a rank j =
    ap (λ bit. bit == 1) (bit_at_or a (2 ^ rank) j)
    ∙ either_bit (bit_at a j) (bit_at (2 ^ rank) j) (bit_cases a j) (bit_cases (2 ^ rank) j)
    ∙ ap (λ b. bit_at a j == 1 || b) (one_bit rank j (rank == j) refl)

or_false : (b : Bool) → b ≡ (b || false)
or_false true = refl
or_false false = refl

folded : (start : ℕ) (ranks : List ℕ) (j : ℕ)
    → (bit_at (fold (λ mask rank. bit_or mask (2 ^ rank)) start ranks) j == 1) ≡ (bit_at start j == 1 || list_any (λ rank. rank == j) ranks)
folded start [] j = or_false (bit_at start j == 1)
folded start (rank ∷ ranks) j =
    folded (bit_or start (2 ^ rank)) ranks j
    ∙ ap (λ b. b || list_any (λ r. r == j) ranks) (set_bit start rank j)
    ∙ or_assoc (bit_at start j == 1) (rank == j) (list_any (λ r. r == j) ranks)

-- the members of a set that is listed
mask_of-member : (ranks : List ℕ) (j : ℕ) → is_member (mask_of ranks) j ≡ list_any (λ rank. rank == j) ranks
mask_of-member ranks j = folded 0 ranks j ∙ ap (λ bit. bit == 1 || list_any (λ rank. rank == j) ranks) (bit_at-zero j)

-- each of the ranks is below this one
abbrev pub AllBelow : ℕ → List ℕ → Type 0
AllBelow bound [] = Unit {0}
AllBelow bound (rank ∷ ranks) = (rank < bound) × AllBelow bound ranks

-- ranks that ascend from a rank on have none before it
none_before : (next : ℕ) (ranks : List ℕ) (j : ℕ) → ascends_from next ranks ≡ true → j < next → list_any (λ rank. rank == j) ranks ≡ false
none_before next [] j ascends before = refl
none_before next (rank ∷ ranks) j ascends before =
    let both = and_parts (nat_le next rank) (ascends_from (rank + 1) ranks) ascends in
    let above : next ≤ rank = leb-true next rank both.0 in
    let other : (rank == j) ≡ false = grind (arith, nat_tests) in
    rw other (none_before (rank + 1) ranks j both.1 (omega arith))

-- the list of a set that is listed
ranks_from-listed : (count rank : ℕ) (members : Mask) (ranks : List ℕ) → ascends_from rank ranks ≡ true → AllBelow (rank + count) ranks
    → ((j : ℕ) → rank ≤ j → is_member members j ≡ list_any (λ r. r == j) ranks) → ranks_from rank count members ≡ ranks
ranks_from-listed zero rank members [] ascends below same = refl
ranks_from-listed zero rank members (first ∷ ranks) ascends below same =
    let above = leb-true rank first (and_parts (nat_le rank first) (ascends_from (first + 1) ranks) ascends).0 in
    absurd (let under = below.0 in omega arith)
ranks_from-listed (suc count) rank members [] ascends below same =
    let here : is_member members rank ≡ false = same rank (omega arith) in
    rw here (ranks_from-listed count (rank + 1) members [] refl tt (λ j above. same j (omega arith)))
ranks_from-listed (suc count) rank members (first ∷ ranks) ascends below same =
    let both = and_parts (nat_le rank first) (ascends_from (first + 1) ranks) ascends in
    let above : rank ≤ first = leb-true rank first both.0 in
    elim (cases_lt rank first) [
      | inl before ↦
          let other : (first == rank) ≡ false = grind (arith, nat_tests) in
          let none = none_before (first + 1) ranks rank both.1 (omega arith) in
          let here : is_member members rank ≡ false = same rank (omega arith) ∙ ap (λ b. b || list_any (λ r. r == rank) ranks) other ∙ none in
          let next : nat_le (rank + 1) first ≡ true = grind (arith, nat_tests) in
          let ascends_on : ascends_from (rank + 1) (first ∷ ranks) ≡ true = ap (λ b. b && ascends_from (first + 1) ranks) next ∙ both.1 in
          rw here
          (ranks_from-listed count (rank + 1) members (first ∷ ranks) ascends_on (subst (λ n. AllBelow n (first ∷ ranks)) (omega arith) below)
          (λ j past. same j (omega arith)))
      | inr within ↦
          let it : first ≡ rank = omega arith in
          let here : is_member members rank ≡ true = same rank (omega arith) ∙ ap (λ b. b || list_any (λ r. r == rank) ranks) (eq-eqb first rank it) in
          let ascends_on : ascends_from (rank + 1) ranks ≡ true = subst (λ n. ascends_from (n + 1) ranks ≡ true) it both.1 in
          let later =
          ranks_from-listed count (rank + 1) members ranks ascends_on (subst (λ n. AllBelow n ranks) (omega arith) below.1)
          (λ j past.
          let other : (first == j) ≡ false = grind (arith, nat_tests) in
          same j (omega arith) ∙ ap (λ b. b || list_any (λ r. r == j) ranks) other) in
          rw here (ap (λ l. rank ∷ l) later ∙ ap (λ r. r ∷ ranks) (sym it))
    ]

-- ---- what is listed of a set

own_le : (n : ℕ) → nat_le n n ≡ true
own_le n = grind (arith, nat_tests)

ascends_sooner : (next : ℕ) (ranks : List ℕ) → ascends_from (next + 1) ranks ≡ true → ascends_from next ranks ≡ true
ascends_sooner next [] ascends = refl
ascends_sooner next (rank ∷ ranks) ascends =
    let both = and_parts (nat_le (next + 1) rank) (ascends_from (rank + 1) ranks) ascends in
    let above = leb-true (next + 1) rank both.0 in
    let sooner : nat_le next rank ≡ true = grind (arith, nat_tests) in
    ap (λ b. b && ascends_from (rank + 1) ranks) sooner ∙ both.1

ranks_from-ascends : (count rank : ℕ) (members : Mask) → ascends_from rank (ranks_from rank count members) ≡ true
ranks_from-ascends zero rank members = refl
ranks_from-ascends (suc count) rank members =
    by_member (is_member members rank) (ranks_from (rank + 1) count members) (ranks_from-ascends count (rank + 1) members)
  where
    by_member : (b : Bool) (ranks : List ℕ) → ascends_from (rank + 1) ranks ≡ true → ascends_from rank (cond b (rank ∷ ranks) ranks) ≡ true
    by_member true ranks later = ap (λ b. b && ascends_from (rank + 1) ranks) (own_le rank) ∙ later
    by_member false ranks later = ascends_sooner rank ranks later

ranks_from-below : (count rank : ℕ) (members : Mask) → AllBelow (rank + count) (ranks_from rank count members)
ranks_from-below zero rank members = tt
ranks_from-below (suc count) rank members =
    by_member (is_member members rank) (ranks_from (rank + 1) count members)
    (subst (λ n. AllBelow n (ranks_from (rank + 1) count members)) (omega arith) (ranks_from-below count (rank + 1) members))
  where
    by_member : (b : Bool) (ranks : List ℕ) → AllBelow (rank + suc count) ranks → AllBelow (rank + suc count) (cond b (rank ∷ ranks) ranks)
    by_member true ranks later = (omega arith, later)
    by_member false ranks later = later

none_behind : (bound : ℕ) (ranks : List ℕ) (j : ℕ) → AllBelow bound ranks → bound ≤ j → list_any (λ rank. rank == j) ranks ≡ false
none_behind bound [] j below past = refl
none_behind bound (rank ∷ ranks) j below past =
    let under = below.0 in
    let other : (rank == j) ≡ false = grind (arith, nat_tests) in
    rw other (none_behind bound ranks j below.1 past)

-- a rank is listed exactly where it is a member
ranks_from-member : (count rank : ℕ) (members : Mask) (j : ℕ) → rank ≤ j → j < rank + count
    → list_any (λ r. r == j) (ranks_from rank count members) ≡ is_member members j
ranks_from-member zero rank members j above below = absurd (omega arith)
ranks_from-member (suc count) rank members j above below =
    elim (cases_lt rank j) [
      | inl past ↦
          let other : (rank == j) ≡ false = grind (arith, nat_tests) in
          passed (is_member members rank) (ranks_from (rank + 1) count members) other ∙ ranks_from-member count (rank + 1) members j (omega arith) (omega arith)
      | inr within ↦
          let it : rank ≡ j = omega arith in
          let none = none_before (rank + 1) (ranks_from (rank + 1) count members) j (ranks_from-ascends count (rank + 1) members) (omega arith) in
          here (is_member members rank) (ranks_from (rank + 1) count members) (eq-eqb rank j it) none ∙ ap (is_member members) it
    ]
  where
    passed : (b : Bool) (ranks : List ℕ) → (rank == j) ≡ false → list_any (λ r. r == j) (cond b (rank ∷ ranks) ranks) ≡ list_any (λ r. r == j) ranks
    passed true ranks other = ap (λ t. t || list_any (λ r. r == j) ranks) other
    passed false ranks other = refl

    here : (b : Bool) (ranks : List ℕ) → (rank == j) ≡ true → list_any (λ r. r == j) ranks ≡ false → list_any (λ r. r == j) (cond b (rank ∷ ranks) ranks) ≡ b
    here true ranks it none = ap (λ t. t || list_any (λ r. r == j) ranks) it
    here false ranks it none = none

same_bit : (x y : ℕ) → (x ≡ 0) ⊎ (x ≡ 1) → (y ≡ 0) ⊎ (y ≡ 1) → (x == 1) ≡ (y == 1) → x ≡ y
same_bit x y (inl p) (inl q) same = p ∙ sym q
same_bit x y (inl p) (inr q) same = absurd (false≢true (sym (ap (λ n. n == 1) p) ∙ same ∙ ap (λ n. n == 1) q))
same_bit x y (inr p) (inl q) same = absurd (false≢true (sym (ap (λ n. n == 1) q) ∙ sym same ∙ ap (λ n. n == 1) p))
same_bit x y (inr p) (inr q) same = p ∙ sym q

-- a set is that of the ranks that it lists
mask_of-ranks_from : (count : ℕ) (members : Mask) → members.0 < 2 ^ count → mask_of (ranks_from 0 count members) ≡ members
mask_of-ranks_from count members fits =
    ap (λ (n : ℕ). let mask : Mask = record { 0 = n } in mask)
    (same_from_bits (mask_of (ranks_from 0 count members)).0 members.0
    (λ j. same_bit _ _ (bit_cases _ j) (bit_cases members.0 j) (mask_of-member (ranks_from 0 count members) j ∙ by_place j (cases_lt j count))))
  where
    by_place : (j : ℕ) → (j < count) ⊎ (count ≤ j) → list_any (λ r. r == j) (ranks_from 0 count members) ≡ is_member members j
    by_place j (inl inside) = ranks_from-member count 0 members j (omega arith) (omega arith)
    by_place j (inr outside) =
        none_behind (0 + count) (ranks_from 0 count members) j (ranks_from-below count 0 members) (omega arith)
        ∙ sym (ap (λ bit. bit == 1) (bit_at_above members.0 count j fits outside))

-- ---- the words of a list

folded-below : (n start : ℕ) (ranks : List ℕ) → start < 2 ^ n → AllBelow n ranks → fold (λ mask rank. bit_or mask (2 ^ rank)) start ranks < 2 ^ n
folded-below n start [] fits below = fits
folded-below n start (rank ∷ ranks) fits below = folded-below n (bit_or start (2 ^ rank)) ranks (or_lt n start (2 ^ rank) fits (pow-lt below.0)) below.1

some_room : (n : ℕ) (ranks : List ℕ) → 0 < length ranks → AllBelow n ranks → 0 < 2 ^ n
some_room n [] some below = absurd (omega arith)
some_room n (rank ∷ ranks) some below = let less : 2 ^ rank < 2 ^ n = pow-lt below.0 in omega arith

-- the words of ranks
abbrev pub words_at : List ℕ → List ℕ → List (List ℕ)
words_at ids ranks = map decimal (map (slice_index ids) ranks)

known_ranks-ok : (ids : List ℕ) (words : List (List ℕ)) (ranks : List ℕ) → known_ranks ids words ≡ Ok ranks → (words ≡ words_at ids ranks) × AllBelow (length ids) ranks
unfolding known_ranks
known_ranks-ok ids [] [] is = (refl, tt)
known_ranks-ok ids [] (rank ∷ ranks) is = cc
known_ranks-ok ids (word ∷ words) ranks is =
    let first = bind_ok (known_rank ids word) _ ranks is in
    let later = bind_ok (known_ranks ids words) _ ranks first.2 in
    let rest = known_ranks-ok ids words later.0 later.1 in
    let one = known_rank-ok ids word first.0 first.1 in
    subst (λ (rs : List ℕ). (word ∷ words ≡ words_at ids rs) × AllBelow (length ids) rs) (same_ok _ ranks later.2)
    (ap (λ w. w ∷ words) one.word_is ∙ ap (λ ws. decimal (slice_index ids first.0) ∷ ws) rest.0, (one.inside, rest.1))

known_ranks-words : (ids : List ℕ) → AreIds ids → (ranks : List ℕ) → AllBelow (length ids) ranks → known_ranks ids (words_at ids ranks) ≡ Ok ranks
unfolding known_ranks
known_ranks-words ids known [] below = refl
known_ranks-words ids known (rank ∷ ranks) below =
    rw (known_rank-id ids known rank below.0, known_ranks-words ids known ranks below.1) refl

all_filled : (words : List (List ℕ)) → list_all is_filled words ≡ true → filter is_filled words ≡ words
all_filled [] all = refl
all_filled (word ∷ words) all =
    let both = and_parts (is_filled word) (list_all is_filled words) all in
    rw both.0 (ap (λ ws. word ∷ ws) (all_filled words both.1))

filled : (word : List ℕ) → 0 < length word → is_filled word ≡ true
filled [] some = absurd (omega arith)
filled (byte ∷ word) some = refl

words_filled : (ids : List ℕ) → AreIds ids → (ranks : List ℕ) → list_all is_filled (words_at ids ranks) ≡ true
words_filled ids known [] = refl
words_filled ids known (rank ∷ ranks) =
    let some = filled (decimal (slice_index ids rank)) (decimal_nonempty (slice_index ids rank) (known.fit rank)) in
    ap (λ b. b && list_all is_filled (words_at ids ranks)) some ∙ words_filled ids known ranks

-- no id has a byte that is no digit
pub words_without : (ids : List ℕ) → AreIds ids → (byte : ℕ) → (byte < 48) ⊎ (57 < byte) → (ranks : List ℕ) → AreWithout byte (words_at ids ranks)
words_without ids known byte other [] = tt
words_without ids known byte other (rank ∷ ranks) = (decimal_without byte other (slice_index ids rank) (known.fit rank), words_without ids known byte other ranks)

-- ids ascend where their ranks do
ascend_alike : (ids : List ℕ) → AreIds ids → (i j : ℕ) → i < length ids → j < length ids → nat_lt (slice_index ids i) (slice_index ids j) ≡ nat_lt i j
ascend_alike ids known i j one other =
    elim (cases_lt i j) [
      | inl before ↦ let less = id_lt ids known i j before other in grind (arith, nat_tests)
      | inr behind ↦
          elim (cases_lt j i) [
            | inl after ↦ let less = id_lt ids known j i after one in grind (arith, nat_tests)
            | inr within ↦ let it : i ≡ j = omega arith in let same : slice_index ids i ≡ slice_index ids j = ap (slice_index ids) it in grind (arith, nat_tests)
          ]
    ]

ids_ascend : (ids : List ℕ) → AreIds ids → (ranks : List ℕ) → AllBelow (length ids) ranks → is_ascending (map (slice_index ids) ranks) ≡ is_ascending ranks
ids_ascend ids known [] below = refl
ids_ascend ids known (rank ∷ []) below = refl
ids_ascend ids known (rank ∷ next ∷ ranks) below =
    ap (λ b. b && is_ascending (map (slice_index ids) (next ∷ ranks))) (ascend_alike ids known rank next below.0 below.1.0)
    ∙ ap (λ b. nat_lt rank next && b) (ids_ascend ids known (next ∷ ranks) below.1)

-- a list of members that was accepted
pub record IsMemberList (ids word : List ℕ) (members : Mask) : Type 0 where
  pub word_is : word ≡ member_word ids members
  pub some : 1 ≤ members.0
  pub fits : members.0 < 2 ^ length ids

-- the ids of a set, by its ranks
pub all_ranks : (ids : List ℕ) (members : Mask) → ids_from 0 ids members ≡ map (slice_index ids) (ranks_from 0 (length ids) members)
all_ranks ids members = ids_from-ranks ids members 0 ids (λ k inside. ap (slice_index ids) (omega arith))

some_member : (ranks : List ℕ) → 0 < length ranks → 1 ≤ (mask_of ranks).0
some_member [] some = absurd (omega arith)
some_member (rank ∷ ranks) some =
    elim (cases_lt 0 (mask_of (rank ∷ ranks)).0) [
      | inl positive ↦ omega arith
      | inr none ↦
          let zero_mask : (mask_of (rank ∷ ranks)).0 ≡ 0 = omega arith in
          let there = mask_of-member (rank ∷ ranks) rank ∙ ap (λ b. b || list_any (λ r. r == rank) ranks) (eq-eqb rank rank refl) in
          absurd (false≢true (sym (ap (λ n. bit_at n rank == 1) zero_mask ∙ ap (λ bit. bit == 1) (bit_at-zero rank)) ∙ there))
    ]

some_rank : (ids ranks : List ℕ) → 0 < length (words_at ids ranks) → 0 < length ranks
some_rank ids [] some = some
some_rank ids (rank ∷ ranks) some = omega arith

-- the words are separated at the commas alone
words_parted : (ids : List ℕ) → AreIds ids → (ranks : List ℕ) → 0 < length ranks → parts 44 (join_with_byte 44 (words_at ids ranks)) ≡ words_at ids ranks
words_parted ids known [] some = absurd (omega arith)
words_parted ids known (rank ∷ ranks) some = parts-joined 44 refl (decimal (slice_index ids rank)) (words_at ids ranks) (words_without ids known 44 (inl (omega arith)) (rank ∷ ranks))

some_listed : (ranks : List ℕ) (members : Mask) → mask_of ranks ≡ members → 1 ≤ members.0 → 0 < length ranks
some_listed [] members is some = let none : 0 ≡ members.0 = ap (λ (m : Mask). m.0) is in absurd (omega arith)
some_listed (rank ∷ ranks) members is some = omega arith

-- a value that was chosen
chosen : (b : Bool) (mask members : Mask) → good members ≡ cond b (good mask) (Err BadView) → (b ≡ true) × (mask ≡ members)
chosen true mask members is = (refl, same_ok mask members (sym is))
chosen false mask members is = cc

pub members_of-ok : (ids : List ℕ) → AreIds ids → (word : List ℕ) (members : Mask) → members_of ids word ≡ Ok members → IsMemberList ids word members
unfolding members_of
members_of-ok ids known word members is =
    let words = parts 44 word in
    let step = bind_ok (known_ranks ids (filter is_filled words)) _ members is in
    let ranks = step.0 in
    let choice = chosen (list_all is_filled words && is_ascending (map (slice_index ids) ranks)) (mask_of ranks) members (sym step.2) in
    let both = and_parts (list_all is_filled words) (is_ascending (map (slice_index ids) ranks)) choice.0 in
    let read = known_ranks-ok ids (filter is_filled words) ranks step.1 in
    let words_are : words ≡ words_at ids ranks = sym (all_filled words both.0) ∙ read.0 in
    let ascends = sym (ascends_whole ranks) ∙ sym (ids_ascend ids known ranks read.1) ∙ both.1 in
    let listed = ranks_from-listed (length ids) 0 (mask_of ranks) ranks ascends (subst (λ n. AllBelow n ranks) (omega arith) read.1) (λ j past. mask_of-member ranks j) in
    let spelled : word ≡ member_word ids (mask_of ranks) =
    sym (join_with_byte-slice_split 44 word) ∙ ap (join_with_byte 44) words_are
    ∙ sym (ap (joined 44) (all_ranks ids (mask_of ranks) ∙ ap (map (slice_index ids)) listed)) in
    let count = some_rank ids ranks (subst (λ (ws : List (List ℕ)). 0 < length ws) words_are (parts-some 44 word)) in
    subst (λ (m : Mask). IsMemberList ids word m) choice.1
    (record { word_is = spelled; some = some_member ranks count; fits = folded-below (length ids) 0 ranks (some_room (length ids) ranks count read.1) read.1 })

pub members_of-word : (ids : List ℕ) → AreIds ids → (members : Mask) → 1 ≤ members.0 → members.0 < 2 ^ length ids → members_of ids (member_word ids members) ≡ Ok members
unfolding members_of
members_of-word ids known members some fits =
    let ranks = ranks_from 0 (length ids) members in
    let below = subst (λ n. AllBelow n ranks) (omega arith) (ranks_from-below (length ids) 0 members) in
    let word_is : member_word ids members ≡ join_with_byte 44 (words_at ids ranks) = ap (joined 44) (all_ranks ids members) in
    let words_are : parts 44 (member_word ids members) ≡ words_at ids ranks =
    ap (parts 44) word_is ∙ words_parted ids known ranks (some_listed ranks members (mask_of-ranks_from (length ids) members fits) some) in
    let all = words_filled ids known ranks in
    let ascends = ids_ascend ids known ranks below ∙ ascends_whole ranks ∙ ranks_from-ascends (length ids) 0 members in
    rw (words_are, all_filled (words_at ids ranks) all, known_ranks-words ids known ranks below, all, ascends) (ap good (mask_of-ranks_from (length ids) members fits))
