-- The members of a mask, taken away one by one.
use Rattle.std.proofs.Common.{◌≡◌, ◌≢◌, ℕ, zero, suc, ◌+◌, ◌<◌, ◌≤◌, ◌==◌, ◌&&◌, ◌||◌, not, Bool, true, false, List, [], ◌∷◌, length, get_or, replicate, if◌then◌else◌, refl, sym, ap, ◌∙◌, Some, slice_get, subst, arith, eq-eqb}
use Rattle.std.proofs.lemmas.Bool.{ne_eqb}
use Rattle.std.proofs.lemmas.List.{get_or-map, get_or-replicate, length-map, length-replicate}
use Rattle.std.proofs.lemmas.Option.{get_or_from_slice_get}
use Rattle.qn_base.specs.declared.ids.Mask.{Mask}
use Rattle.qn_base.specs.Members.{is_member, votes_from, votes_of}
use Rattle.qn_base.specs.lemmas.Masks.{empty_has_none}
use Rattle.qn_model.specs.declared.nodelist.NodeEntry.{NodeEntry}
use Rattle.qn_model.specs.Settings.{node_votes}

-- how many members there are below 32
pub members_left : Mask → ℕ
members_left members = votes_of (replicate 32 1) members

one_each-le : (rank count : ℕ) (members : Mask) → votes_from rank (replicate count 1) members ≤ count
one_each-le rank zero members = omega arith
one_each-le rank (suc count) members = one_at_most (is_member members rank) (one_each-le (rank + 1) count members)
  where
    one_at_most : (b : Bool) → votes_from (rank + 1) (replicate count 1) members ≤ count
        → (if b then 1 else 0) + votes_from (rank + 1) (replicate count 1) members ≤ suc count
    one_at_most true rest = omega arith
    one_at_most false rest = omega arith

pub members_left-le : (members : Mask) → members_left members ≤ 32
unfolding members_left
members_left-le members = one_each-le 0 32 members

-- a rank is a member of the one mask and not of the other, and every other rank below 32 of both or of none
pub record HasOneMore (more fewer : Mask) (rank : ℕ) : Type 0 where
  pub has : is_member more rank ≡ true
  pub has_not : is_member fewer rank ≡ false
  pub others : (j : ℕ) → j < 32 → j ≢ rank → is_member more j ≡ is_member fewer j

module _ (more fewer : Mask) (gone : ℕ) (one : HasOneMore more fewer gone) where
  same_at : (rank count : ℕ) → rank < 32 → rank ≢ gone → (if is_member more rank then count else 0) ≡ (if is_member fewer rank then count else 0)
  same_at rank count below other = ap (λ b. if b then count else 0) (one.others rank below other)

  -- past the rank the masks have the same votes
  same_behind : (rank : ℕ) (counts : List ℕ) → gone < rank → rank + length counts ≤ 32 → votes_from rank counts more ≡ votes_from rank counts fewer
  same_behind rank [] behind fits = refl
  same_behind rank (count ∷ counts) behind fits =
      let here = same_at rank count (omega arith) (λ e. omega (arith, e)) in
      let rest = same_behind (rank + 1) counts (omega arith) (omega arith) in
      omega arith

  -- the member's votes are the difference
  votes_from-one_more : (rank i : ℕ) (counts : List ℕ) → gone ≡ rank + i → i < length counts → rank + length counts ≤ 32
      → votes_from rank counts more ≡ get_or counts i 0 + votes_from rank counts fewer
  votes_from-one_more rank i [] at below fits = absurd (omega arith)
  votes_from-one_more rank zero (count ∷ counts) at below fits =
      let here : gone ≡ rank = omega arith in
      let has : (if is_member more rank then count else 0) ≡ count =
      ap (λ b. if b then count else 0) (subst (λ n. is_member more n ≡ true) here one.has) in
      let has_not : (if is_member fewer rank then count else 0) ≡ 0 =
      ap (λ b. if b then count else 0) (subst (λ n. is_member fewer n ≡ false) here one.has_not) in
      let rest = same_behind (rank + 1) counts (omega arith) (omega arith) in
      omega arith
  votes_from-one_more rank (suc i) (count ∷ counts) at below fits =
      let here = same_at rank count (omega arith) (λ e. omega (arith, e)) in
      let rest = votes_from-one_more (rank + 1) i counts (omega arith) (omega arith) (omega arith) in
      omega arith

  pub votes_of-one_more : (counts : List ℕ) → gone < length counts → length counts ≤ 32
      → votes_of counts more ≡ get_or counts gone 0 + votes_of counts fewer
  votes_of-one_more counts below fits = votes_from-one_more 0 gone counts (omega arith) below (omega arith)

  pub members_left-one_more : gone < 32 → members_left more ≡ 1 + members_left fewer
  unfolding members_left
  members_left-one_more below =
      let ones : List ℕ = replicate 32 1 in
      let whole : length ones ≡ 32 = length-replicate {A = ℕ} 32 1 in
      let one_each : get_or ones gone 0 ≡ 1 = get_or-replicate {A = ℕ} 32 gone 1 0 below in
      votes_of-one_more ones (omega (arith, whole)) (omega (arith, whole)) ∙ ap (λ n. n + votes_of ones fewer) one_each

-- no votes without a member
pub votes_from-none : (members : Mask) (rank : ℕ) (counts : List ℕ) → ((j : ℕ) → j < rank + length counts → is_member members j ≡ false)
    → votes_from rank counts members ≡ 0
votes_from-none members rank [] none = refl
votes_from-none members rank (count ∷ counts) none =
    let here : (if is_member members rank then count else 0) ≡ 0 = ap (λ b. if b then count else 0) (none rank (omega arith)) in
    let rest = votes_from-none members (rank + 1) counts (λ j below. none j (omega arith)) in
    omega arith

keeps : (b one : Bool) → one ≡ false → (b && not one) ≡ b
keeps true one off = ap not off
keeps false one off = refl

-- a member is taken away by the mask that has it alone
pub takes_away : (more single fewer : Mask) (rank : ℕ) → rank < 32 → is_member more rank ≡ true
    → ((j : ℕ) → j < 32 → is_member single j ≡ (rank == j || is_member (record { 0 = 0 }) j))
    → ((j : ℕ) → is_member fewer j ≡ (is_member more j && not (is_member single j)))
    → HasOneMore more fewer rank
takes_away more single fewer rank below member alone apart = record {
  has = member;
  has_not =
      let here : is_member single rank ≡ true = alone rank below ∙ ap (λ b. b || is_member (record { 0 = 0 }) rank) (eq-eqb rank rank refl) in
      apart rank ∙ ap (λ b. b && not (is_member single rank)) member ∙ ap not here;
  others = λ j fits other.
      let not_here : is_member single j ≡ false =
      alone j fits ∙ ap (λ b. b || is_member (record { 0 = 0 }) j) (ne_eqb rank j (λ e. other (sym e))) ∙ empty_has_none j in
      sym (apart j ∙ keeps (is_member more j) (is_member single j) not_here);
}

-- the votes of the nodes with one member fewer
pub node_taken : (nodes : List NodeEntry) (node : NodeEntry) (more fewer : Mask) (rank : ℕ) → HasOneMore more fewer rank
    → rank < length nodes → length nodes ≤ 32 → slice_get nodes rank ≡ Some node
    → votes_of (node_votes nodes) more ≡ node.votes + votes_of (node_votes nodes) fewer
node_taken nodes node more fewer rank one below few at =
    let as_many : length (node_votes nodes) ≡ length nodes = length-map nodes (λ n. n.votes) in
    let own : get_or (node_votes nodes) rank 0 ≡ node.votes =
    get_or-map (λ n. n.votes) nodes rank node 0 below ∙ ap (λ n. n.votes) (get_or_from_slice_get nodes rank node node at) in
    votes_of-one_more more fewer rank one (node_votes nodes) (omega (arith, as_many)) (omega (arith, as_many))
    ∙ ap (λ n. n + votes_of (node_votes nodes) fewer) own

-- no votes of the nodes without a member
pub nobody_left : (nodes : List NodeEntry) (members : Mask) → ((j : ℕ) → j < length nodes → is_member members j ≡ false)
    → votes_of (node_votes nodes) members ≡ 0
nobody_left nodes members none =
    let as_many : length (node_votes nodes) ≡ length nodes = length-map nodes (λ n. n.votes) in
    votes_from-none members 0 (node_votes nodes) (λ j below. none j (omega (arith, as_many)))
