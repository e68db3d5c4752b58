use Rattle.std.proofs.Common.{◌≡◌, ℕ, ◌+◌, ◌/◌, ◌≤◌, Bool, true, false, List, [], ◌∷◌, Some, IsTrue, if◌then◌else◌, refl, arith, is_some, add-zero}
use Rattle.std.proofs.lemmas.Bool.{leb-true}
use Rattle.std.proofs.lemmas.List.Sums.{sum_by-cons}
use Rattle.qn_base.specs.declared.ids.View.{View}
use Rattle.qn_base.specs.Members.{is_member, votes_from}
use Rattle.qn_base.specs.lemmas.Bools.{last_of_three}
use Rattle.qn_model.specs.declared.nodelist.NodeEntry.{NodeEntry}
use Rattle.qn_model.specs.declared.configuration.Settings.{Settings}
use Rattle.qn_model.specs.declared.votes.VoteEntry.{VoteEntry}
use Rattle.qn_model.specs.declared.votes.VoteWhat.{VoteWhat}
use Rattle.qn_model.specs.declared.votes.VoteWhat.TheVariants as what
use Rattle.qn_model.specs.Settings.{all_votes, node_votes}
use Rattle.qn_model.specs.Laws.{AreDisjoint, IsPlainMajority}
use Rattle.qn_model.specs.Votes.{raised, lowered, expected_votes, present_view, is_released, counted_votes, is_quorate, quorum_of, votes_among}

-- no entry lowers expected votes but by last man standing
raised-ge : (s : Settings) (w : VoteWhat) (before : ℕ) → before ≤ raised s w before
raised-ge s (what.View view) before = omega arith
raised-ge s (what.Device agrees) before = omega arith
raised-ge s what.Released before = omega arith
raised-ge s what.Tick before = omega arith

lowered-same : (s : Settings) (past : List VoteEntry) (now before : ℕ) → s.last_man_standing ≡ false → lowered s past now before ≡ before
lowered-same s past now before off = rw off refl

pub expected_votes-ge : (s : Settings) (past : List VoteEntry) → s.last_man_standing ≡ false → s.expected ≤ expected_votes s past
unfolding expected_votes
expected_votes-ge s [] off = omega arith
expected_votes-ge s (entry ∷ past) off =
    let before = expected_votes-ge s past off in
    let up = raised-ge s entry.what (expected_votes s past) in
    let same = lowered-same s (entry ∷ past) entry.tick (raised s entry.what (expected_votes s past)) off in
    omega arith

-- one node gives its votes to at most one of two disjoint views
counted_once : (count : ℕ) (left right : Bool) → (IsTrue left → ¬ IsTrue right) → (if left then count else 0) + (if right then count else 0) ≤ count
counted_once count true true apart = absurd (apart refl refl)
counted_once count true false apart = omega arith
counted_once count false true apart = omega arith
counted_once count false false apart = omega arith

-- two disjoint views have at most all votes together
pub disjoint_votes-le : (left right : View) → AreDisjoint left right → (rank : ℕ) (nodes : List NodeEntry)
    → votes_from rank (node_votes nodes) left.members + votes_from rank (node_votes nodes) right.members ≤ all_votes nodes
disjoint_votes-le left right apart rank [] = omega arith
disjoint_votes-le left right apart rank (node ∷ nodes) =
    let rest = disjoint_votes-le left right apart (rank + 1) nodes in
    let here = counted_once node.votes (is_member left.members rank) (is_member right.members rank) (apart rank) in
    let all = sum_by-cons (λ (n : NodeEntry). n.votes) node nodes in
    omega arith

-- without a device the votes that count are those of the view
counted_votes-plain : (s : Settings) (past : List VoteEntry) (now : ℕ) (view : View) → IsPlainMajority s → present_view past ≡ Some view
    → counted_votes s past now ≡ votes_among s.nodes view.members
counted_votes-plain s past now view plain seen = rw (seen, plain.no_last_man, plain.no_device) (add-zero _)

-- a quorate view has more than half of all votes
more_than_half : (s : Settings) (past : List VoteEntry) (now : ℕ) (view : View) → IsPlainMajority s → present_view past ≡ Some view
    → IsTrue (is_quorate s past now) → all_votes s.nodes / 2 + 1 ≤ votes_among s.nodes view.members
more_than_half s past now view plain seen quorate =
    let enough : quorum_of s (expected_votes s past) ≤ counted_votes s past now = leb-true _ _ (last_of_three (is_some (present_view past)) (is_released s past) _ quorate) in
    let half : quorum_of s (expected_votes s past) ≡ expected_votes s past / 2 + 1 = rw plain.no_two_node refl in
    let counted = counted_votes-plain s past now view plain seen in
    let whole = plain.whole in
    let kept = expected_votes-ge s past plain.no_last_man in
    omega arith

-- two disjoint views are never both quorate
pub disjoint_views : (s : Settings) (first second : List VoteEntry) (tick later : ℕ) (left right : View) → IsPlainMajority s
    → present_view first ≡ Some left → present_view second ≡ Some right → AreDisjoint left right
    → IsTrue (is_quorate s first tick) → ¬ IsTrue (is_quorate s second later)
disjoint_views s first second tick later left right plain seen also_seen apart quorate also_quorate =
    let one = more_than_half s first tick left plain seen quorate in
    let other = more_than_half s second later right plain also_seen also_quorate in
    let together = disjoint_votes-le left right apart 0 s.nodes in
    omega arith
