-- A node whose view is a majority is quorate.
use Rattle.std.proofs.Common.{◌≡◌, ℕ, ◌+◌, ◌/◌, ◌≤◌, Bool, true, false, not, ◌&&◌, ◌||◌, List, [], ◌∷◌, Option, Some, None, if◌then◌else◌, refl, sym, ap, ◌∙◌, subst, arith, is_some, add-zero, max}
use Rattle.std.specs.Prelude.{nat_le}
use Rattle.std.proofs.lemmas.Bool.{and_from, le-leb, or_left, or_right}
use Rattle.std.proofs.lemmas.List.Sums.{sum_by-cons}
use Rattle.qn_base.specs.declared.ids.Mask.{Mask}
use Rattle.qn_base.specs.declared.ids.View.{View}
use Rattle.qn_base.specs.Members.{is_member, votes_from}
use Rattle.qn_model.specs.declared.nodelist.NodeEntry.{NodeEntry}
use Rattle.qn_model.specs.declared.configuration.Settings.{Settings}
use Rattle.qn_model.specs.declared.votes.VoteEntry.{VoteEntry}
use Rattle.qn_model.specs.declared.votes.VoteWhat.{VoteWhat}
use Rattle.qn_model.specs.declared.votes.VoteWhat.TheVariants as vote
use Rattle.qn_model.specs.lemmas.VoteLists.{present_view-votes}
use Rattle.qn_model.specs.Log.{Line}
use Rattle.qn_model.specs.NodeVotes.{quorate_with_tie, view, votes}
use Rattle.qn_model.specs.Settings.{all_votes, node_votes}
use Rattle.qn_model.specs.Tie.{breaks_tie}
use Rattle.qn_model.specs.Votes.{counted_votes, expected_votes, is_quorate, is_released, lowered, present_view, quorum_of, raised, releases, votes_among}
use Rattle.qn_progress.specs.Majority.{IsMajority}

given_or_none : (count : ℕ) (b : Bool) → (if b then count else 0) ≤ count
given_or_none count true = omega arith
given_or_none count false = omega arith

-- no set has more than all votes
votes_le : (set : Mask) (rank : ℕ) (nodes : List NodeEntry) → votes_from rank (node_votes nodes) set ≤ all_votes nodes
votes_le set rank [] = omega arith
votes_le set rank (node ∷ nodes) =
    let rest = votes_le set (rank + 1) nodes in
    let here = given_or_none node.votes (is_member set rank) in
    let all = sum_by-cons (λ (n : NodeEntry). n.votes) node nodes in
    omega arith

-- without last_man_standing nothing is lowered, so no bound on what was raised is passed
lowered_within : (s : Settings) (past : List VoteEntry) (now before most : ℕ) → s.last_man_standing ≡ false → before ≤ most → lowered s past now before ≤ most
lowered_within s past now before most off within = rw off within

raised_le : (s : Settings) (w : VoteWhat) (before most : ℕ) → before ≤ most → all_votes s.nodes ≤ most → raised s w before ≤ most
raised_le s (vote.View given) before most low whole = let some = votes_le given.members 0 s.nodes in omega arith
raised_le s (vote.Device agrees) before most low whole = low
raised_le s vote.Released before most low whole = low
raised_le s vote.Tick before most low whole = low

expected_le : (s : Settings) (past : List VoteEntry) (most : ℕ) → s.last_man_standing ≡ false → s.expected ≤ most → all_votes s.nodes ≤ most → expected_votes s past ≤ most
unfolding expected_votes
expected_le s [] most off first whole = first
expected_le s (entry ∷ past) most off first whole =
    let up = raised_le s entry.what (expected_votes s past) most (expected_le s past most off first whole) whole in
    lowered_within s (entry ∷ past) entry.tick (raised s entry.what (expected_votes s past)) most off up

released_all : (s : Settings) (past : List VoteEntry) → s.wait_for_all ≡ false → is_released s past ≡ true
unfolding is_released
released_all s [] off = ap not off
released_all s (entry ∷ past) off = or_right (releases s entry.what) (is_released s past) (released_all s past off)

counted : (s : Settings) (past : List VoteEntry) (now : ℕ) (given : View) → s.device ≡ None → s.last_man_standing ≡ false → present_view past ≡ Some given
    → counted_votes s past now ≡ votes_among s.nodes given.members
counted s past now given none off seen = rw (seen, off, none) (add-zero _)

pub majority_quorate : (s : Settings) (set : Mask) (log : List Line) (given : View) (tick : ℕ) → IsMajority s set → view log ≡ Some given → given.members ≡ set
    → quorate_with_tie s log tick ≡ true
majority_quorate s set log given tick majority sees same =
    or_left (is_quorate s (votes log) tick) (is_released s (votes log) && breaks_tie s (votes log))
    (and_from (is_some (present_view (votes log)) && is_released s (votes log)) (nat_le (quorum_of s (expected_votes s (votes log))) (counted_votes s (votes log) tick))
    (and_from (is_some (present_view (votes log))) (is_released s (votes log)) (ap is_some seen) (released_all s (votes log) majority.wait_for_all))
    (le-leb _ _ enough))
  where
    seen : present_view (votes log) ≡ Some given
    seen = present_view-votes log ∙ sees

    half : (expected : ℕ) → quorum_of s expected ≡ expected / 2 + 1
    half expected = ap (λ (b : Bool). if b then 1 else expected / 2 + 1) majority.two_node

    enough : quorum_of s (expected_votes s (votes log)) ≤ counted_votes s (votes log) tick
    enough =
        let most = max s.expected (all_votes s.nodes) in
        let low = expected_le s (votes log) (max s.expected (all_votes s.nodes)) majority.last_man (omega arith) (omega arith) in
        let one = half (expected_votes s (votes log)) in
        let other = half (max s.expected (all_votes s.nodes)) in
        let count = counted s (votes log) tick given majority.device majority.last_man seen in
        let has = subst (λ (m : Mask). quorum_of s (max s.expected (all_votes s.nodes)) ≤ votes_among s.nodes m) (sym same) majority.votes in
        omega arith
