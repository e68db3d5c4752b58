use Rattle.std.proofs.Common.{◌≡◌, ℕ, ◌+◌, Bool, true, false, List, [], ◌∷◌, IsTrue, refl, sym, ap, ◌∙◌, arith, not, ◌||◌, ◌&&◌, is_some, Any, nat_le, add-one}
use Rattle.std.proofs.lemmas.Bool.{false≢true}
use Rattle.qn_model.specs.declared.configuration.Settings.{Settings}
use Rattle.qn_model.specs.declared.votes.VoteEntry.{VoteEntry}
use Rattle.qn_model.specs.Votes.{present_view, is_released, releases, is_quorate, quorum_of, expected_votes, counted_votes}

-- an entry of the list releases
abbrev HasRelease : Settings → List VoteEntry → Type 0
HasRelease s votes = Any (λ entry. IsTrue (releases s entry.what)) votes

later : (s : Settings) (entry : VoteEntry) (past : List VoteEntry) → HasRelease s past → HasRelease s (entry ∷ past)
later s entry past found = (found.0 + 1, found.1, omega (arith, found.2), rw add-one found.3, found.4)

here : (s : Settings) (entry : VoteEntry) (past : List VoteEntry) → IsTrue (releases s entry.what) → HasRelease s (entry ∷ past)
here s entry past it = (0, entry, omega arith, refl, it)

by_either : (s : Settings) (entry : VoteEntry) (past : List VoteEntry) (now : Bool) → releases s entry.what ≡ now
    → (IsTrue (is_released s past) → HasRelease s past) → IsTrue (now || is_released s past) → HasRelease s (entry ∷ past)
by_either s entry past true is found either = here s entry past is
by_either s entry past false is found either = later s entry past (found either)

-- with wait_for_all on, what is released was released by an entry
released_by : (s : Settings) (votes : List VoteEntry) → IsTrue s.wait_for_all → IsTrue (is_released s votes) → HasRelease s votes
unfolding is_released
released_by s [] waits released = absurd (false≢true (sym (ap not waits) ∙ released))
released_by s (entry ∷ past) waits released =
    by_either s entry past (releases s entry.what) refl (λ was. released_by s past waits was) released

middle_of : (a b c : Bool) → IsTrue (a && b && c) → IsTrue b
middle_of true true c all = refl
middle_of true false c all = all
middle_of false b c all = absurd (false≢true all)

-- with wait_for_all on, nothing is quorate before a release
pub released_first : (s : Settings) (votes : List VoteEntry) (tick : ℕ) → IsTrue s.wait_for_all → IsTrue (is_quorate s votes tick) → HasRelease s votes
released_first s votes tick waits quorate =
    released_by s votes waits (middle_of (is_some (present_view votes)) (is_released s votes) (nat_le (quorum_of s (expected_votes s votes)) (counted_votes s votes tick)) quorate)
