-- The tie breaker: which node breaks a tie of two equal halves. Each list of vote entries here stands newest entry
-- first.
use Rattle.std.specs.Prelude.{ℕ, Bool, false, List, [], ◌∷◌, Option, None, Some, ◌*◌, ◌==◌, ◌&&◌, ◌||◌, find, length, nat_lt, option_and_then, if◌then◌else◌}
use Rattle.std.specs.Option.{option_map_or, option_or}
use Rattle.qn_base.specs.declared.ids.Rank.{Rank}
use Rattle.qn_base.specs.declared.ids.View.{View}
use Rattle.qn_base.specs.Members.{is_member}
use Rattle.qn_model.specs.declared.configuration.Settings.{Settings}
use Rattle.qn_model.specs.declared.votes.Answer.{Answer}
use Rattle.qn_model.specs.declared.votes.VoteEntry.{VoteEntry}
use Rattle.qn_model.specs.declared.votes.VoteWhat.{VoteWhat}
use Rattle.qn_model.specs.declared.votes.VoteWhat.TheVariants as what
use Rattle.qn_model.specs.Votes.{answer_at, expected_votes, is_quorate, is_released, present_view, view_votes, votes_among}

-- the view of an entry, where it has more than half of the votes that are expected after that entry
abbrev pub majority_of : Settings → ℕ → VoteWhat → Option View
majority_of s expected (what.View view) = if nat_lt expected (2 * votes_among s.nodes view.members) then Some view else None
majority_of s expected (what.Device agrees) = None
majority_of s expected what.Released = None
majority_of s expected what.Tick = None

-- the last view of a majority
unfoldable pub majority_view : Settings → List VoteEntry → Option View
majority_view s [] = None
majority_view s (entry ∷ past) =
    option_or (majority_of s (expected_votes s (entry ∷ past)) entry.what) (majority_view s past)

-- whether a rank is in the last view of a majority; where there was none, each configured node is
abbrev pub was_in_majority : Settings → List VoteEntry → ℕ → Bool
was_in_majority s past rank =
    option_map_or (λ view. is_member view.members rank) (majority_view s past) (nat_lt rank (length s.nodes))

-- votequorum(5), `auto_tie_breaker_node`: the first of the order that is in the last view of a majority. That a list is
-- tried over that view is this project's profile.
abbrev pub tie_node : Settings → List VoteEntry → Option Rank
tie_node s past = option_and_then (λ order. find (λ rank. was_in_majority s past rank.0) order) s.tie

-- whether a rank is a member of the present view
abbrev pub is_seen : List VoteEntry → ℕ → Bool
is_seen past rank = option_map_or (λ view. is_member view.members rank) (present_view past) false

-- votequorum(5), `auto_tie_breaker`: the present view has exactly half of the expected votes, and the tie node
abbrev pub breaks_tie : Settings → List VoteEntry → Bool
breaks_tie s past =
    2 * view_votes s past == expected_votes s past && option_map_or (λ rank. is_seen past rank.0) (tie_node s past) false

-- votequorum(5), `auto_tie_breaker`: by the count of votes, or once released by the breaker
abbrev pub is_quorate_with_tie : Settings → List VoteEntry → ℕ → Bool
is_quorate_with_tie s past now = is_quorate s past now || (is_released s past && breaks_tie s past)

-- the count of a vote list at a tick, with the breaker
abbrev pub answer_with_tie_at : Settings → List VoteEntry → ℕ → Answer
answer_with_tie_at s past now = record (answer_at s past now) { quorate = is_quorate_with_tie s past now }
