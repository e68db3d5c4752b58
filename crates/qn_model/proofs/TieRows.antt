-- Ties of two halves that were worked by hand, as theorems of the definitions.
use Rattle.std.proofs.Common.{◌≡◌, ℕ, Bool, true, false, List, [], ◌∷◌, Some, None, refl}
use Rattle.std.specs.Prelude.{replicate}
use Rattle.qn_base.specs.declared.ids.Rank.{Rank}
use Rattle.qn_model.specs.declared.configuration.Settings.{Settings}
use Rattle.qn_model.specs.declared.votes.VoteEntry.{VoteEntry}
use Rattle.qn_model.specs.declared.votes.Answer.{Answer}
use Rattle.qn_model.specs.Votes.{answer_at, present_view, view_tick, is_released, expected_votes, device_yes}
use Rattle.qn_model.specs.Tie.{answer_with_tie_at, majority_view}
use Rattle.qn_model.proofs.WorkedCounts.{counts, sees}

-- four nodes of one vote each, with ids 1 to 4, and these expected votes and order of preference
abbrev four_nodes : ℕ → List Rank → Settings
four_nodes expected order =
    record {
      nodes = replicate 4 (record { id = record { 0 = 1 }; votes = 1; fence_delay = 0 });
      two_node = false;
      wait_for_all = false;
      last_man_standing = false;
      window = 10000;
      device = None;
      expected = expected;
      tie = Some order;
    }

abbrev rank : ℕ → Rank
rank number = record { 0 = number }

-- `lowest`, and the list `3 1`
abbrev lowest : List Rank
lowest = rank 0 ∷ rank 1 ∷ rank 2 ∷ rank 3 ∷ []

abbrev three_or_one : List Rank
three_or_one = rank 2 ∷ rank 0 ∷ []

-- the count after these views, the newest first
abbrev count : List Rank → List VoteEntry → Answer
count order views = answer_with_tie_at (four_nodes 4 order) views 0

abbrev half : Bool → Answer
half quorate = counts quorate 2 3 4 true

-- all four were seen, and then a half: the one with node 1 is quorate
half_with_lowest : count lowest (sees 3 0 ∷ sees 15 0 ∷ []) ≡ half true
unfolding answer_at present_view view_tick is_released expected_votes device_yes majority_view
half_with_lowest = refl

half_without_lowest : count lowest (sees 12 0 ∷ sees 15 0 ∷ []) ≡ half false
unfolding answer_at present_view view_tick is_released expected_votes device_yes majority_view
half_without_lowest = refl

-- by the list, node 3 breaks the tie where it was in the last view of a majority, and else node 1
half_without_the_first : count three_or_one (sees 3 0 ∷ sees 15 0 ∷ []) ≡ half false
unfolding answer_at present_view view_tick is_released expected_votes device_yes majority_view
half_without_the_first = refl

half_with_the_next : count three_or_one (sees 3 0 ∷ sees 11 0 ∷ sees 15 0 ∷ []) ≡ half true
unfolding answer_at present_view view_tick is_released expected_votes device_yes majority_view
half_with_the_next = refl

-- node 3 saw no view of a majority since all four, so that this other half is quorate too
half_with_the_first : count three_or_one (sees 12 0 ∷ sees 4 0 ∷ sees 15 0 ∷ []) ≡ half true
unfolding answer_at present_view view_tick is_released expected_votes device_yes majority_view
half_with_the_first = refl

other_half_by_lowest : count lowest (sees 12 0 ∷ sees 4 0 ∷ sees 15 0 ∷ []) ≡ half false
unfolding answer_at present_view view_tick is_released expected_votes device_yes majority_view
other_half_by_lowest = refl

-- where no view had a majority, all four nodes count as the last one's members
half_at_first : count lowest (sees 3 0 ∷ []) ≡ half true
unfolding answer_at present_view view_tick is_released expected_votes device_yes majority_view
half_at_first = refl

-- with more votes expected than there are, three of four nodes can be a half
three_of_six : answer_with_tie_at (four_nodes 6 lowest) (sees 7 0 ∷ []) 0 ≡ counts true 3 4 6 true
unfolding answer_at present_view view_tick is_released expected_votes device_yes majority_view
three_of_six = refl
