-- Counts that were worked by hand, as theorems of the definitions.
use Rattle.std.proofs.Common.{◌≡◌, ℕ, Bool, true, false, List, [], ◌∷◌, Some, None, refl}
use Rattle.std.specs.Prelude.{replicate}
use Rattle.qn_model.specs.declared.configuration.Settings.{Settings}
use Rattle.qn_model.specs.declared.votes.VoteEntry.{VoteEntry}
use Rattle.qn_model.specs.declared.votes.VoteWhat.TheVariants as what
use Rattle.qn_model.specs.declared.votes.Answer.{Answer}
use Rattle.qn_model.specs.Votes.{answer_at, present_view, view_tick, is_released, expected_votes, device_yes}

-- a view of these members
abbrev pub sees : ℕ → ℕ → VoteEntry
sees members tick = record { tick = tick; what = what.View (record { id = 0; members = record { 0 = members } }) }

abbrev device_agrees : ℕ → VoteEntry
device_agrees tick = record { tick = tick; what = what.Device true }

abbrev waits : ℕ → VoteEntry
waits tick = record { tick = tick; what = what.Tick }

-- quorate, votes, quorum, expected, released
abbrev pub counts : Bool → ℕ → ℕ → ℕ → Bool → Answer
counts quorate votes quorum expected released =
    record { quorate = quorate; votes = votes; quorum = quorum; expected = expected; released = released }

-- eight nodes of one vote each with last man standing: all are seen, then five, three, two and one
abbrev last_man : Settings
last_man =
    record {
      nodes = replicate 8 (record { id = record { 0 = 1 }; votes = 1; fence_delay = 0 });
      two_node = false;
      wait_for_all = false;
      last_man_standing = true;
      window = 10000;
      device = None;
      expected = 8;
      tie = None;
    }

abbrev all_eight : List VoteEntry
all_eight = sees 255 0 ∷ []

abbrev five_left : List VoteEntry
five_left = sees 31 1000 ∷ all_eight

abbrev three_left : List VoteEntry
three_left = waits 22000 ∷ sees 7 12000 ∷ waits 11000 ∷ five_left

abbrev two_left : List VoteEntry
two_left = waits 33000 ∷ sees 3 23000 ∷ three_left

last_man_all : answer_at last_man all_eight 0 ≡ counts true 8 5 8 true
unfolding answer_at present_view view_tick is_released expected_votes device_yes
last_man_all = refl

last_man_five : answer_at last_man five_left 1000 ≡ counts true 5 5 8 true
unfolding answer_at present_view view_tick is_released expected_votes device_yes
last_man_five = refl

last_man_before_the_window : answer_at last_man (waits 10999 ∷ five_left) 10999 ≡ counts true 5 5 8 true
unfolding answer_at present_view view_tick is_released expected_votes device_yes
last_man_before_the_window = refl

last_man_at_the_window : answer_at last_man (waits 11000 ∷ five_left) 11000 ≡ counts true 5 3 5 true
unfolding answer_at present_view view_tick is_released expected_votes device_yes
last_man_at_the_window = refl

last_man_three : answer_at last_man three_left 22000 ≡ counts true 3 2 3 true
unfolding answer_at present_view view_tick is_released expected_votes device_yes
last_man_three = refl

last_man_two : answer_at last_man two_left 33000 ≡ counts true 2 2 2 true
unfolding answer_at present_view view_tick is_released expected_votes device_yes
last_man_two = refl

last_man_alone : answer_at last_man (waits 99000 ∷ sees 1 34000 ∷ two_left) 99000 ≡ counts false 1 2 2 true
unfolding answer_at present_view view_tick is_released expected_votes device_yes
last_man_alone = refl

-- three nodes of one vote each and a device of one vote
abbrev with_device : Settings
with_device =
    record {
      nodes = replicate 3 (record { id = record { 0 = 1 }; votes = 1; fence_delay = 0 });
      two_node = false;
      wait_for_all = false;
      last_man_standing = false;
      window = 10000;
      device = Some (record { votes = 1; timeout = 10000 });
      expected = 4;
      tie = None;
    }

abbrev two_and_device : List VoteEntry
two_and_device = device_agrees 0 ∷ sees 3 0 ∷ []

device_counts : answer_at with_device two_and_device 9999 ≡ counts true 3 3 4 true
unfolding answer_at present_view view_tick is_released expected_votes device_yes
device_counts = refl

device_expires : answer_at with_device two_and_device 10000 ≡ counts false 2 3 4 true
unfolding answer_at present_view view_tick is_released expected_votes device_yes
device_expires = refl

-- two nodes with two_node and wait_for_all: one is seen, then both, then one
abbrev two_nodes : Settings
two_nodes =
    record {
      nodes = replicate 2 (record { id = record { 0 = 1 }; votes = 1; fence_delay = 0 });
      two_node = true;
      wait_for_all = true;
      last_man_standing = false;
      window = 10000;
      device = None;
      expected = 2;
      tie = None;
    }

two_nodes_alone : answer_at two_nodes (sees 1 0 ∷ []) 0 ≡ counts false 1 1 2 false
unfolding answer_at present_view view_tick is_released expected_votes device_yes
two_nodes_alone = refl

two_nodes_both : answer_at two_nodes (sees 3 0 ∷ sees 1 0 ∷ []) 0 ≡ counts true 2 1 2 true
unfolding answer_at present_view view_tick is_released expected_votes device_yes
two_nodes_both = refl

two_nodes_released : answer_at two_nodes (sees 1 0 ∷ sees 3 0 ∷ sees 1 0 ∷ []) 0 ≡ counts true 1 1 2 true
unfolding answer_at present_view view_tick is_released expected_votes device_yes
two_nodes_released = refl
