-- A set of ranks that is a quorum of its own. This project's profile.
use Rattle.std.specs.Prelude.{◌≡◌, ◌<◌, ◌≤◌, ℕ, false, true, length, max, None}
use Rattle.qn_base.specs.declared.ids.Mask.{Mask}
use Rattle.qn_base.specs.Members.{is_member}
use Rattle.qn_model.specs.declared.configuration.Settings.{Settings}
use Rattle.qn_model.specs.Settings.{all_votes}
use Rattle.qn_model.specs.Votes.{quorum_of, votes_among}

-- Its votes reach the quorum of whatever is expected: what the settings say, or all votes. There is no device, two_node, wait_for_all and
-- last_man_standing are off.
pub record IsMajority (s : Settings) (set : Mask) : Type 0 where
  pub configured : (rank : ℕ) → is_member set rank ≡ true → rank < length s.nodes
  pub votes : quorum_of s (max s.expected (all_votes s.nodes)) ≤ votes_among s.nodes set
  pub device : s.device ≡ None
  pub two_node : s.two_node ≡ false
  pub wait_for_all : s.wait_for_all ≡ false
  pub last_man : s.last_man_standing ≡ false
