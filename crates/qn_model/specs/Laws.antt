use Rattle.std.specs.Prelude.{◌≡◌, ◌≤◌, ℕ, false, IsTrue, None}
use Rattle.qn_base.specs.declared.ids.View.{View}
use Rattle.qn_base.specs.Members.{is_member}
use Rattle.qn_model.specs.declared.configuration.Settings.{Settings}
use Rattle.qn_model.specs.Settings.{all_votes}

-- plain majority: neither two_node nor last_man_standing nor a device, and expected votes of at least all
-- node votes
pub record IsPlainMajority (s : Settings) : Type 0 where
  pub no_two_node : s.two_node ≡ false
  pub no_last_man : s.last_man_standing ≡ false
  pub no_device : s.device ≡ None
  pub whole : all_votes s.nodes ≤ s.expected

-- no rank is a member of both views
abbrev pub AreDisjoint : View → View → Type 0
AreDisjoint first second =
    (rank : ℕ) → IsTrue (is_member first.members rank) → ¬ IsTrue (is_member second.members rank)
