use Rattle.std.proofs.Common.{refl}
use Rattle.qn_model.specs.Votes.{expected_votes, is_released, present_view}
use Rattle.qn_quorum.proofs.counting.Quorum.new.Goals as goal

pub returns : goal.returns
unfolding present_view expected_votes is_released
returns c = record { has_settings = c.copy.ensures; has_present = refl; has_expected = refl; has_released = refl }
