use Rattle.std.proofs.Common.{refl}
use Rattle.qn_model.specs.Votes.{present_view, view_tick}
use Rattle.qn_node.specs.Tally.{view_count}
use Rattle.qn_node.proofs.tally.Tally.new.Goals as goal

pub returns-clause-stands : goal.returns-clause-stands
unfolding present_view view_tick view_count
returns-clause-stands c = record { counts = c.new.ensures; breaks = c.new-2.ensures; views = refl; since = refl; installed = refl }
