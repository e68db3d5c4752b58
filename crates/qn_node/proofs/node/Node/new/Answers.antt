use Rattle.std.proofs.Common.{[], refl, subst}
use Rattle.qn_model.specs.NodeVotes.{votes}
use Rattle.qn_node.specs.Tally.{TallyFor}
use Rattle.qn_node.proofs.node.Node.new.Goals as goal

pub returns-clause-stands : goal.returns-clause-stands
unfolding votes
returns-clause-stands c = record {
  has_settings = c.copy.ensures;
  has_rank = refl;
  is_configured = c.requires;
  knows = refl;
  is_inside = c.law_asked_inside.ensures.none;
  counts = subst (λ s. TallyFor c.new-tally.result s []) c.copy.ensures c.new-tally.ensures.stands;
  stands = refl;
}
