use Rattle.qn_links.specs.Networks.{AreDisjoint}
use Rattle.qn_links.proofs.networks.shared.Given as goal

-- no address of the ranks so far is one of the first network
abbrev pub invariant-loop-rank : goal.invariant-loop-rank
invariant-loop-rank l = AreDisjoint l.first l.second l.rank
