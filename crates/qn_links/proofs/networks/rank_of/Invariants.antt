use Rattle.qn_links.specs.Networks.{IsAbsent}
use Rattle.qn_links.proofs.networks.rank_of.Given as goal

-- no rank so far has the address
abbrev pub invariant-loop-rank : goal.invariant-loop-rank
invariant-loop-rank l = IsAbsent l.links l.rank l.address
