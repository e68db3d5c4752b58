use Rattle.qn_links.specs.Links.{IsApartFrom}
use Rattle.qn_links.proofs.links.apart.Given as goal

-- the address is apart from those of the ranks so far
abbrev pub invariant-loop-below : goal.invariant-loop-below
invariant-loop-below l = IsApartFrom l.links l.below l.address
