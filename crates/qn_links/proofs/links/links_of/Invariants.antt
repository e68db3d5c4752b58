use Rattle.std.proofs.Common.{◌≡◌, length}
use Rattle.qn_links.specs.Links.{AreLinks}
use Rattle.qn_links.proofs.links.links_of.Given as goal

-- the ranks below this one are placed
abbrev pub invariant-loop-rank : goal.invariant-loop-rank
invariant-loop-rank l = (length l.links ≡ 32) × AreLinks l.ring l.sections l.nodes l.links l.rank
