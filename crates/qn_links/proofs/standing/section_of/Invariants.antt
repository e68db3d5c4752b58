use Rattle.std.proofs.Common.{◌≡◌, drop}
use Rattle.qn_links.specs.Standings.{section_of}
use Rattle.qn_links.proofs.standing.section_of.Given as goal

-- no section so far is that of the node
abbrev pub invariant-loop-section : goal.invariant-loop-section
invariant-loop-section l = section_of l.sections l.id ≡ section_of (drop l.section-index l.sections) l.id
