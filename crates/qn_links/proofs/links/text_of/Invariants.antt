use Rattle.std.proofs.Common.{◌≡◌, drop}
use Rattle.qn_links.specs.Links.{text_of}
use Rattle.qn_links.proofs.links.text_of.Given as goal

-- no section so far is that of the node
abbrev pub invariant-loop-section : goal.invariant-loop-section
invariant-loop-section l = text_of l.ring l.sections l.id ≡ text_of l.ring (drop l.section-index l.sections) l.id
