use Rattle.std.proofs.Common.{◌≡◌, drop}
use Rattle.qn_links.specs.Names.{name_text}
use Rattle.qn_links.proofs.names.name_text.Given as goal

-- no section so far is that of the node
abbrev pub invariant-loop-section : goal.invariant-loop-section
invariant-loop-section l = name_text l.sections l.id ≡ name_text (drop l.section-index l.sections) l.id
