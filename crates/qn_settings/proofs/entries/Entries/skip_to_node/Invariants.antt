use Rattle.std.proofs.Common.{◌≡◌, length}
use Rattle.qn_settings.specs.Nodes.{sections}
use Rattle.qn_settings.proofs.entries.Entries.skip_to_node.Given as goal

abbrev pub invariant-loop-entry : goal.invariant-loop-entry
invariant-loop-entry l = sections l.self ≡ sections l.fn.self

abbrev pub decreases-loop-entry : goal.decreases-loop-entry
decreases-loop-entry l = length l.self
