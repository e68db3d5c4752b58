use Rattle.std.proofs.Common.{◌≡◌, take}
use Rattle.qn_settings.proofs.nodes.nodes_in.Given as goal

abbrev pub invariant-loop-entry : goal.invariant-loop-entry
invariant-loop-entry l = l.nodes ≡ take l.entry-index l.entries
