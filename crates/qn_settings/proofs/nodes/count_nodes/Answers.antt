use Rattle.std.proofs.Common.{ap, arith, length}
use Rattle.qn_settings.specs.Nodes.{sections}
use Rattle.qn_settings.proofs.nodes.count_nodes.Goals as goal

pub overflow_add-node : goal.overflow_add-node
overflow_add-node c =
    omega (arith, ap length c.loop-entries-test.ensures, ap (λ entries. length (sections entries)) c.of-entries.ensures.entries)
