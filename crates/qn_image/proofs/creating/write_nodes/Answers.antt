use Rattle.std.proofs.lemmas.Result.{err_from_is_err_and}
use Rattle.qn_base.specs.PlanSteps.{did_none}
use Rattle.qn_image.specs.Writes.{writes_plan, node_writes}
use Rattle.qn_image.proofs.Writing.{node_written, node_failed}
use Rattle.qn_image.proofs.creating.write_nodes.Goals as goal

pub loop-rank-init : goal.loop-rank-init
unfolding writes_plan node_writes
loop-rank-init g c = did_none _ _ _

pub loop-rank-preserved : goal.loop-rank-preserved
loop-rank-preserved g c =
    node_written c.args.nodes.now c.loop-rank.rank _ c.loop-rank-test.true c.loop-rank.invariant c.in_ok-write_node.ensures

pub returns-in_err-write_node : goal.returns-in_err-write_node
returns-in_err-write_node g c =
    let p = err_from_is_err_and c.from_residual.result c.from_residual.ensures.1 in
    rw (p.1, p.2)
    (node_failed c.args.nodes.now c.loop-rank.rank _ c.loop-rank-test.true _ c.loop-rank.invariant c.in_err-write_node.ensures)
