use Rattle.qn_node.proofs.Stages.{no_part_at}
use Rattle.qn_node.proofs.stage.Stage.step.Goals as goal

pub step_quiet-requires-clause-quiet : goal.step_quiet-requires-clause-quiet
step_quiet-requires-clause-quiet c = no_part_at c.args.self.now c.in_default.not-Live
