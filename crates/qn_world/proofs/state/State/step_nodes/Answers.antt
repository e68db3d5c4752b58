use Rattle.std.proofs.lemmas.Result.{on_ok_weaker, on_err_weaker}
use Rattle.qn_world.proofs.EventSteps.{kept_can, kept_starved, kept_stepped}
use Rattle.qn_world.proofs.state.State.step_nodes.Goals as goal

pub step-requires-clause-ready : goal.step-requires-clause-ready
step-requires-clause-ready c = kept_can c.args.self.now _ c.self.view_is c.args.event.now c.requires.nodes c.requires.ready

pub returns-clause-ok : goal.returns-clause-ok
returns-clause-ok c =
    on_ok_weaker c.step.result (kept_stepped c.args.self.now _ c.self.view_is c.args.event.now c.step.new.self c.step.new.outs c.requires.nodes) c.step.ensures.ok

pub returns-clause-err : goal.returns-clause-err
returns-clause-err c = on_err_weaker c.step.result (kept_starved c.args.self.now _ c.self.view_is c.args.event.now c.step.new.self) c.step.ensures.err
