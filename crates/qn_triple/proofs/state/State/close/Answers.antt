use Rattle.qn_triple.proofs.DiskSteps.{closed_turned}
use Rattle.qn_triple.proofs.state.State.close.Goals as goal

pub returns : goal.returns
returns c =
    closed_turned c.args.self.now c.set_good.new.self c.forget_parts.new.self c.args.i.0 c.args.op c.parts.result c.good.result c.good_after-good.result c.requires
    c.parts.ensures c.good.ensures c.good_after-good.ensures c.set_good.ensures c.forget_parts.ensures
