use Rattle.qn_triple.proofs.DiskSteps.{part_turned}
use Rattle.qn_triple.proofs.state.State.set_part.Goals as goal

pub returns : goal.returns
returns c =
    part_turned c.args.self.now c.set_parts.new.self c.args.i.0 c.args.image c.parts.result c.with_part-parts.result c.args.part c.requires.within c.parts.ensures
    c.with_part-parts.ensures c.set_parts.ensures
