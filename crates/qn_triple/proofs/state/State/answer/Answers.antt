use Rattle.std.proofs.Common.{◌∙◌}
use Rattle.qn_parts.specs.Parts.{is_good_on, part_on}
use Rattle.qn_triple.proofs.DiskSteps.{answer_same, good_read, parts_read}
use Rattle.qn_triple.proofs.state.State.answer.Goals as goal

pub returns : goal.returns
returns c = λ d is.
    c.answer_of.ensures
    ∙ answer_same c.args.op (part_on c.parts.result) (d.parts c.args.i.0) (is_good_on c.good.result) (d.good c.args.i.0)
    (parts_read c.args.self.now d c.args.i.0 c.parts.result is c.requires c.parts.ensures) (good_read c.args.self.now d c.args.i.0 c.good.result is c.requires c.good.ensures)
