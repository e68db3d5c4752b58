use Rattle.std.proofs.Common.{◌∙◌}
use Rattle.qn_triple.proofs.DiskSteps.{parts_read, settled_same}
use Rattle.qn_parts.specs.Parts.{part_on}
use Rattle.qn_triple.proofs.state.State.none_pending.Goals as goal

pub returns : goal.returns
returns c = λ d is.
    c.are_settled.ensures ∙ settled_same (part_on c.parts.result) (d.parts c.args.i.0) (parts_read c.args.self.now d c.args.i.0 c.parts.result is c.requires c.parts.ensures)
