use Rattle.std.proofs.Common.{◌∙◌, ap, length}
use Rattle.qn_cluster.specs.DiskStanding.{left_of}
use Rattle.qn_cluster.proofs.leftovers.Leftovers.count_of.Goals as goal

pub returns : goal.returns
returns c = λ count left is.
    c.count_of.ensures
    ∙ (ap (λ items. length (left_of c.args.i.0 c.args.image items)) (c.as_slice.ensures.value ∙ c.self.view_is)
    ∙ ap length (is.lefts c.args.i.0 c.args.image c.requires))
