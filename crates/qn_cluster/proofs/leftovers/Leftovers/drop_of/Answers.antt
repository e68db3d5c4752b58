use Rattle.std.proofs.Common.{◌∙◌, ap}
use Rattle.qn_cluster.specs.Places.{others_of}
use Rattle.qn_cluster.proofs.Marks.{left_dropped}
use Rattle.qn_cluster.proofs.leftovers.Leftovers.drop_of.Goals as goal

pub returns : goal.returns
returns c = λ count left is.
    left_dropped c.args.self.now _ c.args.i count left is (c.drop_left.ensures ∙ ap (others_of c.args.i.0) c.self.view_is)
