use Rattle.std.proofs.Common.{◌∙◌, ap}
use Rattle.std.specs.Prelude.{slice_set}
use Rattle.qn_cluster.proofs.seats.Seats.boot.Goals as goal

pub returns : goal.returns
returns c = (
  c.boot.new.self,
  ap (λ seats. slice_set seats c.from.result c.boot.new.self) c.self.view_is ∙ ap (λ k. slice_set c.args.self.now k c.boot.new.self) c.from.ensures,
  c.boot.ensures,
)
