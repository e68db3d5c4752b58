use Rattle.std.proofs.Common.{◌∙◌, ap, subst}
use Rattle.std.specs.Prelude.{slice_set}
use Rattle.qn_base.specs.lemmas.Lists.{read_at}
use Rattle.qn_cluster.specs.Seats.{HandedSeat}
use Rattle.qn_cluster.proofs.seats.Seats.hand.Goals as goal

pub returns : goal.returns
returns c old here = (
  c.hand.new.self,
  ap (λ seats. slice_set seats c.from.result c.hand.new.self) c.self.view_is ∙ ap (λ k. slice_set c.args.self.now k c.hand.new.self) c.from.ensures,
  subst (λ seat. HandedSeat seat c.hand.new.self c.args.time c.args.what c.hand.new.outs)
      (c.index_mut-seat.ensures.value
      ∙ read_at c.self.inside.places.items c.args.self.now c.from.result c.args.i.0 old _ c.self.view_is c.from.ensures here)
      c.hand.ensures,
)
