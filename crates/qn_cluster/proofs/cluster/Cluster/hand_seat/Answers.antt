use Rattle.std.proofs.Common.{◌∙◌, ap, subst}
use Rattle.std.specs.Prelude.{slice_get, slice_set}
use Rattle.qn_cluster.specs.Seats.{HandedSeat}
use Rattle.qn_cluster.specs.Nodes.{Nodes}
use Rattle.qn_cluster.specs.Packets.{sents}
use Rattle.qn_cluster.proofs.cluster.Cluster.hand_seat.Goals as goal

pub returns : goal.returns
returns c old here =
    let handed = c.hand.ensures old (ap (λ w. slice_get w.seats c.args.i.0) c.self.view_is ∙ here) in (
      handed.0,
      ap (λ seats. record {
        settings = c.self.inside.settings;
        time = c.self.inside.time;
        seats = seats;
        packets = sents c.self.inside.packets;
        steps = c.self.inside.steps;
      }) handed.1
          ∙ ap (λ (w : Nodes). record w { seats = slice_set w.seats c.args.i.0 handed.0 }) c.self.view_is,
      subst (λ t. HandedSeat old handed.0 t c.args.what c.hand.new.outs) (ap (λ w. w.time) c.self.view_is) handed.2,
    )
