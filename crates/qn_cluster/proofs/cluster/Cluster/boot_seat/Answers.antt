use Rattle.std.proofs.Common.{◌∙◌, ap, subst}
use Rattle.std.specs.Prelude.{slice_set}
use Rattle.qn_cluster.specs.Nodes.{Nodes}
use Rattle.qn_cluster.specs.Packets.{sents}
use Rattle.qn_cluster.specs.Seats.{BootedSeat}
use Rattle.qn_cluster.proofs.cluster.Cluster.boot_seat.Goals as goal

pub returns : goal.returns
returns c =
    let booted = c.boot.ensures in (
      booted.0,
      ap (λ seats. record {
        settings = c.self.inside.settings;
        time = c.self.inside.time;
        seats = seats;
        packets = sents c.self.inside.packets;
        steps = c.self.inside.steps;
      }) booted.1
          ∙ ap (λ (w : Nodes). record w { seats = slice_set w.seats c.args.i.0 booted.0 }) c.self.view_is,
      subst (λ w. BootedSeat booted.0 w.settings c.args.i.0 w.time c.args.base c.args.clean c.boot.new.outs) c.self.view_is booted.2,
    )
