use Rattle.std.proofs.Common.{◌∙◌, subst}
use Rattle.qn_cluster.specs.Seats.{HandedSeat}
use Rattle.qn_cluster.proofs.SeatSteps.{boot_outs_are, boot_ranks, boot_seat, fresh_of}
use Rattle.qn_cluster.proofs.seat.Seat.boot.Goals as goal

pub returns : goal.returns
returns c =
    let before = fresh_of c.new.result c.args.time c.args.base in
    let hands = subst (λ entry. HandedSeat before c.hand.new.self c.args.time entry c.hand.new.outs) c.begin.ensures c.hand.ensures in
    record {
      room = hands.room ∙ c.new.ensures.fresh;
      op = hands.op;
      stands = λ node. boot_seat c.new.result c.hand.new.self c.args.settings.now c.args.me.0 c.args.time c.args.base c.args.clean node c.new.ensures.stands hands.stands;
      gives = λ node. boot_outs_are c.new.result c.hand.new.outs c.args.settings.now c.args.me.0 c.args.time c.args.base c.args.clean node c.new.ensures.stands hands.gives;
      ranks = boot_ranks c.new.result c.hand.new.outs c.args.settings.now c.args.me.0 c.args.time c.args.base c.new.ensures.stands hands.ranks;
    }
