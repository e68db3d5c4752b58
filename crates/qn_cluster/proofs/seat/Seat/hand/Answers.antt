use Rattle.std.proofs.Common.{◌∙◌, ap, ◌+◌}
use Rattle.qn_model.specs.Moments.{handed, logged}
use Rattle.qn_node.specs.Node.{steps_of}
use Rattle.qn_cluster.proofs.SeatSteps.{hand_outs, hand_ranks, hand_seat}
use Rattle.qn_cluster.proofs.seat.Seat.hand.Goals as goal

pub returns : goal.returns
unfolding handed logged
returns c =
    record {
      room = ap (λ seat. steps_of seat.node + 1) c.note.ensures ∙ c.step.ensures.count;
      op = ap (λ seat. seat.op) c.note.ensures;
      stands = λ s me node is on due.
          hand_seat c.args.self.now c.step.new.self c.note.new.self s me c.args.time c.tick-tick.result c.args.what node c.step.new.outs c.phase.result
          c.is_gone-gone.result c.holds-self.result is on due c.tick-tick.ensures c.step.ensures.stands c.step.ensures.outs c.phase.ensures.exact c.is_gone-gone.ensures
          c.holds-self.ensures (let h = c.note.ensures in cc);
      gives = λ s me node is on.
          hand_outs c.args.self.now s me c.args.time c.tick-tick.result c.args.what node c.step.new.outs is on c.tick-tick.ensures c.step.ensures.outs;
      ranks = λ s me node is on.
          hand_ranks c.args.self.now s me c.tick-tick.result c.args.what node c.step.new.outs is on c.tick-tick.ensures c.step.ensures.ranks;
    }
