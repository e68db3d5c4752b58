use Rattle.std.proofs.Common.{◌+◌, ◌-◌, arith, length}
use Rattle.qn_cluster.specs.Packets.{sents}
use Rattle.qn_cluster.proofs.OutputSteps.{sends_more}
use Rattle.qn_cluster.proofs.outputs.send_all.Goals as goal

pub send-requires : goal.send-requires
send-requires c =
    let room = c.loop-out.invariant.1 (length c.args.outs.now - c.loop-out.out-index) (omega arith) in
    record { headings = omega (arith, room.headings); kept = omega (arith, room.kept) }

pub loop-out-preserved : goal.loop-out-preserved
loop-out-preserved c = (
  sends_more (sents c.args.packets.now) (sents c.loop-out.packets) (sents c.send.new.packets) c.args.outs.now c.loop-out.out-index _
      c.loop-out-test.true c.loop-out.invariant.0 c.send.ensures.items,
  λ left rest. c.send.ensures.room left (c.loop-out.invariant.1 (left + 1) (omega arith)),
)
