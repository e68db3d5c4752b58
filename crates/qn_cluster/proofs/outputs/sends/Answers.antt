use Rattle.std.proofs.Common.{sym, ◌∙◌}
use Rattle.qn_cluster.proofs.OutputSteps.{none_more, some_sends}
use Rattle.qn_cluster.proofs.outputs.sends.Goals as goal

pub returns-then-is_some : goal.returns-then-is_some
returns-then-is_some c = (
  λ e. absurd (cc),
  λ none.
      absurd (some_sends c.args.outs.now c.loop-out.out-index _ c.packet_in.result c.loop-out-test.true c.packet_in.ensures
      (sym c.is_some.ensures ∙ c.if-is_some.true) none),
)

pub loop-out-preserved : goal.loop-out-preserved
loop-out-preserved c =
    none_more c.args.outs.now c.loop-out.out-index _ c.packet_in.result c.loop-out-test.true c.loop-out.invariant c.packet_in.ensures
    (sym c.is_some.ensures ∙ c.if-is_some.false)
