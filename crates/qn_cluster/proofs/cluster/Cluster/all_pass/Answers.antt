use Rattle.std.proofs.Common.{length, sym, ◌∙◌, ap, arith}
use Rattle.qn_base.specs.lemmas.Ranges.{all_after_first}
use Rattle.qn_cluster.specs.Tests.{passes_at}
use Rattle.qn_cluster.proofs.cluster.Cluster.all_pass.Goals as goal

pub loop-rank-preserved : goal.loop-rank-preserved
loop-rank-preserved c =
    all_after_first (passes_at c.args.watchdog c.args.self.now c.args.dt c.args.clocks.now) c.loop-rank.rank (length c.args.self.now.seats) _
    (let v = ap (λ w. length w.seats) c.self.view_is in let e = c.len-rank-end.ensures in let t = c.loop-rank-test.true in omega arith)
    (sym c.passes.ensures ∙ c.if-not-passes.false) c.loop-rank.invariant
