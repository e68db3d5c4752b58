use Rattle.std.proofs.Common.{ap}
use Rattle.qn_member.specs.Maker.{Maker, differs_still, with_ranks}
use Rattle.qn_member.proofs.Differs.{one_rank_more}
use Rattle.qn_member.proofs.member.Member.differs_beside.Goals as goal

pub loop-rank-init : goal.loop-rank-init
unfolding with_ranks
loop-rank-init c = let same = ap (λ (m : Maker). m.differs) c.self.view_is in cc

pub loop-rank-preserved : goal.loop-rank-preserved
loop-rank-preserved c =
    one_rank_more (differs_still c.args.self.now c.args.company c.args.view) c.loop-rank.rank c.args.self.now.differs c.loop-rank.differs c.from.result c.differs_still.result c.loop-rank.invariant c.from.ensures c.differs_still.ensures
