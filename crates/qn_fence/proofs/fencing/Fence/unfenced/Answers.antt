use Rattle.std.proofs.Common.{◌∙◌}
use Rattle.qn_fence.proofs.Choices.{unfenced-first, unfenced_none, unfenced_some}
use Rattle.qn_fence.proofs.fencing.Fence.unfenced.Goals as goal

pub returns-in_err-rank : goal.returns-in_err-rank
returns-in_err-rank c = λ s log h later.
    let first = c.first.ensures in
    c.from_residual.ensures
    ∙ unfenced_none s log c.args.tick c.first.result
    (unfenced-first c.args.self.now s log h c.outside.result c.outside.ensures c.args.tick c.without-unclean.result c.fenced.result c.without.result c.first.result later
    c.without-unclean.ensures c.fenced.ensures c.without.ensures first.within first.member first.least first.none)
    c.in_err-rank.was

pub returns : goal.returns
returns c = λ s log h later.
    let first = c.first.ensures in
    unfenced_some c.args.self.now s log c.args.tick h later c.first.result c.in_ok-rank.rank
    (unfenced-first c.args.self.now s log h c.outside.result c.outside.ensures c.args.tick c.without-unclean.result c.fenced.result c.without.result c.first.result later
    c.without-unclean.ensures c.fenced.ensures c.without.ensures first.within first.member first.least first.none)
    c.in_ok-rank.was c.in_ok-rank.ensures.below c.left-left.result c.is_some.result c.unwrap_or.result c.left-left.ensures c.is_some.ensures c.unwrap_or.ensures
