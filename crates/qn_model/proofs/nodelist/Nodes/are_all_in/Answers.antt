use Rattle.std.proofs.Common.{sym, length, arith, ◌∙◌}
use Rattle.qn_model.specs.Votes.{are_all_in}
use Rattle.qn_model.proofs.ByRank.{all_in-member, all_in-outsider}
use Rattle.qn_model.proofs.nodelist.Nodes.are_all_in.Goals as goal

pub loop-rank-preserved : goal.loop-rank-preserved
loop-rank-preserved c =
    all_in-member c.args.members c.loop-rank.rank (length c.args.self.now) (are_all_in c.args.self.now c.args.members) (omega arith) (sym c.contains.ensures ∙ c.if-not-contains.false) c.loop-rank.invariant

pub returns-then-not-contains : goal.returns-then-not-contains
returns-then-not-contains c =
    sym (all_in-outsider c.args.members c.loop-rank.rank (length c.args.self.now) (are_all_in c.args.self.now c.args.members) (omega arith) (sym c.contains.ensures ∙ c.if-not-contains.true) c.loop-rank.invariant)
