use Rattle.std.proofs.Common.{arith}
use Rattle.qn_base.proofs.MemberVotes.{votes_from-drop}
use Rattle.qn_base.proofs.members.votes.Goals as goal

pub loop-rank-preserved : goal.loop-rank-preserved
loop-rank-preserved c = grind (arith, votes_from-drop c.args.members c.args.votes.now c.loop-rank.rank)
