use Rattle.std.proofs.Common.{◌∙◌, ap}
use Rattle.qn_model.specs.Settings.{ids}
use Rattle.qn_sched.specs.MemberList.{rank_number}
use Rattle.qn_sched.proofs.Places.{known_rank-told, rank_of-number}
use Rattle.qn_sched.proofs.members.known_rank.Goals as goal

pub returns-clause-value : goal.returns-clause-value
returns-clause-value c =
    ap rank_number c.ok_or.ensures.value
    ∙ known_rank-told c.args.nodes.now c.args.word.now c.in_ok-id.id c.rank_of.result c.in_ok-id.ensures.value c.rank_of.ensures.named c.rank_of.ensures.unnamed

pub returns-clause-rank : goal.returns-clause-rank
returns-clause-rank c = rank_of-number (ids c.args.nodes.now) c.args.word.now c.ok_or.result (returns-clause-value c)
