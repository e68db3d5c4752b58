use Rattle.std.proofs.Common.{arith}
use Rattle.qn_commands.proofs.Listing.{ranks_go_on, ranks_over, ranks_stop}
use Rattle.qn_commands.proofs.commands.list.list_ranks.Goals as goal

pub returns-in-Some-clause-works : goal.returns-in-Some-clause-works
returns-in-Some-clause-works g c = λ input.
    ranks_stop c.args.version c.ranks.rank c.args.nodes (c.ranks.invariant.0 input) (omega arith) c.list_rank.ensures.sink_faults _ (c.in-Some.ensures.stopped input)

pub ranks-preserved : goal.ranks-preserved
ranks-preserved g c = (
  λ input. ranks_go_on c.args.version c.ranks.rank c.args.nodes (c.ranks.invariant.0 input) (omega arith) c.list_rank.ensures.sink_faults (c.in_default.ensures.listed input),
  omega arith,
  omega arith,
)

pub returns-clause-works : goal.returns-clause-works
returns-clause-works g c = λ input. ranks_over c.args.version c.ranks.rank c.args.nodes (c.ranks.invariant.0 input) (omega arith)
