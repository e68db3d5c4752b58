use Rattle.qn_safety.proofs.ArbiterHolder.{holds_by_vote}
use Rattle.qn_safety.proofs.arbiter_laws.law_node_holds_by_leased_vote.Goals as goal

pub returns : goal.returns
returns c = holds_by_vote
