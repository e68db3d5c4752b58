use Rattle.qn_joined.proofs.Calls.{returns_at}
use Rattle.qn_joined.proofs.laws.law_returns_as_node.Goals as goal

pub returns : goal.returns
returns c = λ s rank host n took left all spot made time sent. returns_at host made time spot sent
