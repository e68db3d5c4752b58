use Rattle.qn_joined.proofs.Handing.{answer_looked, handed_at, plain_looked}
use Rattle.qn_joined.proofs.laws.law_looks_as_node.Goals as goal

pub returns : goal.returns
returns c = λ s rank host chosen n took took' left left' all time tick is on asked clock logs spends said.
    handed_at s rank n took took' left left' all host chosen time tick is on asked clock logs spends
    (plain_looked tick chosen) (answer_looked tick chosen) said
