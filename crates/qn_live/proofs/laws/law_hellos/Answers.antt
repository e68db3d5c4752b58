use Rattle.qn_live.proofs.GreetingsMade.{hellos_made}
use Rattle.qn_live.proofs.laws.law_hellos.Goals as goal

pub returns : goal.returns
returns c = λ s me entry st m calls next is due follows. hellos_made s me entry st m calls next is due follows
