use Rattle.std.proofs.Common.{arith}
use Rattle.qn_heard.proofs.Steps.{heard_asked}
use Rattle.qn_heard.proofs.listener.Heard.asks.Goals as goal

pub returns-in-Some-clause-stands : goal.returns-in-Some-clause-stands
returns-in-Some-clause-stands c = λ s me log h at.
    heard_asked c.args.self.now s me log c.args.tick c.in-Some.due c.checked_add-self.result h at (omega arith) c.in-Some.is c.if-due-tick.true c.checked_add-self.ensures
