use Rattle.qn_heard.proofs.Steps.{heard_view}
use Rattle.qn_heard.proofs.listener.Heard.on_view.Goals as goal

pub returns-clause-stands : goal.returns-clause-stands
returns-clause-stands c = λ s me log line h at is no_claim.
    heard_view c.args.self.now s me log line c.args.view c.args.tick h at is no_claim
