use Rattle.qn_heard.proofs.Members.{ask_sent}
use Rattle.qn_heard.proofs.listener.Heard.ask.Goals as goal

pub returns : goal.returns
returns c = λ s me log line h none. ask_sent c.args.self.now me log line c.args.to c.in_ok-view.view h.hears none c.in_ok-view.was
