use Rattle.qn_safety.specs.Poller.{fresh_poller}
use Rattle.qn_arbiter.proofs.Lists.{pollers_all}
use Rattle.qn_arbiter.proofs.pollers.Pollers.new.Goals as goal

pub returns : goal.returns
returns c = pollers_all c.new.result (fresh_poller c.args.limit) c.new.ensures
