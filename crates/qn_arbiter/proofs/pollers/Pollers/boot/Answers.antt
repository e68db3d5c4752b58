use Rattle.qn_safety.specs.Poller.{fresh_poller}
use Rattle.qn_arbiter.proofs.Lists.{poller_put}
use Rattle.qn_arbiter.proofs.pollers.Pollers.boot.Goals as goal

pub returns : goal.returns
returns c = λ pollers h.
    poller_put c.self.inside.all c.args.self.now pollers c.from.result c.args.i.0 c.new.result (fresh_poller c.args.limit) c.self.view_is c.from.ensures c.requires c.new.ensures h
