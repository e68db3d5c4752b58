use Rattle.std.proofs.Common.{◌∙◌, ap}
use Rattle.qn_safety.specs.Poller.{without_last}
use Rattle.qn_arbiter.proofs.Lists.{poller_put, poller_read}
use Rattle.qn_arbiter.proofs.pollers.Pollers.on_view.Goals as goal

pub returns : goal.returns
returns c = λ pollers h.
    let i = c.args.i.0 in
    poller_put c.self.inside.all c.args.self.now pollers c.from.result i c.on_view.new.self (without_last (pollers i)) c.self.view_is c.from.ensures c.requires
    (c.on_view.ensures ∙ ap without_last (poller_read c.self.inside.all c.args.self.now (pollers i) c.from.result i _ c.self.view_is c.from.ensures (h.each i c.requires))) h
