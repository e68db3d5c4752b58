use Rattle.std.proofs.Common.{◌≡◌, ◌∙◌, Some, ap, subst, map, lit<}
use Rattle.std.specs.Prelude.{slice_get}
use Rattle.qn_polls.specs.Poller.{poller_of, standing_of}
use Rattle.qn_safety.specs.Poller.{with_sent}
use Rattle.qn_arbiter.proofs.Lists.{poller_put, poller_read, read_few}
use Rattle.qn_arbiter.proofs.pollers.Pollers.send.Goals as goal

pub poll-requires : goal.poll-requires
poll-requires c =
    read_few c.self.inside.all c.from.result _ 18446744073709551615 (lit< tt)
    (λ poller there. c.requires.few poller (subst (λ items. slice_get items c.args.i.0 ≡ Some poller) c.self.view_is
    (subst (λ i. slice_get (map poller_of c.self.inside.all) i ≡ Some poller) c.from.ensures there)))

pub returns : goal.returns
returns c = λ pollers h.
    let i = c.args.i in
    let sent = with_sent i (standing_of c.args.at) in
    poller_put c.self.inside.all c.args.self.now pollers c.from.result i.0 c.poll.new.self (sent (pollers i.0)) c.self.view_is c.from.ensures c.requires.within
    (c.poll.ensures.sent ∙ ap sent (poller_read c.self.inside.all c.args.self.now (pollers i.0) c.from.result i.0 _ c.self.view_is c.from.ensures (h.each i.0 c.requires.within))) h
