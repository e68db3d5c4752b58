use Rattle.std.proofs.Common.{◌∙◌, sym, refl}
use Rattle.std.proofs.lemmas.Result.{err_from_is_err_and}
use Rattle.qn_cluster.proofs.NodeEvents.{deliver_made, deliver_starved, not_delivered, rank_ready}
use Rattle.qn_cluster.proofs.cluster.Cluster.deliver.Goals as goal
use Rattle.qn_model.specs.declared.events.Event.TheVariants as event

pub hand-requires-clause-within : goal.hand-requires-clause-within
hand-requires-clause-within c = rank_ready c.args.self.now (event.Deliver c.args.i c.args.number) c.args.i c.requires refl

pub returns-in_err-hand-clause-err : goal.returns-in_err-hand-clause-err
returns-in_err-hand-clause-err c =
    let p = err_from_is_err_and c.from_residual.result c.from_residual.ensures.1 in
    rw p.1
    (deliver_starved c.args.self.now c.hand.new.self c.args.i c.args.number c.in-Some.sent c.entry_of.result (λ d is. sym c.in-Some.is ∙ c.packet.ensures.exact d.moments is) c.entry_of.ensures
    c.in_err-hand.ensures.err)

pub returns-in_ok-hand-clause-ok : goal.returns-in_ok-hand-clause-ok
returns-in_ok-hand-clause-ok c =
    deliver_made c.args.self.now c.hand.new.self c.args.i c.args.number c.in-Some.sent c.entry_of.result c.hand.new.outs (λ d is. sym c.in-Some.is ∙ c.packet.ensures.exact d.moments is) c.entry_of.ensures
    c.in_ok-hand.ensures.ok

pub returns-in_default-clause-ok : goal.returns-in_default-clause-ok
returns-in_default-clause-ok c =
    not_delivered c.args.self.now c.args.i c.args.number c.packet.result c.args.outs.now (λ d is. c.packet.ensures.exact d.moments is) (λ sent e. c.in_default.not-Some sent e)
