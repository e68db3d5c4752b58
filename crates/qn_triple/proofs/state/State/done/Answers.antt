use Rattle.std.proofs.Common.{◌<◌, ◌∙◌, ap, length, subst, sym}
use Rattle.std.proofs.lemmas.Result.{err_from_is_err_and}
use Rattle.qn_cluster.specs.Nodes.{Nodes}
use Rattle.qn_cluster.specs.Standing.{HasRoom}
use Rattle.qn_cluster.specs.Stepping.{Handed, Unhanded}
use Rattle.qn_triple.specs.Whole.{cluster_of, with_nodes}
use Rattle.qn_triple.proofs.EventSteps.{done_starved, done_stepped, not_done}
use Rattle.qn_triple.proofs.RuleSteps.{done_rank, few, within}
use Rattle.qn_triple.proofs.state.State.done.Goals as goal

pub op-requires : goal.op-requires
op-requires c = within c.args.self.now c.args.i.0 c.requires.standing (done_rank c.args.self.now.settings c.args.i c.requires.formed)

pub answer-entry-requires : goal.answer-entry-requires
answer-entry-requires c = few c.args.self.now c.args.i.0 c.requires.standing (done_rank c.args.self.now.settings c.args.i c.requires.formed)

pub hand-requires : goal.hand-requires
hand-requires c =
    let nodes = sym (ap cluster_of c.self.view_is) in
    record {
      within = subst (λ (n : Nodes). c.args.i.0 < length n.seats) nodes (within c.args.self.now c.args.i.0 c.requires.standing (done_rank c.args.self.now.settings c.args.i c.requires.formed));
      room = subst HasRoom nodes c.requires.room;
    }

pub close-requires : goal.close-requires
close-requires c = few c.args.self.now c.args.i.0 c.requires.standing (done_rank c.args.self.now.settings c.args.i c.requires.formed)

pub returns-in_err-hand-clause-err : goal.returns-in_err-hand-clause-err
returns-in_err-hand-clause-err c =
    let p = err_from_is_err_and c.from_residual.result c.from_residual.ensures.1 in
    rw p.1
    (done_starved c.args.self.now _ c.args.i c.in-Some.op c.answer-entry.result (λ d is on. sym c.in-Some.is ∙ c.op.ensures.exact d is on) c.answer-entry.ensures
    (ap (λ w. with_nodes w c.hand.new.self) c.self.view_is)
    (subst (λ n. Unhanded n c.hand.new.self c.args.i.0 c.answer-entry.result) (ap cluster_of c.self.view_is) c.in_err-hand.ensures.err))

pub returns-in_ok-hand-clause-ok : goal.returns-in_ok-hand-clause-ok
returns-in_ok-hand-clause-ok c =
    done_stepped c.args.self.now _ c.close.new.self c.args.i c.in-Some.op c.answer-entry.result c.hand.new.outs (λ d is on. sym c.in-Some.is ∙ c.op.ensures.exact d is on)
    c.answer-entry.ensures (ap (λ w. with_nodes w c.hand.new.self) c.self.view_is)
    (subst (λ n. Handed n c.hand.new.self c.args.i.0 c.answer-entry.result c.hand.new.outs) (ap cluster_of c.self.view_is) c.in_ok-hand.ensures.ok) c.close.ensures

pub returns-in_default-clause-ok : goal.returns-in_default-clause-ok
returns-in_default-clause-ok c = not_done c.args.self.now c.args.i c.op.result c.args.outs.now c.op.ensures.exact (λ op e. c.in_default.not-Some op e)
