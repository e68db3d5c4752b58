use Rattle.std.proofs.Common.{◌<◌, ◌∙◌, ap, length, refl, subst, sym}
use Rattle.qn_cluster.specs.Nodes.{Nodes}
use Rattle.qn_cluster.specs.Stepping.{Ended}
use Rattle.qn_model.specs.declared.events.Event.TheVariants as event
use Rattle.std.proofs.lemmas.Result.{err_from_is_err_and}
use Rattle.qn_world.specs.Whole.{cluster_of, with_nodes}
use Rattle.qn_world.proofs.EventSteps.{IsOut, crash_starved, crash_stepped, took_same}
use Rattle.qn_world.proofs.RuleSteps.{rank_few, rank_within}
use Rattle.qn_world.proofs.state.State.crash.Goals as goal

pub op-op-requires : goal.op-op-requires
op-op-requires c = rank_within c.args.self.now (event.Crash c.args.i) c.args.i c.requires.standing c.requires.formed refl

pub took-took-requires : goal.took-took-requires
took-took-requires c = rank_few c.args.self.now (event.Crash c.args.i) c.args.i c.requires.standing c.requires.formed refl

pub give_up-requires : goal.give_up-requires
give_up-requires c = c.op-op.ensures.within

pub take-requires : goal.take-requires
take-requires c = rank_few c.args.self.now (event.Crash c.args.i) c.args.i c.requires.standing c.requires.formed refl

pub end-requires : goal.end-requires
end-requires c =
    subst (λ (n : Nodes). c.args.i.0 < length n.seats)
    (sym (ap cluster_of c.self.view_is ∙ (ap cluster_of c.take.ensures ∙ ap cluster_of c.in_ok-give_up.ensures.ok.rest)))
    (rank_within c.args.self.now (event.Crash c.args.i) c.args.i c.requires.standing c.requires.formed refl)

pub returns-in_err-give_up-clause-err : goal.returns-in_err-give_up-clause-err
returns-in_err-give_up-clause-err c =
    let p = err_from_is_err_and c.from_residual.result c.from_residual.ensures.1 in
    let out : IsOut c.args.self.now c.args.i.0 c.op-op.result c.took-took.result = record {
      below = rank_few c.args.self.now (event.Crash c.args.i) c.args.i c.requires.standing c.requires.formed refl;
      op_is = c.op-op.ensures.exact;
      took_is = took_same c.args.self.now c.args.i.0 c.took-took.result (rank_few c.args.self.now (event.Crash c.args.i) c.args.i c.requires.standing c.requires.formed refl) c.took-took.ensures;
    } in
    rw p.1
    (crash_starved c.args.self.now c.give_up.new.self c.args.i c.op-op.result c.took-took.result out c.in_err-give_up.ensures.err c.in_err-give_up.ensures.cause)

pub returns-clause-ok : goal.returns-clause-ok
returns-clause-ok c =
    let out : IsOut c.args.self.now c.args.i.0 c.op-op.result c.took-took.result = record {
      below = rank_few c.args.self.now (event.Crash c.args.i) c.args.i c.requires.standing c.requires.formed refl;
      op_is = c.op-op.ensures.exact;
      took_is = took_same c.args.self.now c.args.i.0 c.took-took.result (rank_few c.args.self.now (event.Crash c.args.i) c.args.i c.requires.standing c.requires.formed refl) c.took-took.ensures;
    } in
    crash_stepped c.args.self.now c.give_up.new.self c.take.new.self _ c.args.i c.op-op.result c.took-took.result out c.in_ok-give_up.ensures.ok
    c.take.ensures (ap (λ w. with_nodes w c.end.new.self) c.self.view_is) (subst (λ n. Ended n c.end.new.self c.args.i.0) (ap cluster_of c.self.view_is) c.end.ensures)
