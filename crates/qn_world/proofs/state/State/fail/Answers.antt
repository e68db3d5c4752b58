use Rattle.std.proofs.Common.{◌<◌, ◌∙◌, ap, length, refl, subst, sym, Some}
use Rattle.qn_model.specs.declared.events.Event.TheVariants as event
use Rattle.std.proofs.Common.{take}
use Rattle.std.proofs.lemmas.Result.{err_from_is_err_and}
use Rattle.qn_cluster.specs.Standing.{HasRoom, IsOpWithin}
use Rattle.qn_world.specs.Whole.{cluster_of}
use Rattle.qn_world.proofs.AnswerSteps.{fail_starved, fail_starved_left, fail_stepped, not_failed}
use Rattle.qn_world.proofs.EventSteps.{IsOut, took_same}
use Rattle.qn_world.proofs.RuleSteps.{rank_few, rank_within}
use Rattle.qn_world.proofs.state.State.fail.Goals as goal

pub op-requires : goal.op-requires
op-requires c = rank_within c.args.self.now (event.Fail c.args.i) c.args.i c.requires.standing c.requires.formed refl

pub took-took-requires : goal.took-took-requires
took-took-requires c = rank_few c.args.self.now (event.Fail c.args.i) c.args.i c.requires.standing c.requires.formed refl

pub give_up-requires : goal.give_up-requires
give_up-requires c = λ d is. subst (IsOpWithin (length c.args.self.now.settings.nodes)) c.in-Some.is (c.op.ensures.within d is)

pub hand-requires : goal.hand-requires
hand-requires c =
    record {
      within = subst (λ w. c.args.i.0 < length w.seats) (sym c.in_ok-give_up.ensures.ok.rest) (rank_within c.args.self.now (event.Fail c.args.i) c.args.i c.requires.standing c.requires.formed refl);
      room = subst HasRoom (sym (ap cluster_of c.in_ok-give_up.ensures.ok.rest)) c.requires.room;
    }

pub take-requires : goal.take-requires
take-requires c = rank_few c.args.self.now (event.Fail c.args.i) c.args.i c.requires.standing c.requires.formed refl

pub returns-in_err-give_up-clause-err : goal.returns-in_err-give_up-clause-err
returns-in_err-give_up-clause-err c =
    let p = err_from_is_err_and c.from_residual.result c.from_residual.ensures.1 in
    let out : IsOut c.args.self.now c.args.i.0 (Some c.in-Some.op) c.took-took.result = record {
      below = rank_few c.args.self.now (event.Fail c.args.i) c.args.i c.requires.standing c.requires.formed refl;
      op_is = λ d is on. sym c.in-Some.is ∙ c.op.ensures.exact d is on;
      took_is = took_same c.args.self.now c.args.i.0 c.took-took.result (rank_few c.args.self.now (event.Fail c.args.i) c.args.i c.requires.standing c.requires.formed refl) c.took-took.ensures;
    } in
    rw p.1
    (fail_starved_left c.args.self.now c.give_up.new.self c.args.i c.in-Some.op c.took-took.result out c.in_err-give_up.ensures.err c.in_err-give_up.ensures.cause)

pub returns-in-Err-clause-err : goal.returns-in-Err-clause-err
returns-in-Err-clause-err c =
    let out : IsOut c.args.self.now c.args.i.0 (Some c.in-Some.op) c.took-took.result = record {
      below = rank_few c.args.self.now (event.Fail c.args.i) c.args.i c.requires.standing c.requires.formed refl;
      op_is = λ d is on. sym c.in-Some.is ∙ c.op.ensures.exact d is on;
      took_is = took_same c.args.self.now c.args.i.0 c.took-took.result (rank_few c.args.self.now (event.Fail c.args.i) c.args.i c.requires.standing c.requires.formed refl) c.took-took.ensures;
    } in
    fail_starved c.args.self.now c.give_up.new.self c.hand.new.self c.keep_left.new.self c.args.i c.in-Some.op c.took-took.result c.failed.result out c.failed.ensures
    c.in_ok-give_up.ensures.ok c.in-Err.ensures.err
    (c.keep_left.ensures ∙ ap (λ count. record c.hand.new.self { left = take count c.hand.new.self.left }) c.left_count-before.ensures)

pub returns-in_default-hand-clause-ok : goal.returns-in_default-hand-clause-ok
returns-in_default-hand-clause-ok c =
    let out : IsOut c.args.self.now c.args.i.0 (Some c.in-Some.op) c.took-took.result = record {
      below = rank_few c.args.self.now (event.Fail c.args.i) c.args.i c.requires.standing c.requires.formed refl;
      op_is = λ d is on. sym c.in-Some.is ∙ c.op.ensures.exact d is on;
      took_is = took_same c.args.self.now c.args.i.0 c.took-took.result (rank_few c.args.self.now (event.Fail c.args.i) c.args.i c.requires.standing c.requires.formed refl) c.took-took.ensures;
    } in
    fail_stepped c.args.self.now c.give_up.new.self c.hand.new.self c.take.new.self c.args.i c.in-Some.op c.took-took.result c.failed.result c.hand.new.outs out c.failed.ensures
    c.in_ok-give_up.ensures.ok c.in_default-hand.ensures.ok c.take.ensures

pub returns-in_default-clause-ok : goal.returns-in_default-clause-ok
returns-in_default-clause-ok c = not_failed c.args.self.now c.args.i c.op.result c.args.outs.now c.op.ensures.exact (λ op e. c.in_default.not-Some op e)
