use Rattle.std.proofs.Common.{◌∙◌, refl, sym}
use Rattle.qn_model.specs.declared.events.Event.TheVariants as event
use Rattle.std.proofs.lemmas.Result.{err_from_is_err_and}
use Rattle.qn_world.proofs.AnswerSteps.{done_starved, done_stepped, not_done}
use Rattle.qn_world.proofs.EventSteps.{took_same}
use Rattle.qn_world.proofs.RuleSteps.{rank_few, rank_within}
use Rattle.qn_world.proofs.state.State.done.Goals as goal

pub took-requires : goal.took-requires
took-requires c = rank_few c.args.self.now (event.Done c.args.i) c.args.i c.requires.standing c.requires.formed refl

pub hand-requires : goal.hand-requires
hand-requires c = record { within = rank_within c.args.self.now (event.Done c.args.i) c.args.i c.requires.standing c.requires.formed refl; room = c.requires.room }

pub take-requires : goal.take-requires
take-requires c = rank_few c.args.self.now (event.Done c.args.i) c.args.i c.requires.standing c.requires.formed refl

pub returns-in_err-hand-clause-err : goal.returns-in_err-hand-clause-err
returns-in_err-hand-clause-err c =
    let p = err_from_is_err_and c.from_residual.result c.from_residual.ensures.1 in
    rw p.1
    (done_starved c.args.self.now c.hand.new.self c.args.i c.in-Some.entry
    (λ d is. sym c.in-Some.is ∙ took_same c.args.self.now c.args.i.0 c.took.result (rank_few c.args.self.now (event.Done c.args.i) c.args.i c.requires.standing c.requires.formed refl) c.took.ensures d is) c.in_err-hand.ensures.err)

pub returns-in_ok-hand-clause-ok : goal.returns-in_ok-hand-clause-ok
returns-in_ok-hand-clause-ok c =
    done_stepped c.args.self.now c.hand.new.self c.take.new.self c.args.i c.in-Some.entry c.hand.new.outs (rank_few c.args.self.now (event.Done c.args.i) c.args.i c.requires.standing c.requires.formed refl)
    (λ d is. sym c.in-Some.is ∙ took_same c.args.self.now c.args.i.0 c.took.result (rank_few c.args.self.now (event.Done c.args.i) c.args.i c.requires.standing c.requires.formed refl) c.took.ensures d is) c.in_ok-hand.ensures.ok c.take.ensures

pub returns-in_default-clause-ok : goal.returns-in_default-clause-ok
returns-in_default-clause-ok c =
    not_done c.args.self.now c.args.i c.took.result c.args.outs.now (took_same c.args.self.now c.args.i.0 c.took.result (rank_few c.args.self.now (event.Done c.args.i) c.args.i c.requires.standing c.requires.formed refl) c.took.ensures)
    (λ entry e. c.in_default.not-Some entry e)
