use Rattle.std.proofs.Common.{◌≡◌, ◌∙◌, ◌&&◌, ℕ, true, ap, length, subst, sym}
use Rattle.std.proofs.lemmas.Result.{err_from_is_err_and}
use Rattle.qn_cluster.specs.Standing.{IsOpWithin}
use Rattle.qn_model.specs.World.{is_write}
use Rattle.qn_cluster.specs.DiskStanding.{is_marked, left_over}
use Rattle.qn_safety.specs.TripleRules.{is_image}
use Rattle.qn_safety.specs.TripleWorld.{is_pending}
use Rattle.qn_cluster.specs.WorldSteps.{Turns}
use Rattle.qn_triple.specs.Standing.{three_images}
use Rattle.qn_triple.proofs.EventSteps.{fail_starved, fail_stepped, not_failed}
use Rattle.qn_triple.proofs.RuleSteps.{fail_image, fail_rank, few, within}
use Rattle.qn_triple.proofs.state.State.fail.Goals as goal

pub op-requires : goal.op-requires
op-requires c = within c.args.self.now c.args.i.0 c.requires.standing (fail_rank c.args.self.now.settings c.args.i c.args.image c.requires.formed)

pub part-requires : goal.part-requires
part-requires c =
    record {
      within = few c.args.self.now c.args.i.0 c.requires.standing (fail_rank c.args.self.now.settings c.args.i c.args.image c.requires.formed);
      image = fail_image c.args.self.now.settings c.args.i c.args.image c.requires.formed;
    }

pub leave_over-requires : goal.leave_over-requires
leave_over-requires c = λ d is. subst (IsOpWithin (length c.args.self.now.settings.nodes)) c.in-Some.is (c.op.ensures.within d is)

pub set_part-requires : goal.set_part-requires
set_part-requires c =
    record {
      within = few c.args.self.now c.args.i.0 c.requires.standing (fail_rank c.args.self.now.settings c.args.i c.args.image c.requires.formed);
      image = fail_image c.args.self.now.settings c.args.i c.args.image c.requires.formed;
    }

pub returns-in_err-leave_over-clause-err : goal.returns-in_err-leave_over-clause-err
returns-in_err-leave_over-clause-err c =
    let p = err_from_is_err_and c.from_residual.result c.from_residual.ensures.1 in
    rw p.1
    (fail_starved c.args.self.now c.leave_over.new.self c.args.i c.args.image c.in-Some.op c.is_left_over-left.result (λ d is on. sym c.in-Some.is ∙ c.op.ensures.exact d is on)
    (fail_image c.args.self.now.settings c.args.i c.args.image c.requires.formed)
    (λ d is. c.is_left_over-left.ensures ∙ ap (λ part. is_write c.in-Some.op && is_pending part) (c.part.ensures d is))
    c.in_err-leave_over.ensures.err (subst (λ on. (k : ℕ) × (is_image k ≡ true) × (is_marked on k ≡ true)) c.only_on.ensures c.in_err-leave_over.ensures.cause))

pub returns-in_ok-leave_over-clause-ok : goal.returns-in_ok-leave_over-clause-ok
returns-in_ok-leave_over-clause-ok c =
    fail_stepped c.args.self.now c.leave_over.new.self c.set_part.new.self c.args.i c.args.image c.in-Some.op c.is_left_over-left.result
    (λ d is on. sym c.in-Some.is ∙ c.op.ensures.exact d is on)
    (λ d is. c.is_left_over-left.ensures ∙ ap (λ part. is_write c.in-Some.op && is_pending part) (c.part.ensures d is))
    (subst (λ on. Turns three_images c.args.self.now c.leave_over.new.self (λ d. record d { left = left_over d.left c.args.i.0 c.in-Some.op on })) c.only_on.ensures c.in_ok-leave_over.ensures.ok)
    c.set_part.ensures

pub returns-in_default-clause-ok : goal.returns-in_default-clause-ok
returns-in_default-clause-ok c = not_failed c.args.self.now c.args.i c.args.image c.op.result _ c.op.ensures.exact (λ op e. c.in_default.not-Some op e)
