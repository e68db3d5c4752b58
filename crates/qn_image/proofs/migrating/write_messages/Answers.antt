use Rattle.std.proofs.lemmas.Result.{err_from_is_err_and}
use Rattle.qn_base.specs.PlanSteps.{did_none}
use Rattle.qn_image.specs.Migration.{mail_writes}
use Rattle.qn_image.specs.Writes.{writes_plan}
use Rattle.qn_image.proofs.Mailing.{mail_written, mail_failed}
use Rattle.qn_image.proofs.migrating.write_messages.Goals as goal

pub loop-rank-init : goal.loop-rank-init
unfolding writes_plan mail_writes
loop-rank-init g c = did_none _ _ _

pub loop-rank-preserved : goal.loop-rank-preserved
loop-rank-preserved g c =
    mail_written c.args.messages.now c.loop-rank.rank _ c.loop-rank-test.true c.loop-rank.invariant c.in_ok-write_message.ensures

pub returns-in_err-write_message : goal.returns-in_err-write_message
returns-in_err-write_message g c =
    let p = err_from_is_err_and c.from_residual.result c.from_residual.ensures.1 in
    rw (p.1, p.2)
    (mail_failed c.args.messages.now c.loop-rank.rank _ c.loop-rank-test.true _ c.loop-rank.invariant c.in_err-write_message.ensures)
