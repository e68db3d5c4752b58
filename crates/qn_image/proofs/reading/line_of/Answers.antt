use Rattle.std.proofs.Common.{refl}
use Rattle.std.proofs.lemmas.Result.{err_from_is_err_and}
use Rattle.qn_image.specs.Plans.{slot_plan, mail_plan, line_plan}
use Rattle.qn_image.specs.Joining.{went_on, faulted, ended}
use Rattle.qn_image.proofs.Outcomes.{line_causes}
use Rattle.qn_image.proofs.reading.line_of.Goals as goal

pub returns-clause-did : goal.returns-clause-did
unfolding line_plan
returns-clause-did g c =
    went_on (slot_plan c.args.rank.0) _ c.in_ok-id.ensures (ended (mail_plan c.args.version c.args.rank.0) _ _ refl c.in_ok-mail.ensures)

pub returns-in_err-mail-clause-did : goal.returns-in_err-mail-clause-did
unfolding line_plan
returns-in_err-mail-clause-did g c =
    let p = err_from_is_err_and c.from_residual-in_err-mail.result c.from_residual-in_err-mail.ensures.1 in
    rw (p.1, p.2)
    (went_on (slot_plan c.args.rank.0) _ c.in_ok-id.ensures (faulted (mail_plan c.args.version c.args.rank.0) _ c.in_err-mail.ensures))

pub returns-in_err-mail-clause-disk : goal.returns-in_err-mail-clause-disk
returns-in_err-mail-clause-disk g c = (line_causes _ _ _ (returns-in_err-mail-clause-did g c)).0

pub returns-in_err-mail-clause-faults : goal.returns-in_err-mail-clause-faults
returns-in_err-mail-clause-faults g c = (line_causes _ _ _ (returns-in_err-mail-clause-did g c)).1

pub returns-in_err-id-clause-did : goal.returns-in_err-id-clause-did
unfolding line_plan
returns-in_err-id-clause-did g c =
    let p = err_from_is_err_and c.from_residual.result c.from_residual.ensures.1 in
    rw (p.1, p.2) (faulted (slot_plan c.args.rank.0) _ c.in_err-id.ensures)

pub returns-in_err-id-clause-disk : goal.returns-in_err-id-clause-disk
returns-in_err-id-clause-disk g c = (line_causes _ _ _ (returns-in_err-id-clause-did g c)).0

pub returns-in_err-id-clause-faults : goal.returns-in_err-id-clause-faults
returns-in_err-id-clause-faults g c = (line_causes _ _ _ (returns-in_err-id-clause-did g c)).1
