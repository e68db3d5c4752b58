use Rattle.std.proofs.Common.{◌≡◌, true, false, refl, rules}
use Rattle.std.proofs.lemmas.Result.{err_from_is_err_and}
use Rattle.qn_base.specs.PlanSteps.{did_map}
use Rattle.qn_model.specs.Sectors.{is_deadly}
use Rattle.qn_image.specs.Plans.{mail_plan, or_fault, reads_first, replace_plan, send_plan}
use Rattle.qn_image.specs.Joining.{went_on, faulted}
use Rattle.qn_image.proofs.messaging.leave.Goals as goal

pub returns-in_err-held : goal.returns-in_err-held
unfolding send_plan
returns-in_err-held g c =
    let reads : reads_first c.args.message ≡ true = search rules in
    let p = err_from_is_err_and c.from_residual.result c.from_residual.ensures.1 in
    rw (reads, p.1, p.2) (faulted (mail_plan 2 c.args.rank.0) _ c.in_err-held.ensures)

pub returns-then-is_deadly : goal.returns-then-is_deadly
unfolding send_plan
returns-then-is_deadly g c =
    let reads : reads_first c.args.message ≡ true = search rules in
    let deadly : is_deadly c.in_ok-held.held.message ≡ true = search rules in
    rw reads
    (did_map (or_fault (replace_plan c.args.rank.0 c.args.message)) _ c.in_ok-held.ensures (rw deadly (refl, refl)))

pub returns : goal.returns
unfolding send_plan
returns g c =
    let reads : reads_first c.args.message ≡ true = search rules in
    let harmless : is_deadly c.in_ok-held.held.message ≡ false = search rules in
    rw reads
    (went_on (mail_plan 2 c.args.rank.0) (replace_plan c.args.rank.0 c.args.message) c.in_ok-held.ensures (rw harmless c.write_message-2.ensures))
