use Rattle.std.proofs.Common.{[]}
use Rattle.std.proofs.lemmas.Result.{err_from_is_err_and}
use Rattle.qn_image.specs.Joining.{went_on, faulted}
use Rattle.qn_image.specs.Migration.{mailboxes_plan}
use Rattle.qn_image.proofs.migrating.convert.Goals as goal

pub returns : goal.returns
returns g c = went_on (mailboxes_plan [] c.args.nodes) _ c.in_ok-messages.ensures.read (rw c.as_slice.ensures.value at c.write_image.ensures)

pub returns-in_err-messages : goal.returns-in_err-messages
returns-in_err-messages g c =
    let p = err_from_is_err_and c.from_residual.result c.from_residual.ensures.1 in
    rw (p.1, p.2) (faulted (mailboxes_plan [] c.args.nodes) _ c.in_err-messages.ensures.stopped)
