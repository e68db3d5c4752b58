use Rattle.std.proofs.lemmas.Result.{err_from_is_err_and}
use Rattle.qn_image.specs.Migration.{migrate_writes}
use Rattle.qn_image.proofs.Writing.{last_written, did_writes_fault}
use Rattle.qn_image.proofs.migrating.write_image.Goals as goal

pub returns : goal.returns
unfolding migrate_writes
returns g c = last_written _ _ _ c.in_ok-write_messages.ensures c.write_header.ensures

pub returns-in_err-write_messages : goal.returns-in_err-write_messages
unfolding migrate_writes
returns-in_err-write_messages g c =
    let p = err_from_is_err_and c.from_residual.result c.from_residual.ensures.1 in
    rw (p.1, p.2) (did_writes_fault _ _ c.in_err-write_messages.ensures)
