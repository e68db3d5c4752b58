use Rattle.std.proofs.Common.{arith}
use Rattle.std.proofs.lemmas.Result.{err_from_is_err_and}
use Rattle.qn_image.proofs.Mailing.{one_more, unread_mail, all_read}
use Rattle.qn_image.proofs.migrating.read_messages.Goals as goal

pub ranks-preserved : goal.ranks-preserved
ranks-preserved g c = (
  omega (arith, c.push.ensures.len, c.ranks.invariant.0),
  rw c.push.ensures.items
      (one_more c.ranks.messages.items c.ranks.rank c.args.nodes c.ranks.invariant.0 c.ranks.invariant.1 c.ranks-test.true c.in_ok-held.held c.in_ok-held.ensures),
)

pub returns-in_err-held-clause-stopped : goal.returns-in_err-held-clause-stopped
returns-in_err-held-clause-stopped g c =
    let p = err_from_is_err_and c.from_residual.result c.from_residual.ensures.1 in
    rw (p.1, p.2)
    (unread_mail c.ranks.messages.items c.ranks.rank c.args.nodes c.ranks.invariant.0 c.ranks.invariant.1 c.ranks-test.true _ c.in_err-held.ensures)

pub returns-clause-read : goal.returns-clause-read
returns-clause-read g c =
    all_read c.ranks.messages.items c.ranks.rank c.args.nodes c.ranks.invariant.0 c.ranks.invariant.1 c.ranks-test.false
