use Rattle.std.proofs.Common.{sym, ◌∙◌}
use Rattle.std.proofs.lemmas.Result.{err_from_is_err_and}
use Rattle.qn_image.proofs.Searching.{another, reached, unread, searched}
use Rattle.qn_image.proofs.messaging.send.Goals as goal

pub returns-then-eq : goal.returns-then-eq
returns-then-eq g c =
    reached _ _ _ _ c.ranks.invariant c.ranks-test.true _ c.in_ok-found.ensures (sym c.eq.ensures ∙ c.if-eq.true) c.leave.ensures

pub ranks-preserved : goal.ranks-preserved
ranks-preserved g c =
    another _ _ _ _ c.ranks.invariant c.ranks-test.true _ c.in_ok-found.ensures (sym c.eq.ensures ∙ c.if-eq.false)

pub returns-in_err-found : goal.returns-in_err-found
returns-in_err-found g c =
    let p = err_from_is_err_and c.from_residual.result c.from_residual.ensures.1 in
    rw (p.1, p.2) (unread _ _ _ _ c.ranks.invariant c.ranks-test.true _ c.in_err-found.ensures)

pub returns : goal.returns
returns g c = searched _ _ _ _ c.ranks.invariant c.ranks-test.false
