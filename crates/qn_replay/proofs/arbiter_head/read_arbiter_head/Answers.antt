use Rattle.std.proofs.Common.{arith, sym}
use Rattle.std.proofs.lemmas.Result.{err_from_is_err_and}
use Rattle.qn_base.specs.Rising.{HasRisen-within}
use Rattle.qn_playback.specs.FurtherLines.{refuses_before, refuses_line}
use Rattle.qn_playback.specs.Heads.{head_part}
use Rattle.qn_playback.specs.PartLaws.{refuses_wider}
use Rattle.qn_replay.specs.BesideHeads.{lease_given}
use Rattle.qn_replay.proofs.HeadSteps.{gives_lease, lease_is_safe, refuses_lease}
use Rattle.qn_replay.proofs.arbiter_head.read_arbiter_head.Goals as goal

pub returns-in_err-head-clause-end : goal.returns-in_err-head-clause-end
returns-in_err-head-clause-end g c =
    let exit = err_from_is_err_and c.from_residual.result c.from_residual.ensures.1 in
    rw (exit.1, exit.2) (refuses_before head_part (λ h. h.lines) lease_given c.in_err-head.ensures.end)

pub returns-in_err-read_head_line-clause-end : goal.returns-in_err-read_head_line-clause-end
returns-in_err-read_head_line-clause-end g c =
    let exit = err_from_is_err_and c.from_residual-in_err-read_head_line.result c.from_residual-in_err-read_head_line.ensures.1 in
    rw (exit.1, exit.2)
    (refuses_line head_part (λ h. h.lines) lease_given c.in_ok-head.head c.in_ok-head.ensures.head
    (refuses_wider
    (λ fails. (fails.0, HasRisen-within _ _ _ _ (omega (arith, c.in_ok-head.ensures.never_falls)) (omega (arith, c.in_err-read_head_line.ensures.never_falls)) (omega arith) fails.1))
    c.in_err-read_head_line.ensures.end))

pub returns-in_err-lease-clause-end : goal.returns-in_err-lease-clause-end
returns-in_err-lease-clause-end g c =
    let exit = err_from_is_err_and c.from_residual-in_err-lease.result c.from_residual-in_err-lease.ensures.1 in
    rw (exit.1, exit.2)
    (refuses_lease c.in_ok-head.head c.in_ok-head.ensures.head c.read_head_line.new.line.items c.in_ok-read_head_line.ensures.line c.as_slice.result.now c.as_slice.ensures.value _ (sym c.in_err-lease.ensures))

pub returns-clause-head : goal.returns-clause-head
returns-clause-head g c =
    gives_lease c.in_ok-head.head c.in_ok-head.ensures.head c.read_head_line.new.line.items c.in_ok-read_head_line.ensures.line c.as_slice.result.now c.as_slice.ensures.value c.in_ok-lease.lease (sym c.in_ok-lease.ensures)

pub returns-clause-safe_lease : goal.returns-clause-safe_lease
returns-clause-safe_lease g c = lease_is_safe _ c.in_ok-head.head.settings c.as_slice.result.now c.in_ok-lease.lease (sym c.in_ok-lease.ensures)
