use Rattle.std.proofs.Common.{◌≤◌, ℕ, List, length, subst, arith}
use Rattle.hex.specs.Hex.{IsBytes}
use Rattle.qn_live.specs.Asking.{IsServed}
use Rattle.qn_live.proofs.Recordings.{read_recorded, receive_recorded}
use Rattle.qn_live.proofs.calling.call.Goals as goal

pub returns-after-matches-clause-recorded : goal.returns-after-matches-clause-recorded
returns-after-matches-clause-recorded g c = rw c.in-Receive.is (receive_recorded c.receive-got.result c.receive-got.new.packet c.receive-got.ensures.within c.are_bytes.ensures)

pub returns-in-Read-clause-recorded : goal.returns-in-Read-clause-recorded
returns-in-Read-clause-recorded g c =
    rw c.in-Read.is (read_recorded c.in-Read.sector c.read-done.new.into c.done.result.ok (subst IsServed c.in-Read.is c.requires) c.is_sector.ensures.whole c.is_sector.ensures.bytes)

pub returns-in-Write-clause-recorded : goal.returns-in-Write-clause-recorded
returns-in-Write-clause-recorded g c =
    let within = subst IsServed c.in-Write.is c.requires in
    rw c.in-Write.is (c.is_sector-in-Write.ensures.whole, (omega (arith, within), c.is_sector-in-Write.ensures.bytes))

pub returns-in-Send-clause-recorded : goal.returns-in-Send-clause-recorded
returns-in-Send-clause-recorded g c =
    let within = subst IsServed c.in-Send.is c.requires in
    let items = c.as_slice-sent.ensures.value in
    rw c.in-Send.is ((within, subst (λ (bytes : List ℕ). length bytes ≤ 128) items c.as_slice-sent.ensures.fits), subst IsBytes items c.are_bytes-in-Send.ensures)
