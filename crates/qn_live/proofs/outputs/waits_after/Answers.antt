use Rattle.std.proofs.Common.{◌≡◌, Some, ap, ◌∙◌}
use Rattle.qn_base.specs.Calls.{blank}
use Rattle.qn_live.specs.Performing.{disk_call, out_call, waits_after}
use Rattle.qn_live.proofs.Answering.{disk_answer-told}
use Rattle.qn_live.proofs.outputs.waits_after.Goals as goal

pub returns-in-Disk-clause-waits : goal.returns-in-Disk-clause-waits
unfolding waits_after out_call
returns-in-Disk-clause-waits c = λ call me number tells asked.
    let asked_op : blank call ≡ disk_call c.args.settings.now me number c.in-Disk.op = rw c.in-Disk.is at asked in
    let same = c.answer-answer.ensures.entry ∙ disk_answer-told c.args.settings.now me number c.in-Disk.op call c.args.given c.args.room.now tells asked_op in
    rw c.in-Disk.is (ap (λ answer. record c.args.waits { disk = Some answer }) same)
