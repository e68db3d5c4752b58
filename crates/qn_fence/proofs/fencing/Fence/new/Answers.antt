use Rattle.std.proofs.Common.{arith}
use Rattle.qn_fence.proofs.Steps.{fence_new}
use Rattle.qn_fence.proofs.fencing.Fence.new.Goals as goal

pub returns : goal.returns
returns c = λ log line ok is inside waits no_view out.
    let count = c.len.ensures.value in
    let few = c.len.ensures.fits in
    fence_new c.args.settings.now _ c.args.msgwait _ log line ok (omega arith) (omega arith) is inside waits no_view out
