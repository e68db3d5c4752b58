use Rattle.qn_fence.proofs.Steps.{fence_issued}
use Rattle.qn_fence.proofs.fencing.Fence.issued.Goals as goal

pub returns : goal.returns
returns c = λ s log line outs h boot none is outside.
    rw (c.or-self.ensures, c.rank.ensures) (fence_issued c.args.self.now s log line h boot none outs c.args.want is outside)
