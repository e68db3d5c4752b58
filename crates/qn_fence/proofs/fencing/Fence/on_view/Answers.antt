use Rattle.qn_fence.proofs.Steps.{fence_view}
use Rattle.qn_fence.proofs.fencing.Fence.on_view.Goals as goal

pub returns : goal.returns
returns c = λ s log line h is later none.
    rw c.fresh_outside-self.ensures
    (fence_view c.args.self.now s log line c.args.view h is later none c.without-self.result c.without-self-2.result c.without-self-3.result
    c.without-self.ensures c.without-self-2.ensures c.without-self-3.ensures)
