use Rattle.std.proofs.Common.{◌≡◌, ◌<◌, ◌≤◌, ℕ, false}
use Rattle.qn_base.specs.Members.{is_member}
use Rattle.qn_fence.specs.Fence.{is_waited_for}
use Rattle.qn_fence.proofs.fencing.Fence.fenced.Given as goal

abbrev pub invariant-loop-rank : goal.invariant-loop-rank
invariant-loop-rank l = ((j : ℕ) → j < l.rank → is_member l.fenced j ≡ is_waited_for l.self l.tick j)
    × ((j : ℕ) → l.rank ≤ j → j < 32 → is_member l.fenced j ≡ false)
