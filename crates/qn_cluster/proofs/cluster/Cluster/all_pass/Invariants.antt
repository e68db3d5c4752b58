use Rattle.qn_cluster.proofs.cluster.Cluster.all_pass.Given as goal
use Rattle.std.proofs.Common.{◌≡◌, ◌-◌, length}
use Rattle.std.specs.List.{list_all, range_with_len}
use Rattle.qn_cluster.specs.Tests.{passes_at}

abbrev pub invariant-loop-rank : goal.invariant-loop-rank
invariant-loop-rank l =
    list_all (passes_at l.watchdog l.self l.dt l.clocks) (range_with_len l.rank (length l.self.seats - l.rank))
    ≡ list_all (passes_at l.watchdog l.self l.dt l.clocks) (range_with_len 0 (length l.self.seats))
