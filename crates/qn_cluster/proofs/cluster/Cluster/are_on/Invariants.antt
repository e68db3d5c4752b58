use Rattle.qn_cluster.proofs.cluster.Cluster.are_on.Given as goal
use Rattle.std.proofs.Common.{◌≡◌, drop}
use Rattle.std.specs.List.{list_all}
use Rattle.qn_cluster.specs.Tests.{on_at}

abbrev pub invariant-loop-place : goal.invariant-loop-place
invariant-loop-place l = list_all (λ clock. on_at l.self clock.0.0) (drop l.place l.clocks) ≡ list_all (λ clock. on_at l.self clock.0.0) l.clocks
