use Rattle.std.proofs.Common.{◌≡◌, ◌-◌, length}
use Rattle.qn_cluster.specs.Holders.{holders_among, holds_at}
use Rattle.qn_cluster.proofs.Holders.{mask_from}
use Rattle.qn_cluster.proofs.seats.holders_of.Given as goal

abbrev pub invariant-loop-rank : goal.invariant-loop-rank
invariant-loop-rank l = mask_from l.rank (length l.seats - l.rank) (holds_at l.seats) l.holders ≡ (holders_among l.seats).0
