use Rattle.std.proofs.Common.{◌≡◌, length}
use Rattle.qn_plain.proofs.Peers.{Told}
use Rattle.qn_plain.proofs.past.after_entry.Given as goal

abbrev pub invariant-loop-rank : goal.invariant-loop-rank
invariant-loop-rank l = record {
  all : length l.peers ≡ 32;
  told : Told l.reading l.initial.peers l.peers l.rank;
}
