use Rattle.std.proofs.Common.{◌≡◌, ◌≤◌, ℕ, List, ◌++◌, length}
use Rattle.std.specs.Io.KnownBytes.{append_known}
use Rattle.qn_io.proofs.whole.put_all.Given as goal

-- a prefix of the text was written, and `rest` is what is left of it
abbrev pub invariant-writes : goal.invariant-writes
invariant-writes g l =
    (front : List ℕ) × (l.fn.from ≡ front ++ l.rest) × (g.O.Sink.written l.out ≡ append_known (g.O.Sink.written l.fn.out) front) × (g.O.Sink.faults l.fn.out ≤ g.O.Sink.faults l.out)

abbrev pub decreases-writes : goal.decreases-writes
decreases-writes g l = length l.rest
