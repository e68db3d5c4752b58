use Rattle.std.proofs.Common.{◌≡◌, ℕ, List, ◌++◌, length}
use Rattle.std.specs.Io.KnownBytes.{Appends}
use Rattle.qn_exchange.proofs.again.write_whole.Given as goal

-- a prefix of the bytes was written, and `rest` is what is left of them
abbrev pub invariant-writes : goal.invariant-writes
invariant-writes g l =
    (front : List ℕ) × (l.fn.from ≡ front ++ l.rest) × Appends (g.W.Write.contents l.fn.writer) (g.W.Write.contents l.writer) front

abbrev pub decreases-writes : goal.decreases-writes
decreases-writes g l = length l.rest
