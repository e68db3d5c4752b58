use Rattle.std.specs.Io.KnownBytes.{Keeps}
use Rattle.qn_exchange.proofs.again.write_again.Given as goal

-- the interrupted writes gave nothing
abbrev pub invariant-tries : goal.invariant-tries
invariant-tries g l = Keeps (g.W.Write.contents l.fn.writer) (g.W.Write.contents l.writer)
