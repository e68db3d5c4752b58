use Rattle.std.specs.Io.KnownBytes.{Keeps}
use Rattle.qn_exchange.proofs.again.read_again.Given as goal

-- the interrupted reads took nothing
abbrev pub invariant-tries : goal.invariant-tries
invariant-tries g l = Keeps (g.R.Read.remaining l.fn.reader) (g.R.Read.remaining l.reader)
