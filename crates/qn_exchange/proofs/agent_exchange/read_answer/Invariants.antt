use Rattle.std.proofs.Common.{take}
use Rattle.std.specs.Prelude.{codes}
use Rattle.std.specs.Io.KnownBytes.{Consumes, Keeps}
use Rattle.qn_exchange.proofs.agent_exchange.read_answer.Given as goal

-- the bytes that were read are those of the line `ok` so far
abbrev pub invariant-loop-wanted : goal.invariant-loop-wanted
invariant-loop-wanted g l =
    Consumes (g.L.Line.unread l.fn.line) (g.L.Line.unread l.line) (take l.wanted-index (codes "ok\n"))
    × Keeps (g.L.Line.written l.fn.line) (g.L.Line.written l.line)
