use Rattle.std.proofs.Common.{ℕ, List}
use Rattle.std.specs.Io.KnownBytes.{Consumes, Keeps}
use Rattle.qn_etcd.specs.Heads.{IsAnswer}
use Rattle.qn_exchange.proofs.etcd_exchange.read_answer.Given as goal

-- what was read is kept, and is no answer so far
abbrev pub invariant-parts : goal.invariant-parts
invariant-parts g l =
    Consumes (g.L.Line.unread l.fn.line) (g.L.Line.unread l.line) l.answer.items
    × ((body : List ℕ) → IsAnswer l.answer.items body → ⊥)
    × Keeps (g.L.Line.written l.fn.line) (g.L.Line.written l.line)
