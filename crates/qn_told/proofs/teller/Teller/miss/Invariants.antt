use Rattle.std.proofs.Common.{◌≡◌, drop}
use Rattle.qn_told.specs.Telling.{missed_from}
use Rattle.qn_told.proofs.teller.Teller.miss.Given as goal

-- what is told with the rest of the nodes is what is told with all of them
abbrev pub invariant-loop-rank : goal.invariant-loop-rank
invariant-loop-rank g l = missed_from l.around l.rank (drop l.rank l.node-items) l.self ≡ missed_from l.around 0 l.node-items l.initial.self
