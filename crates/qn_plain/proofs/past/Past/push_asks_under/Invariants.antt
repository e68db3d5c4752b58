use Rattle.std.proofs.Common.{◌≡◌, ◌≤◌, ◌+◌, ◌-◌, ◌++◌, length}
use Rattle.qn_plain.specs.Outputs.{asks_from}
use Rattle.qn_plain.proofs.past.Past.push_asks_under.Given as goal

abbrev pub invariant-loop-rank : goal.invariant-loop-rank
invariant-loop-rank l = record {
  rest : l.outs ++ asks_from l.me.0 l.self l.present l.rank (length l.settings.nodes - l.rank) ≡ l.initial.outs ++ asks_from l.me.0 l.self l.present 0 (length l.settings.nodes);
  few : length l.outs ≤ length l.initial.outs + l.rank;
}
