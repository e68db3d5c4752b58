use Rattle.std.proofs.Common.{◌≡◌, ◌≤◌, ◌+◌, ◌*◌, ◌++◌, length, map, take}
use Rattle.qn_model.specs.Settings.{ids}
use Rattle.qn_sched.specs.EventLines.{clock_word}
use Rattle.qn_sched.proofs.Joining.{behind}
use Rattle.qn_sched.proofs.event_text.add_pass.Given as goal

abbrev pub invariant-clocks : goal.invariant-clocks
invariant-clocks l = record {
  text : l.into.items ≡ l.initial.into.items ++ behind 32 (map (clock_word (ids l.nodes)) (take l.rank-index l.clocks));
  room : length l.into.items ≤ length l.initial.into.items + 42 * l.rank-index;
}
