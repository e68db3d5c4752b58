use Rattle.std.proofs.Common.{◌≡◌, ◌≤◌, ◌+◌, ◌*◌, ◌++◌, length, map, take}
use Rattle.qn_model.specs.Settings.{ids}
use Rattle.qn_sched.specs.TraceLines.{out_word}
use Rattle.qn_sched.proofs.Joining.{behind}
use Rattle.qn_sched.proofs.trace.add_outs.Given as goal

abbrev pub invariant-others : goal.invariant-others
invariant-others l = record {
  text : l.into.items ≡ l.initial.into.items ++ behind 44 (map (out_word (ids l.nodes)) (take l.out-index l.others));
  room : length l.into.items ≤ length l.initial.into.items + 41 * l.out-index;
}
