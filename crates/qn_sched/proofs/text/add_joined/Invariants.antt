use Rattle.std.proofs.Common.{◌≡◌, ◌≤◌, ◌+◌, ◌*◌, ◌++◌, length, map, take}
use Rattle.std.specs.Prelude.{decimal}
use Rattle.qn_sched.proofs.Joining.{behind}
use Rattle.qn_sched.proofs.text.add_joined.Given as goal

abbrev pub invariant-others : goal.invariant-others
invariant-others l = record {
  text : l.into.items ≡ l.initial.into.items ++ behind l.byte (map decimal (take l.number-index l.others));
  room : length l.into.items ≤ length l.initial.into.items + 21 * l.number-index;
}
