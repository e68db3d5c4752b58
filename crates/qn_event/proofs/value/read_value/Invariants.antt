use Rattle.std.proofs.Common.{◌≡◌, ◌≤◌, ◌-◌, Some, drop, length}
use Rattle.qn_event.specs.ValuesRead.{value_in}
use Rattle.qn_event.proofs.value.read_value.Given as goal

-- what was said is what the bytes from there on say, and there is room for the others
abbrev pub invariant-loop-place : goal.invariant-loop-place
invariant-loop-place l = record {
  said : value_in (drop (l.count - l.place) l.value) ≡ Some l.said.items;
  fits : length l.said.items ≤ l.place;
}
