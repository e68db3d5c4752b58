use Rattle.std.proofs.Common.{◌≡◌, ◌≤◌, ◌*◌, length, drop, [], true}
use Rattle.qn_told.proofs.MemberLists.{with_members}
use Rattle.qn_told.proofs.events.member_list.Given as goal

-- what is written, and the members that are left after it, are all of them
abbrev pub invariant-loop-rank : goal.invariant-loop-rank
invariant-loop-rank l = record {
  all : with_members l.members l.rank l.is_first l.list.items (drop l.rank l.node-items) ≡ with_members l.members 0 true [] l.node-items;
  few : length l.list.items ≤ 21 * l.rank;
}
