use Rattle.std.proofs.Common.{◌≡◌, ◌≤◌, ◌++◌, length, drop}
use Rattle.qn_model.specs.Settings.{ids}
use Rattle.qn_names.specs.MemberWords.{ids_from}
use Rattle.qn_sched.proofs.Joining.{left_ids}
use Rattle.qn_sched.proofs.text.member_ids.Given as goal

abbrev pub invariant-loop-rank : goal.invariant-loop-rank
invariant-loop-rank l = record {
  all : l.list.items ++ left_ids l.rank l.members (drop l.rank l.node-items) ≡ ids_from 0 (ids l.node-items) l.members;
  few : length l.list.items ≤ l.rank;
}
