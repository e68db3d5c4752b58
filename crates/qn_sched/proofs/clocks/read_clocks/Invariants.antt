use Rattle.std.proofs.Common.{◌≡◌, ◌≤◌, ◌+◌, length, option_copied}
use Rattle.std.specs.Option.{option_map_or}
use Rattle.qn_model.specs.Settings.{ids}
use Rattle.qn_sched.specs.ClockList.{with_clocks}
use Rattle.qn_sched.specs.EventReading.{clocks_of}
use Rattle.qn_sched.specs.Words.{parts_left}
use Rattle.qn_sched.proofs.clocks.read_clocks.Given as goal

-- the words that are left decide as all of them do
abbrev pub invariant-words : goal.invariant-words
invariant-words l = record {
  same : with_clocks (ids l.nodes) l.list (parts_left 32 (option_copied l.rest)) ≡ clocks_of (ids l.nodes) (parts_left 32 (option_copied l.words));
  few : length l.list.clocks ≤ l.list.next;
}

abbrev pub decreases-words : goal.decreases-words
decreases-words l = option_map_or (λ text. length text + 1) (option_copied l.rest) 0
