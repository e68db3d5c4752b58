use Rattle.std.proofs.Common.{◌≡◌, ◌-◌, ◌&&◌}
use Rattle.std.specs.List.{list_any, range_with_len}
use Rattle.qn_base.specs.Members.{is_member}
use Rattle.qn_safety.specs.Arbiter.{do_meet}
use Rattle.qn_polls.proofs.arbiter.do_meet.Given as goal

abbrev pub invariant-loop-rank : goal.invariant-loop-rank
invariant-loop-rank l =
    list_any (λ rank. is_member l.one rank && is_member l.other rank) (range_with_len l.rank (32 - l.rank)) ≡ do_meet l.one l.other
