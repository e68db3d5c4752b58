use Rattle.std.proofs.Common.{◌≡◌, ◌-◌}
use Rattle.std.specs.List.{list_all, range_with_len}
use Rattle.qn_polls.specs.Arbiter.{leaves_vote_at}
use Rattle.qn_polls.proofs.arbiter.Arbiter.is_vote_left.Given as goal

abbrev pub invariant-loop-rank : goal.invariant-loop-rank
invariant-loop-rank l =
    list_all (leaves_vote_at l.self l.tick l.poll) (range_with_len l.rank (32 - l.rank))
    ≡ list_all (leaves_vote_at l.self l.tick l.poll) (range_with_len 0 32)
