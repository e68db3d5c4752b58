use Rattle.std.proofs.Common.{◌≡◌, ◌≤◌, ◌+◌, ◌*◌, drop}
use Rattle.qn_base.specs.Members.{votes_from, votes_of}
use Rattle.qn_base.proofs.members.votes.Given as goal

abbrev pub invariant-loop-rank : goal.invariant-loop-rank
invariant-loop-rank l =
    (l.total + votes_from l.rank (drop l.rank l.votes) l.members ≡ votes_of l.votes l.members) × (l.total ≤ l.rank * 4294967295)
