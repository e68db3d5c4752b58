use Rattle.std.proofs.Common.{◌≡◌, ◌≤◌, ◌+◌, ◌*◌}
use Rattle.qn_base.specs.Members.{votes_of}
use Rattle.qn_model.specs.Settings.{node_votes}
use Rattle.qn_model.specs.Votes.{votes_among}
use Rattle.qn_model.proofs.MembersLeft.{members_left}
use Rattle.qn_model.proofs.nodelist.Nodes.votes_among.Given as goal

-- the votes of the members that are left make the sum whole
abbrev pub invariant-members : goal.invariant-members
invariant-members l =
    (l.total + votes_of (node_votes l.self) l.rest ≡ votes_among l.self l.fn.members) × (l.total + members_left l.rest * 4294967295 ≤ 32 * 4294967295)

abbrev pub decreases-members : goal.decreases-members
decreases-members l = members_left l.rest
