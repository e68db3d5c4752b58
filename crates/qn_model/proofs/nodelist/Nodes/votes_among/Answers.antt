use Rattle.std.proofs.Common.{◌≡◌, Some, slice_get, subst, arith}
use Rattle.qn_model.proofs.MembersLeft.{members_left-le, members_left-one_more, nobody_left, node_taken, takes_away}
use Rattle.qn_model.proofs.nodelist.Nodes.votes_among.Goals as goal

pub members-init : goal.members-init
members-init c = let few = members_left-le c.args.members in (omega arith, omega arith)

pub members-smaller : goal.members-smaller
members-smaller c =
    let rank = c.in-Some.rank.0 in
    let one = takes_away c.members.rest c.with.result c.without-rest.result rank c.in-Some.ensures.below c.in-Some.ensures.member c.with.ensures c.without-rest.ensures in
    let fewer = members_left-one_more c.members.rest c.without-rest.result rank one c.in-Some.ensures.below in
    omega arith

pub members-preserved : goal.members-preserved
members-preserved c =
    let rank = c.in-Some.rank.0 in
    let one = takes_away c.members.rest c.with.result c.without-rest.result rank c.in-Some.ensures.below c.in-Some.ensures.member c.with.ensures c.without-rest.ensures in
    let fewer = members_left-one_more c.members.rest c.without-rest.result rank one c.in-Some.ensures.below in
    let node = subst (λ place. slice_get c.args.self.now place ≡ Some c.get.result) c.from.ensures c.get.ensures in
    let taken = node_taken c.args.self.now c.get.result c.members.rest c.without-rest.result rank one
    (omega (arith, c.in-Some.ensures.within, c.len-count.ensures.value)) (omega (arith, c.len-count.ensures)) node in
    (omega arith, omega arith)

pub returns-clause-sum : goal.returns-clause-sum
returns-clause-sum c =
    let none = nobody_left c.args.self.now c.members.rest (λ j below. c.in_default.ensures.none j (omega arith)) in
    omega arith
