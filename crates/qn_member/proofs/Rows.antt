-- Worked rows of the view maker, as theorems of its definitions.
use Rattle.std.proofs.Common.{◌≡◌, ℕ, true, false, List, [], ◌∷◌, length, Some, None, refl}
use Rattle.qn_base.specs.declared.ids.View.{View}
use Rattle.qn_model.specs.declared.nodelist.NodeEntry.{NodeEntry}
use Rattle.qn_model.specs.declared.configuration.Settings.{Settings}
use Rattle.qn_model.specs.Unmet.{least_from}
use Rattle.qn_base.specs.declared.ids.Said.{Said}
use Rattle.qn_member.specs.MakerCalls.{company_of, leader_found}
use Rattle.qn_member.specs.Announcing.{after_hello_due, is_hello_due, view_to_announce, view_to_leave}
use Rattle.qn_member.specs.Maker.{after_hello, disputed_nodes, looked, first_maker, ranks_that, with_ranks, after_announce, after_plain_hello, after_tick, view_at}

-- a node of one vote
node : ℕ → NodeEntry
node id = record { id = record { 0 = id }; votes = 1; fence_delay = 0 }

among : List NodeEntry → Settings
among nodes =
    record {
      nodes = nodes;
      two_node = false;
      wait_for_all = false;
      last_man_standing = false;
      window = 10000;
      device = None;
      expected = length nodes;
      tie = None;
    }

-- three nodes, and four
three : Settings
three = among (node 1 ∷ node 2 ∷ node 3 ∷ [])

four : Settings
four = among (node 1 ∷ node 2 ∷ node 3 ∷ node 4 ∷ [])

-- the view of a number and a set of members
view_of : ℕ → ℕ → View
view_of id members = record { id = id; members = record { 0 = members } }

-- a Hello that hears a set, follows a rank, and is able
follows : ℕ → ℕ → Said
follows members leader = record { hears = record { 0 = members }; follows = Some (record { 0 = leader }); able = true }

-- one that hears a set, follows a rank, and is not able
trails : ℕ → ℕ → Said
trails members leader = record { hears = record { 0 = members }; follows = Some (record { 0 = leader }); able = false }

-- the node of least rank hears one of the two others: it waits three loops for the third, and leaves out the second a loop
-- after the first look that missed it
waits_for_three_loops : let first = first_maker three 0 1000 in
    let begun = after_tick 0 first in
    let heard = after_plain_hello 10 1 begun in
    let seen = after_tick 20 heard in
    let two = after_tick 3000 seen in
    let same = after_tick 3005 two in
    let missed = after_tick 3011 same in
    (view_at 0 first ≡ None)
    × (view_at 20 heard ≡ None)
    × (view_at 3000 seen ≡ Some (view_of 1 3))
    × (view_at 3005 two ≡ None)
    × (view_at 3010 two ≡ None)
    × (view_at 3011 same ≡ None)
    × (view_at 4010 missed ≡ None)
    × (view_at 4011 missed ≡ Some (view_of 2 1))
    × (view_to_announce (after_tick 4011 missed) ≡ Some (view_of 2 1))
unfolding node among three view_of view_at after_tick ranks_that with_ranks least_from
waits_for_three_loops = (refl, refl, refl, refl, refl, refl, refl, refl, refl)

-- a Hello is due at once, and then half a loop after the last; half of an odd loop is rounded up
says_hello_each_half_loop : let first = first_maker three 0 1000 in
    let odd = after_hello_due 0 (first_maker three 0 1001) in
    (is_hello_due 0 first ≡ true)
    × (is_hello_due 499 (after_hello_due 0 first) ≡ false)
    × (is_hello_due 500 (after_hello_due 499 (after_hello_due 0 first)) ≡ true)
    × (is_hello_due 500 odd ≡ false)
    × (is_hello_due 501 odd ≡ true)
unfolding node among three
says_hello_each_half_loop = (refl, refl, refl, refl, refl)

-- The network of the node of least rank is cut. It heard the others 900 ticks apart, and makes no view of itself and one other.
-- They come back within a loop, and one view of all is made at once.
makes_no_view_of_half_a_change : let heard = after_plain_hello 900 2 (after_plain_hello 0 1 (first_maker three 0 1000)) in
    let all = after_tick 900 heard in
    let one = after_tick 3001 all in
    let none = after_tick 3901 one in
    let alone = after_tick 4901 none in
    let back = after_plain_hello 9000 2 alone in
    let both = after_plain_hello 9900 1 (after_tick 9000 back) in
    (view_at 900 heard ≡ Some (view_of 1 7))
    × (view_at 3001 all ≡ None)
    × (view_at 3901 one ≡ None)
    × (view_at 4900 none ≡ None)
    × (view_at 4901 none ≡ Some (view_of 2 1))
    × (view_at 9000 back ≡ None)
    × (view_at 9900 both ≡ Some (view_of 3 7))
unfolding node among three view_of view_at after_tick ranks_that with_ranks least_from
makes_no_view_of_half_a_change = (refl, refl, refl, refl, refl, refl, refl)

-- The node of rank 1 is gone, and two others come and go. Three loops after the first look that missed somebody a view comes
-- all the same.
waits_no_longer_than_three_loops : let heard = after_plain_hello 900 3 (after_plain_hello 500 2 (after_plain_hello 0 1 (first_maker four 0 1000))) in
    let all = after_tick 900 heard in
    let alone = after_tick 3901 (after_tick 3501 (after_tick 3001 all)) in
    let one = after_tick 4400 (after_plain_hello 4400 2 alone) in
    let two = after_tick 5300 (after_plain_hello 5300 3 one) in
    (view_at 900 heard ≡ Some (view_of 1 15))
    × (view_at 3901 (after_tick 3501 (after_tick 3001 all)) ≡ None)
    × (view_at 6000 two ≡ None)
    × (view_at 6001 two ≡ Some (view_of 2 13))
unfolding node among four view_of view_at after_tick ranks_that with_ranks least_from
waits_no_longer_than_three_loops = (refl, refl, refl, refl)

-- a node that says farewell is out at the next look, and a Hello after its farewell counts again
leaves_out_who_said_farewell : let heard = after_plain_hello 900 2 (after_plain_hello 900 1 (first_maker three 0 1000)) in
    let all = after_tick 900 heard in
    let left = after_announce 1 (view_of 1 5) all in
    let two = after_tick 1000 left in
    (view_to_leave all ≡ Some (view_of 1 6))
    × (view_at 1000 left ≡ Some (view_of 2 5))
    × (view_at 1400 (after_plain_hello 1400 1 left) ≡ None)
    × (view_at 1400 (after_plain_hello 1400 1 two) ≡ Some (view_of 3 7))
unfolding node among three view_of view_at after_tick ranks_that with_ranks least_from
leaves_out_who_said_farewell = (refl, refl, refl, refl)

-- a node alone says no farewell
no_farewell_alone : view_to_leave (after_tick 3000 (after_tick 0 (first_maker three 0 1000))) ≡ None
unfolding node among three view_at after_tick ranks_that with_ranks least_from
no_farewell_alone = refl

-- the greatest number is kept: the next own view has it again
keeps_the_greatest_number : let heard = after_plain_hello 0 2 (after_plain_hello 0 1 (first_maker three 0 1000)) in
    let told = after_announce 2 (view_of 18446744073709551615 7) heard in
    let left = after_announce 1 (view_of 0 5) (after_tick 0 told) in
    (view_at 0 told ≡ Some (view_of 18446744073709551615 7)) × (view_at 10 left ≡ Some (view_of 18446744073709551615 5))
unfolding node among three view_of view_at after_tick ranks_that with_ranks least_from
keeps_the_greatest_number = (refl, refl)

-- The node of rank 1 took view 1 from its leader. The leader is gone for more than four loops, and the node leads view 2
-- of the two others. At the first Hello after the leader's reboot the node takes view 1 again, which the leader announced
-- before its crash; then the view that it announces anew.
takes_the_stale_view : let first = first_maker three 1 1000 in
    let met = after_plain_hello 0 2 (after_plain_hello 0 0 first) in
    let told = after_announce 0 (view_of 1 7) met in
    let one = after_tick 1 told in
    let alone = after_tick 4000 (after_plain_hello 4000 2 one) in
    let two = after_tick 5000 alone in
    let back = after_plain_hello 9000 0 (after_plain_hello 9000 2 two) in
    let stale = after_tick 9000 back in
    let anew = after_announce 0 (view_of 3 7) stale in
    (view_at 1 told ≡ Some (view_of 1 7))
    × (view_at 4000 (after_plain_hello 4000 2 one) ≡ None)
    × (view_at 5000 alone ≡ Some (view_of 2 6))
    × (view_at 9000 back ≡ Some (view_of 1 7))
    × (view_at 9001 stale ≡ None)
    × (view_at 9002 anew ≡ Some (view_of 3 7))
unfolding node among three view_of view_at after_tick ranks_that with_ranks least_from
takes_the_stale_view = (refl, refl, refl, refl, refl, refl)

-- The link between ranks 0 and 1 is cut. The node of rank 1 sees rank 2 alone, which goes on following rank 0: a view of itself
-- and rank 2 never comes. While rank 2 is in dispute there is none, and three loops after it was missed first it is of the node alone.
leaves_who_follows_another : let met = after_hello 0 2 (trails 7 0) (after_hello 0 0 (follows 7 0) (first_maker three 1 1000)) in
    let all = after_tick 0 (after_announce 0 (view_of 1 7) met) in
    let cut = after_tick 3001 (after_tick 3000 (after_hello 2900 2 (trails 7 0) all)) in
    let missed = after_tick 3300 (after_hello 3300 2 (trails 7 0) cut) in
    let later = after_hello 6200 2 (trails 7 0) (after_tick 4300 missed) in
    (view_at 0 (after_announce 0 (view_of 1 7) met) ≡ Some (view_of 1 7))
    × (view_at 3300 (after_hello 3300 2 (trails 7 0) cut) ≡ None)
    × (view_at 4300 missed ≡ None)
    × (view_at 6299 later ≡ None)
    × (view_at 6300 later ≡ Some (view_of 2 2))
unfolding node among three view_of follows trails view_at after_tick ranks_that with_ranks least_from
leaves_who_follows_another = (refl, refl, refl, refl, refl)

-- Rank 1 is overdue when rank 2, which was missed later, is in doubt: a view comes that has rank 2 and is not of the company. So a
-- company that each look for a loop found may be no view yet, though the node leads and nobody is in dispute.
has_who_is_in_doubt : let met = after_hello 0 3 (trails 15 0) (after_hello 0 2 (trails 15 0) (after_hello 0 1 (follows 15 0) (first_maker four 0 1000))) in
    let all = after_tick 0 met in
    let one = after_tick 3001 (after_hello 2901 3 (trails 15 0) (after_hello 2900 2 (trails 15 0) all)) in
    let two = after_tick 5901 (after_hello 5901 3 (trails 15 0) one) in
    let doubted = after_tick 6002 two in
    let looked_again = after_tick 6003 doubted in
    (view_at 0 met ≡ Some (view_of 1 15))
    × (view_at 5901 (after_hello 5901 3 (trails 15 0) one) ≡ None)
    × (company_of 5901 (after_hello 5901 3 (trails 15 0) one) ≡ record { 0 = 9 })
    × (view_at 6002 two ≡ Some (view_of 2 13))
    × (company_of 6002 two ≡ record { 0 = 9 })
    × (company_of 6003 doubted ≡ record { 0 = 9 })
    × (company_of 6903 looked_again ≡ record { 0 = 9 })
    × (leader_found 6903 looked_again ≡ Some 0)
    × (disputed_nodes 6903 (looked 6903 looked_again) (record { 0 = 9 }) ≡ record { 0 = 0 })
    × (view_at 6903 looked_again ≡ None)
    × (view_at 7003 looked_again ≡ Some (view_of 3 9))
unfolding node among four view_of follows trails view_at after_tick ranks_that with_ranks least_from
has_who_is_in_doubt = (refl, refl, refl, refl, refl, refl, refl, refl, refl, refl, refl)
