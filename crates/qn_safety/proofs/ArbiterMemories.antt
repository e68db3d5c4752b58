-- The polls that an arbiter heard: its last yes to a rank is of no older view than any yes before, and it gives no yes to
-- nodes that a live one has nothing in common with.
use Rattle.std.proofs.Common.{◌≡◌, ℕ, ◌+◌, ◌<◌, ◌≤◌, Bool, true, false, List, [], ◌∷◌, Some, refl, sym, ap, ◌∙◌, arith, ◌&&◌, ◌||◌, ◌==◌, not, cond, nat_le, nat_lt}
use Rattle.std.specs.Option.{option_map_or}
use Rattle.std.specs.List.{range_with_len}
use Rattle.std.proofs.lemmas.Bool.{eq-eqb, eqb-true, leb-true, lt-ltb, ltb-true, true≢false, not-true}
use Rattle.qn_base.specs.Members.{is_member}
use Rattle.qn_model.specs.Laws.{AreDisjoint}
use Rattle.qn_model.specs.Moments.{Before, Itself, Later}
use Rattle.qn_safety.specs.declared.polls.Poll.{Poll}
use Rattle.qn_safety.specs.Arbiter.{HeardPoll, Memory, do_meet, gives_yes, is_live_yes, is_newest, is_of_same_rank, is_older, is_vote_left, last_yes, leaves_vote}
use Rattle.qn_safety.proofs.ArbiterTools.{or_right_of, some_item, each_item}
use Rattle.qn_base.specs.declared.ids.View.{View}
use Rattle.qn_base.specs.lemmas.Bools.{first_of_both, second_of_both}
use Rattle.qn_base.specs.lemmas.Ranges.{each_in_range}

-- the tick of the newest poll that was heard, 0 where none was
abbrev pub newest_tick : List HeardPoll → ℕ
newest_tick [] = 0
newest_tick (newest ∷ heard) = newest.tick

-- what an arbiter remembers of its present boot: each poll was answered by those before it, and ticks do not fall
pub data WasHeard (lease began : ℕ) : List HeardPoll → Type 0 where
  NoPoll : WasHeard lease began []
  OnePoll : {newest : HeardPoll} {heard : List HeardPoll} → newest.agrees ≡ gives_yes (record { lease = lease; began = began; heard = heard }) newest.tick newest.poll
      → newest_tick heard ≤ newest.tick → WasHeard lease began heard → WasHeard lease began (newest ∷ heard)

ticks_rise : {lease began : ℕ} {g : HeardPoll} {rest heard : List HeardPoll} → WasHeard lease began heard → Before (g ∷ rest) heard → g.tick ≤ newest_tick heard
ticks_rise was Itself = omega arith
ticks_rise (OnePoll answers order was) (Later newest more) = let p = ticks_rise was more in omega arith

-- a poll is not older than itself
not_below : (n : ℕ) → nat_lt n n ≡ false
not_below n = by_test (nat_lt n n) refl
  where
    by_test : (b : Bool) → nat_lt n n ≡ b → b ≡ false
    by_test false e = refl
    by_test true e = absurd (let p = ltb-true n n e in omega arith)

own_order : (p : Poll) → is_older p p ≡ false
own_order p = by_tests (nat_lt p.incarnation p.incarnation) (p.incarnation == p.incarnation) (nat_lt p.install p.install) (not_below p.incarnation) (not_below p.install)
  where
    by_tests : (a b c : Bool) → a ≡ false → c ≡ false → (a || (b && c)) ≡ false
    by_tests false true c e f = f
    by_tests false false c e f = refl
    by_tests true b c e f = absurd (true≢false e)

-- the last yes to a rank, beside an earlier yes to it
pub record LastYes (g : HeardPoll) (heard : List HeardPoll) : Type 0 where
  pub last : HeardPoll
  pub rest : List HeardPoll
  pub back : Before (last ∷ rest) heard
  pub found : last_yes g.poll.from.0 heard ≡ Some last
  pub from : last.poll.from.0 ≡ g.poll.from.0
  pub order : is_older last.poll g.poll ≡ false
  pub after : g.tick ≤ last.tick

pub last_after : {lease began : ℕ} {g : HeardPoll} {rest heard : List HeardPoll} → WasHeard lease began heard → Before (g ∷ rest) heard → g.agrees ≡ true → LastYes g heard
last_after {g = g} {rest = rest} was Itself agrees = record {
  last = g;
  rest = rest;
  back = Itself;
  found = ap (λ b. cond b (Some g) (last_yes g.poll.from.0 rest)) (ap (λ b. b && (g.poll.from.0 == g.poll.from.0)) agrees ∙ eq-eqb g.poll.from.0 g.poll.from.0 refl);
  from = refl;
  order = own_order g.poll;
  after = omega arith;
}
last_after {lease = lease} {began = began} {g = g} {rest = rest} (OnePoll {newest = newest} {heard = others} answers order was) (Later head more) agrees =
    by_test (newest.agrees && newest.poll.from.0 == g.poll.from.0) refl (last_after was more agrees)
  where
    newer : (newest.agrees && newest.poll.from.0 == g.poll.from.0) ≡ true → LastYes g (newest ∷ others)
    newer e =
        let from : newest.poll.from.0 ≡ g.poll.from.0 = eqb-true newest.poll.from.0 g.poll.from.0 (second_of_both newest.agrees (newest.poll.from.0 == g.poll.from.0) e) in
        let gave = sym answers ∙ first_of_both newest.agrees (newest.poll.from.0 == g.poll.from.0) e in
        let memory : Memory = record { lease = lease; began = began; heard = others } in
        let fresh : is_newest others newest.poll ≡ true =
        second_of_both (nat_le (began + lease) newest.tick) (is_newest others newest.poll)
        (first_of_both (nat_le (began + lease) newest.tick && is_newest others newest.poll) (is_vote_left memory newest.tick newest.poll) gave) in
        let here = not-true (is_of_same_rank g.poll newest.poll && is_older newest.poll g.poll)
        (each_item (λ before. not (is_of_same_rank before.poll newest.poll && is_older newest.poll before.poll)) more fresh) in
        let p = ticks_rise was more in
        record {
          last = newest;
          rest = others;
          back = Itself;
          found = ap (λ b. cond b (Some newest) (last_yes g.poll.from.0 others)) e;
          from = from;
          order = ap (λ b. b && is_older newest.poll g.poll) (sym (eq-eqb g.poll.from.0 newest.poll.from.0 (sym from))) ∙ here;
          after = omega arith;
        }

    by_test : (b : Bool) → (newest.agrees && newest.poll.from.0 == g.poll.from.0) ≡ b → LastYes g others → LastYes g (newest ∷ others)
    by_test true e earlier = newer e
    by_test false e earlier = record {
      last = earlier.last;
      rest = earlier.rest;
      back = Later newest earlier.back;
      found = ap (λ b. cond b (Some newest) (last_yes g.poll.from.0 others)) e ∙ earlier.found;
      from = earlier.from;
      order = earlier.order;
      after = earlier.after;
    }

-- nodes that meet have one in common
meet_in : (left right : View) → AreDisjoint left right → do_meet left.members right.members ≡ true → ⊥
meet_in left right apart e =
    let at = some_item (λ rank. is_member left.members rank && is_member right.members rank) (range_with_len 0 32) e in
    apart at.0 (first_of_both (is_member left.members at.0) (is_member right.members at.0) at.1) (second_of_both (is_member left.members at.0) (is_member right.members at.0) at.1)

-- a poll that gets a yes comes a lease after the boot
pub yes_after_lease : (memory : Memory) (tick : ℕ) (poll : Poll) → gives_yes memory tick poll ≡ true → memory.began + memory.lease ≤ tick
yes_after_lease memory tick poll gave =
    leb-true (memory.began + memory.lease) tick
    (first_of_both (nat_le (memory.began + memory.lease) tick) (is_newest memory.heard poll)
    (first_of_both (nat_le (memory.began + memory.lease) tick && is_newest memory.heard poll) (is_vote_left memory tick poll) gave))

-- a live yes to another rank is in the way of a poll of nodes that it has nothing in common with
pub yes_in_the_way : (memory : Memory) (tick rank : ℕ) (poll : Poll) (last : HeardPoll) → gives_yes memory tick poll ≡ true → rank < 32 → ((rank ≡ poll.from.0) → ⊥)
    → last_yes rank memory.heard ≡ Some last → tick < last.tick + memory.lease → AreDisjoint last.poll.view poll.view → ⊥
yes_in_the_way memory tick rank poll last gave below other found live apart =
    let left : is_vote_left memory tick poll ≡ true = second_of_both (nat_le (memory.began + memory.lease) tick && is_newest memory.heard poll) (is_vote_left memory tick poll) gave in
    let here : (rank == poll.from.0 || option_map_or (leaves_vote memory.lease tick poll) (last_yes rank memory.heard) true) ≡ true =
    each_in_range (λ r. r == poll.from.0 || option_map_or (leaves_vote memory.lease tick poll) (last_yes r memory.heard) true) 32 0 rank left (omega arith) below in
    let leaves : option_map_or (leaves_vote memory.lease tick poll) (last_yes rank memory.heard) true ≡ true =
    or_right_of (rank == poll.from.0) (option_map_or (leaves_vote memory.lease tick poll) (last_yes rank memory.heard) true) here (apart_ranks (rank == poll.from.0) refl) in
    let stays : leaves_vote memory.lease tick poll last ≡ true = sym (ap (λ o. option_map_or (leaves_vote memory.lease tick poll) o true) found) ∙ leaves in
    let binds : not (is_live_yes memory.lease tick last) ≡ false = ap not (lt-ltb tick (last.tick + memory.lease) live) in
    meet_in last.poll.view poll.view apart
    (or_right_of (not (is_live_yes memory.lease tick last)) (do_meet last.poll.view.members poll.view.members) stays binds)
  where
    apart_ranks : (b : Bool) → (rank == poll.from.0) ≡ b → b ≡ false
    apart_ranks false e = refl
    apart_ranks true e = absurd (other (eqb-true rank poll.from.0 e))
