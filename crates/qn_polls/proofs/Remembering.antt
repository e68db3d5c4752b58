-- What an arbiter remembers of a rank decides as all that it heard.
use Rattle.std.proofs.Common.{◌≡◌, ◌<◌, ◌+◌, ℕ, Bool, true, false, List, [], ◌∷◌, Option, None, Some, length, refl, sym, ap, ◌∙◌, subst, arith, rules, eq-eqb}
use Rattle.std.specs.Prelude.{slice_get, slice_set, nat_le, not, ◌==◌, ◌&&◌, ◌||◌, if◌then◌else◌}
use Rattle.std.specs.List.{list_all, range_with_len}
use Rattle.std.specs.Option.{option_map, option_map_or}
use Rattle.std.proofs.lemmas.Bool.Decides.{nat_tests}
use Rattle.std.proofs.lemmas.Bool.{eqb-true}
use Rattle.qn_base.specs.lemmas.Lists.{get_set_same, get_set_other}
use Rattle.qn_safety.specs.declared.polls.Poll.{Poll}
use Rattle.qn_safety.specs.Arbiter.{HeardPoll, Memory, do_meet, gives_yes, is_newest, is_vote_left, last_yes, with_poll}
use Rattle.qn_safety.specs.Arbiter as lease
use Rattle.qn_polls.specs.declared.arbiter.Arbiter.{Arbiter}
use Rattle.qn_polls.specs.declared.arbiter.Installed.{Installed}
use Rattle.qn_polls.specs.Arbiter.{ArbiterFor, installed_in, is_allowed_by, is_before, later_of, leaves_vote, leaves_vote_at, newest_of, remembered_of, with_answer, with_heard, yes_in, yes_leaves}
use Rattle.qn_polls.proofs.Places.{list_all_same}

-- ---- the greatest pair

before_later : (p h k : Installed) (b : Bool) → is_before h k ≡ b
    → (not (is_before p h) && not (is_before p k)) ≡ not (is_before p (if b then k else h))
before_later p h k true e = grind (arith, nat_tests)
before_later p h k false e = grind (arith, nat_tests)

-- no later poll than the one that was heard, and none than the kept one, is none than the later of the two
none_later : (polled heard : Installed) (kept : Option Installed)
    → (not (is_before polled heard) && option_map_or (λ newest. not (is_before polled newest)) kept true) ≡ not (is_before polled (later_of heard kept))
none_later polled heard None = both (not (is_before polled heard))
  where
    both : (b : Bool) → (b && true) ≡ b
    both true = refl
    both false = refl
none_later polled heard (Some newest) = before_later polled heard newest (is_before heard newest) refl

pub newest_decides : (heard : List HeardPoll) (poll : Poll) → is_newest heard poll ≡ is_allowed_by (remembered_of poll.from.0 heard) poll
unfolding newest_of
newest_decides [] poll = refl
newest_decides (last ∷ past) poll = by_rank (last.poll.from.0 == poll.from.0) refl (newest_decides past poll)
  where
    by_rank : (b : Bool) → (last.poll.from.0 == poll.from.0) ≡ b → is_newest past poll ≡ is_allowed_by (remembered_of poll.from.0 past) poll
        → is_newest (last ∷ past) poll ≡ is_allowed_by (remembered_of poll.from.0 (last ∷ past)) poll
    by_rank true e rest =
        ap (λ same. not (same && is_before (installed_in poll) (installed_in last.poll)) && is_newest past poll) e
        ∙ ap (λ others. not (is_before (installed_in poll) (installed_in last.poll)) && others) rest
        ∙ none_later (installed_in poll) (installed_in last.poll) (newest_of poll.from.0 past)
        ∙ ap (λ same. option_map_or (λ newest. not (is_before (installed_in poll) newest))
        (if same then Some (later_of (installed_in last.poll) (newest_of poll.from.0 past)) else newest_of poll.from.0 past) true) (sym e)
    by_rank false e rest =
        ap (λ same. not (same && is_before (installed_in poll) (installed_in last.poll)) && is_newest past poll) e
        ∙ rest
        ∙ ap (λ same. option_map_or (λ newest. not (is_before (installed_in poll) newest))
        (if same then Some (later_of (installed_in last.poll) (newest_of poll.from.0 past)) else newest_of poll.from.0 past) true) (sym e)

-- ---- the last yes

yes_decides : (term tick : ℕ) (poll : Poll) (yes : Option HeardPoll)
    → option_map_or (yes_leaves term tick poll) (option_map yes_in yes) true ≡ option_map_or (lease.leaves_vote term tick poll) yes true
yes_decides term tick poll None = refl
yes_decides term tick poll (Some heard) = refl

pub left_decides : (arbiter : Arbiter) (memory : Memory) (tick : ℕ) (poll : Poll) → ArbiterFor arbiter memory
    → list_all (leaves_vote_at arbiter tick poll) (range_with_len 0 32) ≡ is_vote_left memory tick poll
left_decides arbiter memory tick poll h = list_all_same _ _ 0 32 (λ rank below.
    ap (λ b. rank == poll.from.0 || b)
    (ap (λ kept. option_map_or (λ kept. leaves_vote kept arbiter.lease tick poll) kept true) (h.ranks rank below)
    ∙ ap (λ term. leaves_vote (remembered_of rank memory.heard) term tick poll) h.leases
    ∙ yes_decides memory.lease tick poll (last_yes rank memory.heard)))

-- the three tests of an arbiter are those of the definition
pub gives_decides : (arbiter : Arbiter) (memory : Memory) (tick : ℕ) (poll : Poll) (waited allowed left : Bool) → ArbiterFor arbiter memory
    → waited ≡ nat_le (arbiter.began + arbiter.lease) tick → allowed ≡ is_allowed_by (remembered_of poll.from.0 memory.heard) poll
    → left ≡ list_all (leaves_vote_at arbiter tick poll) (range_with_len 0 32)
    → (waited && allowed && left) ≡ gives_yes memory tick poll
gives_decides arbiter memory tick poll waited allowed left h waits allows leaves =
    let waits_so = waits ∙ ap (λ began. nat_le (began + arbiter.lease) tick) h.boots ∙ ap (λ term. nat_le (memory.began + term) tick) h.leases in
    let allows_so = allows ∙ sym (newest_decides memory.heard poll) in
    let leaves_so = leaves ∙ left_decides arbiter memory tick poll h in
    rw (waits_so, allows_so, leaves_so)

-- ---- one poll more

-- what is remembered of the rank that polled
of_the_same : (memory : Memory) (tick : ℕ) (poll : Poll) (agrees same : Bool) (rank : ℕ) → (poll.from.0 == rank) ≡ same → same ≡ true
    → with_heard (remembered_of rank memory.heard) tick poll agrees
    ≡ remembered_of rank (record { tick = tick; poll = poll; agrees = agrees } ∷ memory.heard)
unfolding newest_of
of_the_same memory tick poll true same rank e is = let at : (poll.from.0 == rank) ≡ true = e ∙ is in rw at
of_the_same memory tick poll false same rank e is = let at : (poll.from.0 == rank) ≡ true = e ∙ is in rw at

-- what is remembered of another rank
of_another : (memory : Memory) (tick : ℕ) (poll : Poll) (agrees : Bool) (rank : ℕ) → (poll.from.0 == rank) ≡ false
    → remembered_of rank memory.heard ≡ remembered_of rank (record { tick = tick; poll = poll; agrees = agrees } ∷ memory.heard)
unfolding newest_of
of_another memory tick poll true rank e = rw e
of_another memory tick poll false rank e = rw e

length_set : {A : Type 0} (items : List A) (i : ℕ) (item : A) → length (slice_set items i item) ≡ length items
length_set items i item = search rules

pub remembers : (arbiter new : Arbiter) (memory : Memory) (tick : ℕ) (poll : Poll) (agrees : Bool) → ArbiterFor arbiter memory → poll.from.0 < 32
    → agrees ≡ gives_yes memory tick poll → new ≡ with_answer tick poll agrees arbiter → ArbiterFor new (with_poll tick poll memory)
remembers arbiter new memory tick poll agrees h within gives is =
    let kept = h.ranks poll.from.0 within in
    let ranks : new.ranks ≡ slice_set arbiter.ranks poll.from.0 (with_heard (remembered_of poll.from.0 memory.heard) tick poll (gives_yes memory tick poll)) =
    ap (λ a. a.ranks) is
    ∙ ap (λ found. option_map_or (λ kept. slice_set arbiter.ranks poll.from.0 (with_heard kept tick poll agrees)) found arbiter.ranks) kept
    ∙ ap (λ b. slice_set arbiter.ranks poll.from.0 (with_heard (remembered_of poll.from.0 memory.heard) tick poll b)) gives in
    record {
      leases = ap (λ a. a.lease) is ∙ h.leases;
      boots = ap (λ a. a.began) is ∙ h.boots;
      count = ap length ranks ∙ length_set arbiter.ranks poll.from.0 _ ∙ h.count;
      ranks = λ rank below. ap (λ items. slice_get items rank) ranks ∙ by_rank rank below (poll.from.0 == rank) refl;
    }
  where
    by_rank : (rank : ℕ) → rank < 32 → (same : Bool) → (poll.from.0 == rank) ≡ same
        → slice_get (slice_set arbiter.ranks poll.from.0 (with_heard (remembered_of poll.from.0 memory.heard) tick poll (gives_yes memory tick poll))) rank
        ≡ Some (remembered_of rank (with_poll tick poll memory).heard)
    by_rank rank below true e =
        subst (λ i. slice_get (slice_set arbiter.ranks poll.from.0 (with_heard (remembered_of poll.from.0 memory.heard) tick poll (gives_yes memory tick poll))) i
        ≡ Some (remembered_of i (with_poll tick poll memory).heard)) (eqb-true poll.from.0 rank e)
        (get_set_same arbiter.ranks poll.from.0 _ (let n = h.count in omega arith)
        ∙ ap Some (of_the_same memory tick poll (gives_yes memory tick poll) (poll.from.0 == poll.from.0) poll.from.0 refl (eq-eqb poll.from.0 poll.from.0 refl)))
    by_rank rank below false e =
        get_set_other arbiter.ranks poll.from.0 rank _ e ∙ h.ranks rank below
        ∙ ap Some (of_another memory tick poll (gives_yes memory tick poll) rank e)
