-- The arbiter and the pollers after each event that the nodes meet.
use Rattle.std.proofs.Common.{◌≡◌, ℕ, ◌*◌, ◌≤◌, Bool, true, false, List, Option, None, Some, length, refl, sym, ◌∙◌, ap, subst, arith, if◌then◌else◌, ◌&&◌}
use Rattle.std.proofs.lemmas.Bool.{leb-true}
use Rattle.std.specs.Prelude.{unwrap_or, nat_le, ◌==◌}
use Rattle.std.specs.Option.{option_map, option_map_or, option_or}
use Rattle.qn_base.specs.declared.ids.Rank.{Rank}
use Rattle.qn_base.specs.declared.limits.TheConstants.{LATEST_TIME}
use Rattle.qn_base.specs.lemmas.Bools.{first_of_both, second_of_both}
use Rattle.qn_safety.specs.declared.arbiter_event.ArbiterEvent.TheVariants as beside
use Rattle.qn_safety.specs.declared.lease.Lease.{Lease}
use Rattle.qn_safety.specs.declared.polls.Reply.{Reply}
use Rattle.qn_safety.specs.ArbiterRules.{is_well_formed_beside, may_pass_with, may_reply, pass_of}
use Rattle.qn_safety.specs.ArbiterSteps.{advanced_arbiter, device_event, played, pollers_with, reply_event, said_at}
use Rattle.qn_safety.specs.ArbiterWorld.{Arbiter, ArbiterWorld, reply_at}
use Rattle.qn_safety.specs.Poller.{Poller, answer_taken, fresh_poller, without_last}
use Rattle.qn_model.specs.declared.configuration.Settings.{Settings}
use Rattle.qn_model.specs.declared.events.Event.{Event}
use Rattle.qn_model.specs.declared.events.Event.TheVariants as event
use Rattle.qn_model.specs.declared.times.Timing.{Timing}
use Rattle.qn_model.specs.Moments.{tick_of, time}
use Rattle.qn_model.specs.Rules.{is_configured, is_on, is_well_formed, is_within_bounds, refusal, unless}
use Rattle.qn_model.specs.Settings.{IsValid}
use Rattle.qn_model.specs.World.{World, node_at, put}
use Rattle.qn_model.specs.lemmas.Rules.{allowed as passed}
use Rattle.qn_arbiter.specs.declared.running.RunningArbiter.{RunningArbiter}
use Rattle.qn_arbiter.specs.OwnRules.{own_refusal}
use Rattle.qn_arbiter.specs.Standing.{AreAnswers, HasRoomFor, IsStanding, KeptFor, PollersFor, RunsOrOff}
use Rattle.qn_arbiter.specs.Stepping.{IsReady}
use Rattle.qn_arbiter.specs.Whole.{Kept}
use Rattle.qn_arbiter.proofs.Clocks.{early_after, early_still, has_room, time_after}
use Rattle.qn_arbiter.proofs.Meeting.{Follows, IsOfNodes}
use Rattle.qn_arbiter.proofs.Refusals.{nodes_decide}
use Rattle.qn_arbiter.proofs.RuleTests.{lt-decides}
use Rattle.qn_arbiter.proofs.StepForms.{after_one, after_pass_with, after_reply, some_same}

-- what holds of all pollers holds of them after one was replaced
pub put_holds : (P : Poller → Type 0) (pollers : ℕ → Poller) (i : ℕ) (poller : Poller) → P poller → ((rank : ℕ) → P (pollers rank))
    → (rank : ℕ) → P (put pollers i poller rank)
put_holds P pollers i poller here others rank = by_test (i == rank)
  where
    by_test : (b : Bool) → P (if b then poller else pollers rank)
    by_test true = here
    by_test false = others rank

-- no event of the nodes sends a poll
counts_with : (l : Lease) (one : Event) (pollers : ℕ → Poller) (most : ℕ) → ((rank : ℕ) → (pollers rank).count ≤ most)
    → (rank : ℕ) → (pollers_with l one pollers rank).count ≤ most
counts_with l (event.Boot own base) pollers most few = put_holds (λ p. p.count ≤ most) pollers own.0 (fresh_poller l.limit) (omega arith) few
counts_with l (event.BootClean own base) pollers most few = put_holds (λ p. p.count ≤ most) pollers own.0 (fresh_poller l.limit) (omega arith) few
counts_with l (event.View own view) pollers most few = put_holds (λ p. p.count ≤ most) pollers own.0 (without_last (pollers own.0)) (few own.0) few
counts_with l (event.Pass dt clocks) pollers most few = few
counts_with l (event.Crash own) pollers most few = few
counts_with l (event.Land own) pollers most few = few
counts_with l (event.Done own) pollers most few = few
counts_with l (event.Fail own) pollers most few = few
counts_with l (event.Late own number) pollers most few = few
counts_with l (event.Deliver own number) pollers most few = few
counts_with l (event.Device own agrees) pollers most few = few
counts_with l (event.Tick own) pollers most few = few
counts_with l (event.Stopped own) pollers most few = few
counts_with l (event.Unstopped own) pollers most few = few
counts_with l (event.Leave own) pollers most few = few
counts_with l (event.Feed own) pollers most few = few
counts_with l (event.Operator own message) pollers most few = few

-- ---- an event as in the world without an arbiter

pub one_of_nodes : (k : Kept) (one : Event) → IsReady k (beside.One one) → (d : ArbiterWorld) → KeptFor k d → IsOfNodes k (beside.One one) one d
unfolding played said_at
one_of_nodes k one ready d is =
    record { plays = refl; rules = nodes_decide k.world.settings k.world.timing (beside.One one) d (ready.allowed d is); quiet = refl }

pub one_formed : (s : Settings) (one : Event) → is_well_formed_beside s (beside.One one) ≡ true → is_well_formed s one ≡ true
unfolding is_well_formed_beside
one_formed s one formed = formed

pub one_follows : (k : Kept) (one : Event) (running : Option RunningArbiter) (all : List Poller) (hundredths : ℕ) → hundredths ≡ 100 * unwrap_or (pass_of one) 0
    → ((theirs : Option Arbiter) → RunsOrOff k.arbiter theirs → RunsOrOff running (option_map (advanced_arbiter hundredths) theirs))
    → ((pollers : ℕ → Poller) → PollersFor k.pollers pollers → PollersFor all (pollers_with k.lease one pollers))
    → (d : ArbiterWorld) → KeptFor k d → Follows k (beside.One one) one running all d
one_follows k one running all hundredths same advances meets d is =
    let s = k.world.settings in
    let t = k.world.timing in
    let dt = unwrap_or (pass_of one) 0 in
    let slow : 100 * dt ≤ 101 * dt = omega arith in
    record {
      arbiter = option_map (advanced_arbiter (100 * dt)) d.arbiter;
      pollers = pollers_with k.lease one d.pollers;
      after = after_one s t k.lease d one;
      runs = subst (λ h. RunsOrOff running (option_map (advanced_arbiter h) d.arbiter)) same (advances d.arbiter is.arbiter);
      early = early_after d.arbiter (time d.world.moments) _ (100 * dt) dt slow (time_after s t one d.world) is.early;
      stands = meets d.pollers is.pollers;
      counts = counts_with k.lease one d.pollers (length d.polls) is.counts;
    }

-- ---- a pass with an advance of the arbiter's clock

pub pass_of_nodes : (k : Kept) (hundredths : ℕ) (one : Event) → IsReady k (beside.PassWith hundredths one) → (d : ArbiterWorld) → KeptFor k d
    → IsOfNodes k (beside.PassWith hundredths one) one d
unfolding played said_at
pass_of_nodes k hundredths one ready d is =
    record { plays = refl; rules = nodes_decide k.world.settings k.world.timing (beside.PassWith hundredths one) d (ready.allowed d is); quiet = refl }

pub pass_formed : (s : Settings) (hundredths : ℕ) (one : Event) → is_well_formed_beside s (beside.PassWith hundredths one) ≡ true
    → (hundredths ≤ 1000000000000) × (is_well_formed s one ≡ true)
unfolding is_well_formed_beside
pass_formed s hundredths one formed = (
  leb-true hundredths 1000000000000 (first_of_both (nat_le hundredths 1000000000000) (is_well_formed s one) formed),
  second_of_both (nat_le hundredths 1000000000000) (is_well_formed s one) formed,
)

-- the clock of the arbiter keeps its bounds
pass_bound : (hundredths : ℕ) (o : Option ℕ) (on : Bool) → option_map_or (λ dt. on && is_within_bounds dt hundredths) o false ≡ true
    → hundredths ≤ 101 * unwrap_or o 0
pass_bound hundredths None on e = absurd (cc)
pass_bound hundredths (Some dt) on e =
    leb-true hundredths (101 * dt) (second_of_both (nat_le (99 * dt) hundredths) _ (second_of_both on (is_within_bounds dt hundredths) e))

own_pass : (k : Kept) (hundredths : ℕ) (one : Event) (d : ArbiterWorld) → own_refusal k.world.settings (beside.PassWith hundredths one) d ≡ None
    → may_pass_with hundredths one d ≡ true
unfolding own_refusal
own_pass k hundredths one d e = passed (may_pass_with hundredths one d) 15 e

pub pass_follows : (k : Kept) (hundredths : ℕ) (one : Event) (running : Option RunningArbiter) → IsReady k (beside.PassWith hundredths one)
    → ((theirs : Option Arbiter) → RunsOrOff k.arbiter theirs → RunsOrOff running (option_map (advanced_arbiter hundredths) theirs))
    → (d : ArbiterWorld) → KeptFor k d → Follows k (beside.PassWith hundredths one) one running k.pollers d
pass_follows k hundredths one running ready advances d is =
    let s = k.world.settings in
    let t = k.world.timing in
    record {
      arbiter = option_map (advanced_arbiter hundredths) d.arbiter;
      pollers = d.pollers;
      after = after_pass_with s t k.lease d hundredths one;
      runs = advances d.arbiter is.arbiter;
      early =
          early_after d.arbiter (time d.world.moments) _ hundredths (unwrap_or (pass_of one) 0)
          (pass_bound hundredths (pass_of one) _ (own_pass k hundredths one d (ready.allowed d is))) (time_after s t one d.world) is.early;
      stands = is.pollers;
      counts = is.counts;
    }

-- ---- a reply that its node gets

own_reply : (s : Settings) (number : ℕ) (d : ArbiterWorld) → own_refusal s (beside.Reply number) d ≡ None → may_reply s number d ≡ true
unfolding own_refusal
own_reply s number d e = passed (may_reply s number d) 14 e

pub ready_reply : (k : Kept) (number : ℕ) → IsReady k (beside.Reply number) → (d : ArbiterWorld) → KeptFor k d → may_reply k.world.settings number d ≡ true
ready_reply k number ready d is = own_reply k.world.settings number d (ready.allowed d is)

-- what its node is handed is well formed and allowed
pub record IsHanded (s : Settings) (t : Timing) (one : Event) (w : World) : Type 0 where
  pub formed : is_well_formed s one ≡ true
  pub allowed : refusal s t one w ≡ None

handed : (s : Settings) (t : Timing) (rank : Rank) (answer : Option Bool) (w : World) → is_configured s rank.0 ≡ true → is_on s rank.0 w ≡ true
    → IsHanded s t (device_event rank answer) w
unfolding is_well_formed refusal
handed s t rank (Some agrees) w known on = record { formed = known; allowed = ap (λ b. option_or (unless b 3) None) on }
handed s t rank None w known on = record { formed = known; allowed = ap (λ b. option_or (unless b 3) None) on }

pub reply_handed : (s : Settings) (t : Timing) (number : ℕ) (one : Event) (d : ArbiterWorld) → AreAnswers s d.replies → may_reply s number d ≡ true
    → played s (beside.Reply number) d ≡ Some one → IsHanded s t one d.world
unfolding played
reply_handed s t number one d known may plays = by_reply (reply_at number d) refl may plays
  where
    by_reply : (o : Option Reply) → reply_at number d ≡ o → option_map_or (λ reply. is_on s reply.to.0 d.world) o false ≡ true
        → option_map (reply_event s d) o ≡ Some one → IsHanded s t one d.world
    by_reply None there on is = absurd (cc)
    by_reply (Some reply) there on is =
        subst (λ one. IsHanded s t one d.world) (some_same (reply_event s d reply) one is)
        (handed s t reply.to (answer_taken (tick_of (node_at s reply.to.0 d.world).clock) reply (d.pollers reply.to.0)) d.world (lt-decides reply.to.0 (length s.nodes) (known number reply there)) on)

pub reply_of_nodes : (k : Kept) (number : ℕ) (one : Event) → IsReady k (beside.Reply number)
    → ((d : ArbiterWorld) → KeptFor k d → played k.world.settings (beside.Reply number) d ≡ Some one)
    → (d : ArbiterWorld) → KeptFor k d → IsOfNodes k (beside.Reply number) one d
unfolding said_at
reply_of_nodes k number one ready plays d is =
    let s = k.world.settings in
    let t = k.world.timing in
    record {
      plays = plays d is;
      rules = nodes_decide s t (beside.Reply number) d (ready.allowed d is) ∙ sym (reply_handed s t number one d is.receivers (ready_reply k number ready d is) (plays d is)).allowed;
      quiet = refl;
    }

pub reply_follows : (k : Kept) (number : ℕ) (one : Event) → ((d : ArbiterWorld) → KeptFor k d → played k.world.settings (beside.Reply number) d ≡ Some one)
    → (d : ArbiterWorld) → KeptFor k d → Follows k (beside.Reply number) one k.arbiter k.pollers d
reply_follows k number one plays d is =
    let s = k.world.settings in
    let t = k.world.timing in
    record {
      arbiter = d.arbiter;
      pollers = d.pollers;
      after = after_reply s t k.lease d number one (plays d is);
      runs = is.arbiter;
      early = early_still d.arbiter (time d.world.moments) _ (let later = time_after s t one d.world in omega arith) is.early;
      stands = is.pollers;
      counts = is.counts;
    }

-- ---- what the calls ask for

-- the clock of the arbiter can advance
pub standing_room : (k : Kept) (hundredths : ℕ) → IsStanding k → k.world.time ≤ LATEST_TIME → hundredths ≤ 1000000000000 → HasRoomFor k.arbiter hundredths
standing_room k hundredths standing early bound =
    let is = standing.1 in
    let times = is.world.cluster.times in
    let on : time standing.0.world.moments ≤ 10000000000000000 = omega arith in
    has_room k.arbiter standing.0.arbiter (time standing.0.world.moments) hundredths is.arbiter is.early on bound

pub standing_valid : (k : Kept) → IsStanding k → IsValid k.world.settings
standing_valid k standing = standing.1.world.cluster.valid

-- what a node is handed by a reply
pub reply_formed : (k : Kept) (number : ℕ) (one : Event) → IsReady k (beside.Reply number)
    → ((d : ArbiterWorld) → KeptFor k d → played k.world.settings (beside.Reply number) d ≡ Some one) → is_well_formed k.world.settings one ≡ true
reply_formed k number one ready plays =
    let d = ready.standing.0 in
    let is = ready.standing.1 in
    (reply_handed k.world.settings k.world.timing number one d is.receivers (ready_reply k number ready d is) (plays d is)).formed

-- its node is handed something
pub no_reply : (k : Kept) (number : ℕ) → IsReady k (beside.Reply number)
    → ((d : ArbiterWorld) → KeptFor k d → played k.world.settings (beside.Reply number) d ≡ None) → ⊥
unfolding played
no_reply k number ready none =
    by_reply (reply_at number d) (ready_reply k number ready d ready.standing.1) (none d ready.standing.1)
  where
    d : ArbiterWorld
    d = ready.standing.0

    by_reply : (o : Option Reply) → option_map_or (λ reply. is_on k.world.settings reply.to.0 d.world) o false ≡ true
        → option_map (reply_event k.world.settings d) o ≡ None → ⊥
    by_reply None may is = absurd (cc)
    by_reply (Some reply) may is = absurd (cc)
