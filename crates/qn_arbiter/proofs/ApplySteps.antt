-- The first world, the step of an event that is allowed, and the worlds that events lead to.
use Rattle.std.proofs.Common.{◌≡◌, ◌-◌, ◌<◌, ◌≤◌, true, [], ◌∷◌, None, refl, sym, ◌∙◌, ap, subst, arith}
use Rattle.qn_safety.specs.declared.arbiter_event.ArbiterEvent.{ArbiterEvent}
use Rattle.qn_safety.specs.declared.lease.Lease.{Lease}
use Rattle.qn_safety.specs.declared.arbiter_reports.ArbiterReport.{ArbiterReport}
use Rattle.qn_safety.specs.ArbiterRules.{is_well_formed_beside, refusal_beside}
use Rattle.qn_safety.specs.ArbiterSteps.{AllAllowedBeside, run_beside, step_beside}
use Rattle.qn_safety.specs.ArbiterWorld.{ArbiterWorld, first_arbiter_world}
use Rattle.qn_safety.specs.ArbiterLaws.{IsQuorateIn, OneLeasedVote}
use Rattle.qn_model.specs.declared.configuration.Settings.{Settings}
use Rattle.qn_model.specs.declared.times.Timing.{Timing}
use Rattle.qn_arbiter.specs.Standing.{ArbiterFor, IsRunTo, KeptFor}
use Rattle.qn_arbiter.specs.Stepping.{Applied, OneVoteIn, Stepped}
use Rattle.qn_arbiter.specs.Whole.{Kept, Whole, whole_of}

-- ---- the first world

pub first_reached : (k : Kept) (l : Lease) → k.lease ≡ l → KeptFor k (first_arbiter_world l) → k.steps ≤ k.world.steps
    → ArbiterFor (whole_of k) (first_arbiter_world l)
unfolding run_beside AllAllowedBeside
first_reached k l same is room =
    record { seen = refl; stands = is; room = room; reached = record { events = []; allowed = tt; leads = ap first_arbiter_world (sym same) } }

-- ---- one event less is left

abbrev pub spent : Kept → Kept
spent k = record k { steps = k.steps - 1 }

spent_stands : (k : Kept) (d : ArbiterWorld) → KeptFor k d → KeptFor (spent k) d
spent_stands k d is =
    record {
      world = is.world;
      arbiter = is.arbiter;
      early = is.early;
      pollers = is.pollers;
      counts = is.counts;
      polls = is.polls;
      replies = is.replies;
      senders = is.senders;
      receivers = is.receivers;
    }

pub applied : (k mid : Kept) (event : ArbiterEvent) (r : ArbiterReport) → 0 < k.steps → k.steps ≤ k.world.steps → Stepped k mid event r → Applied k (spent mid) event r
applied k mid event r some room made =
    let same = made.frame.steps in
    let met = made.frame.met in
    record {
      settings = made.frame.settings;
      timing = made.frame.timing;
      lease = made.frame.lease;
      steps = omega arith;
      room = omega arith;
      allowed = made.allowed;
      stands = λ d is. spent_stands mid _ (made.stands d is);
      reports = made.reports;
    }

-- ---- the worlds that events lead to

-- a world with one event more
run_more : (s : Settings) (t : Timing) (l : Lease) (event : ArbiterEvent) (d : ArbiterWorld) → is_well_formed_beside s event ≡ true
    → refusal_beside s t event d ≡ None → IsRunTo s t l d → IsRunTo s t l (step_beside s t l event d)
unfolding run_beside AllAllowedBeside
run_more s t l event d formed allowed run =
    record {
      events = event ∷ run.events;
      allowed = (formed, ap (λ d. refusal_beside s t event d) (sym run.leads) ∙ allowed, run.allowed);
      leads = ap (step_beside s t l event) run.leads;
    }

pub reached_more : (k new : Kept) (event : ArbiterEvent) (r : ArbiterReport) → is_well_formed_beside k.world.settings event ≡ true → Applied k new event r
    → (d : ArbiterWorld) → ArbiterFor (whole_of k) d → ArbiterFor (whole_of new) (step_beside k.world.settings k.world.timing k.lease event d)
reached_more k new event r formed made d is =
    let after = step_beside k.world.settings k.world.timing k.lease event d in
    let run : IsRunTo k.world.settings k.world.timing k.lease after = run_more k.world.settings k.world.timing k.lease event d formed (made.allowed d is.stands) is.reached in
    record {
      seen = refl;
      stands = made.stands d is.stands;
      room = made.room;
      reached =
          subst (λ s. IsRunTo s new.world.timing new.lease after) (sym made.settings)
          (subst (λ t. IsRunTo k.world.settings t new.lease after) (sym made.timing)
          (subst (λ l. IsRunTo k.world.settings k.world.timing l after) (sym made.lease) run));
    }

-- where the vote is leased, no two nodes with disjoint views are both quorate
pub one_vote : OneLeasedVote → (w : Whole) (d : ArbiterWorld) → ArbiterFor w d → OneVoteIn w.settings w.lease d
one_vote law w d is i j left right leases differ apart first second =
    law w.settings w.timing w.lease is.reached.events i j left right leases is.reached.allowed differ apart
    (subst (IsQuorateIn w.settings i left) is.reached.leads first) (subst (IsQuorateIn w.settings j right) is.reached.leads second)
