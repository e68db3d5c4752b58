-- No two running nodes with disjoint views are both quorate beside one running arbiter.
use Rattle.std.proofs.Common.{◌≡◌, ℕ, true, List, [], ◌∷◌, Some, if◌then◌else◌, refl, sym, ap, ◌∙◌, arith, length}
use Rattle.std.specs.Prelude.{◌<◌}
use Rattle.std.proofs.lemmas.Bool.{true≢false}
use Rattle.qn_base.specs.declared.ids.View.{View}
use Rattle.qn_model.specs.declared.configuration.Settings.{Settings}
use Rattle.qn_model.specs.declared.times.Timing.{Timing}
use Rattle.qn_model.specs.Moments.{Running, tick_of}
use Rattle.qn_model.specs.NodeVotes.{answer_with_tie, view}
use Rattle.qn_model.specs.Steps.{answer_now, answer_off, run}
use Rattle.qn_model.specs.World.{node_at}
use Rattle.qn_safety.specs.declared.lease.Lease.{Lease}
use Rattle.qn_safety.specs.declared.polls.Poll.{Poll}
use Rattle.qn_safety.specs.declared.polls.Reply.{Reply}
use Rattle.qn_safety.specs.AnyNumbers.{AllMay}
use Rattle.qn_safety.specs.ArbiterLaws.{IsQuorateIn, LeasesVote}
use Rattle.qn_safety.specs.ArbiterNumbers.{AllMayBeside, OneMayLease}
use Rattle.qn_safety.specs.ArbiterSteps.{run_beside}
use Rattle.qn_polls.specs.Polls.{is_poll, is_reply, poll_bytes, reply_bytes}
use Rattle.qn_polls.specs.Reading.{poll_of, reply_of}
use Rattle.qn_joined.specs.Joints.{FitsImage, IsNewImage, Host}
use Rattle.qn_joined.specs.Moves.{EachIsOneEvent, NewImageIsWorld}
use Rattle.qn_joined.specs.Stands.{log_at}
use Rattle.qn_beside.specs.Beside.{AllMayHappenBeside, ArbiterBegins, ArbiterEnds, ArbiterReturns, Beside, BesideHappening, Here, MayHappenBeside, PassesWith, beside_after, first_beside, happens_beside}
use Rattle.qn_beside.specs.Laws.{IsQuorateHost, OneLeaseRuns}
use Rattle.qn_beside.proofs.ArbiterSteps.{arbiter_returns, begins, ends, passes}
use Rattle.qn_beside.proofs.NodeSteps.{here}
use Rattle.qn_beside.proofs.Simulating.{HasBeside}

module _ (s : Settings) (t : Timing) (times : Lease) (first : NewImageIsWorld s t) (each : EachIsOneEvent s t)
    (polls_back : (poll : Poll) → is_poll poll ≡ true → poll_of (poll_bytes poll) ≡ Some poll)
    (replies_back : (reply : Reply) → is_reply reply ≡ true → reply_of (reply_bytes reply) ≡ Some reply)
    (image : ℕ → List ℕ) (fits : FitsImage s t) (created : IsNewImage s t image) where
  one_happens : (b : Beside) → HasBeside s t times b → (happening : BesideHappening) → MayHappenBeside s t times happening b → HasBeside s t times (happens_beside s times happening b)
  one_happens b has (Here one) may = here s t times b has each fits polls_back one may
  one_happens b has (PassesWith dt clocks advance) may = passes s t times b has dt clocks advance each fits may
  one_happens b has (ArbiterBegins base) may = begins s t times b has base may
  one_happens b has (ArbiterReturns made) may = arbiter_returns s t times b has made replies_back may
  one_happens b has ArbiterEnds may = ends s t times b has

  at_first : HasBeside s t times (first_beside image)
  unfolding AllMayBeside run_beside AllMay run
  at_first = record {
    events = [];
    may = tt;
    world = record { events = []; may = tt; world = first image created };
    same = refl;
    is = record {
      hosts = λ r. record { asked = λ on asked. absurd (true≢false (sym on)); fresh = λ on unasked. absurd (true≢false (sym on)) };
      runs = refl;
      replied = λ to bytes reply there e. absurd (omega (arith, there.1));
      polled = λ bytes poll there e. absurd (omega (arith, there.1));
    };
  }

  all_happen : (happenings : List BesideHappening) → AllMayHappenBeside s t times image happenings → HasBeside s t times (beside_after s times image happenings)
  unfolding AllMayHappenBeside beside_after
  all_happen [] may = at_first
  all_happen (newest ∷ earlier) may = one_happens (beside_after s times image earlier) (all_happen earlier may.1) newest may.0

-- a host that counts itself quorate is a node of the world that does
quorate_in : {s : Settings} {t : Timing} {times : Lease} {b : Beside} (has : HasBeside s t times b) (rank : ℕ) (seen : View) → rank < length s.nodes
    → IsQuorateHost s seen (b.joint.hosts rank) → IsQuorateIn s rank seen (run_beside s t times has.events)
quorate_in {s} {t} {b = b} has rank seen below is = record {
  on = ap (λ x. (node_at s rank x).on) has.same ∙ lives;
  sees = ap (λ x. view (node_at s rank x).log) has.same ∙ ap view log_is ∙ is.sees;
  quorate =
      ap (λ x. (answer_now s (node_at s rank x)).quorate) has.same
      ∙ ap (λ a. (if a then answer_with_tie s n.log (tick_of n.clock) else answer_off s).quorate) lives
      ∙ ap (λ l. (answer_with_tie s l (tick_of n.clock)).quorate) log_is
      ∙ ap (λ k. (answer_with_tie s (log_at host.stand.spot) (tick_of k)).quorate) clock_is
      ∙ is.quorate;
}
  where
    host : Host
    host = b.joint.hosts rank

    n : Running
    n = node_at s rank (run s t has.world.events)

    lives : n.on ≡ true
    lives = (has.world.world.nodes rank below).on ∙ is.timed

    log_is : n.log ≡ log_at host.stand.spot
    log_is = (has.world.world.nodes rank below).log lives

    clock_is : n.clock ≡ host.clock
    clock_is = (has.world.world.nodes rank below).clock lives

pub one_lease_runs : ((s : Settings) (t : Timing) → NewImageIsWorld s t) → ((s : Settings) (t : Timing) → EachIsOneEvent s t)
    → ((poll : Poll) → is_poll poll ≡ true → poll_of (poll_bytes poll) ≡ Some poll)
    → ((reply : Reply) → is_reply reply ≡ true → reply_of (reply_bytes reply) ≡ Some reply)
    → ((s : Settings) (t : Timing) (times : Lease) → LeasesVote s times → OneMayLease s t times) → OneLeaseRuns
one_lease_runs first each polls_back replies_back one_lease s t times image happenings i j left right leases safe joined below also differ apart one other =
    let has = all_happen s t times (first s t) (each s t) polls_back replies_back image joined.fits joined.created happenings joined.may in
    one_lease s t times leases has.events i j left right has.may differ apart (quorate_in has i left below one) (quorate_in has j right also other)
