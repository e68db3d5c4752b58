-- Events beside an arbiter that the rules allow, whatever their numbers: this project's profile.
use Rattle.std.specs.Prelude.{◌≡◌, ℕ, Bool, true, List, [], ◌∷◌, None}
use Rattle.qn_base.specs.declared.ids.View.{View}
use Rattle.qn_model.specs.declared.configuration.Settings.{Settings}
use Rattle.qn_model.specs.declared.times.Timing.{Timing}
use Rattle.qn_model.specs.Laws.{AreDisjoint}
use Rattle.qn_model.specs.Rules.{is_configured}
use Rattle.qn_safety.specs.declared.arbiter_event.ArbiterEvent.{ArbiterEvent}
use Rattle.qn_safety.specs.declared.arbiter_event.ArbiterEvent.TheVariants as beside
use Rattle.qn_safety.specs.declared.lease.Lease.{Lease}
use Rattle.qn_safety.specs.AnyNumbers.{is_ranked}
use Rattle.qn_safety.specs.ArbiterLaws.{IsQuorateIn, LeasesVote}
use Rattle.qn_safety.specs.ArbiterRules.{refusal_beside}
use Rattle.qn_safety.specs.ArbiterSteps.{run_beside}

-- a node that boots, and one that polls, is configured
unfoldable pub is_ranked_beside : Settings → ArbiterEvent → Bool
is_ranked_beside s (beside.One one) = is_ranked s one
is_ranked_beside s (beside.PassWith advance one) = is_ranked s one
is_ranked_beside s (beside.ArbiterBoot base) = true
is_ranked_beside s beside.ArbiterCrash = true
is_ranked_beside s (beside.Poll rank) = is_configured s rank.0
is_ranked_beside s (beside.Hear number) = true
is_ranked_beside s (beside.Reply number) = true

-- each of the events, of which the newest stands first, is allowed by the rules in its turn
unfoldable pub AllMayBeside : Settings → Timing → Lease → List ArbiterEvent → Type 0
AllMayBeside s t times [] = Unit {0}
AllMayBeside s t times (event ∷ earlier) =
    (is_ranked_beside s event ≡ true) × (refusal_beside s t event (run_beside s t times earlier) ≡ None) × AllMayBeside s t times earlier

-- no two running nodes with disjoint present views are both quorate after events that the rules allow, whatever their numbers
abbrev pub OneMayLease : Settings → Timing → Lease → Type 0
OneMayLease s t times =
    (events : List ArbiterEvent) (i j : ℕ) (left right : View)
    → AllMayBeside s t times events
    → ¬ (i ≡ j)
    → AreDisjoint left right
    → IsQuorateIn s i left (run_beside s t times events)
    → ¬ IsQuorateIn s j right (run_beside s t times events)
