-- A world that is not the one of the law of one lease: the arbiter's clock may be 2 per cent
-- fast. This project's profile.
use Rattle.std.specs.Prelude.{◌≡◌, ℕ, Bool, true, false, List, [], ◌∷◌, ◌*◌, ◌&&◌, IsTrue, is_none, nat_le}
use Rattle.qn_base.specs.declared.ids.View.{View}
use Rattle.qn_model.specs.declared.configuration.Settings.{Settings}
use Rattle.qn_model.specs.declared.events.Event.{Event}
use Rattle.qn_model.specs.declared.times.Timing.{Timing}
use Rattle.qn_model.specs.Laws.{AreDisjoint}
use Rattle.qn_model.specs.Rules.{refusal}
use Rattle.qn_model.specs.Timing.{is_safe}
use Rattle.std.specs.Option.{option_map_or}
use Rattle.qn_safety.specs.declared.arbiter_event.ArbiterEvent.{ArbiterEvent}
use Rattle.qn_safety.specs.declared.arbiter_event.ArbiterEvent.TheVariants as beside
use Rattle.qn_safety.specs.declared.lease.Lease.{Lease}
use Rattle.qn_safety.specs.ArbiterLaws.{IsQuorateIn, LeasesVote}
use Rattle.qn_safety.specs.ArbiterRules.{is_arbiter_on, is_well_formed_beside, pass_of, refusal_beside}
use Rattle.qn_safety.specs.ArbiterSteps.{run_beside}
use Rattle.qn_safety.specs.ArbiterWorld.{ArbiterWorld}

-- an event is allowed where the clock of a running arbiter may advance by 99 to 102 in 100 of a
-- pass: all other rules stand
abbrev pub may_pass_faster : Settings → Timing → ℕ → Event → ArbiterWorld → Bool
may_pass_faster s t advance one w =
    option_map_or (λ dt. is_arbiter_on w && nat_le (99 * dt) advance && nat_le advance (102 * dt)) (pass_of one) false
    && is_none (refusal s t one w.world)

abbrev pub is_allowed_faster : Settings → Timing → ArbiterEvent → ArbiterWorld → Bool
is_allowed_faster s t (beside.PassWith advance one) w = may_pass_faster s t advance one w
is_allowed_faster s t (beside.One one) w = is_none (refusal_beside s t (beside.One one) w)
is_allowed_faster s t (beside.ArbiterBoot base) w = is_none (refusal_beside s t (beside.ArbiterBoot base) w)
is_allowed_faster s t beside.ArbiterCrash w = is_none (refusal_beside s t beside.ArbiterCrash w)
is_allowed_faster s t (beside.Poll rank) w = is_none (refusal_beside s t (beside.Poll rank) w)
is_allowed_faster s t (beside.Hear number) w = is_none (refusal_beside s t (beside.Hear number) w)
is_allowed_faster s t (beside.Reply number) w = is_none (refusal_beside s t (beside.Reply number) w)

-- each of the events, of which the newest stands first, is well formed and so allowed in its turn
unfoldable pub are_allowed_faster : Settings → Timing → Lease → List ArbiterEvent → Bool
are_allowed_faster s t times [] = true
are_allowed_faster s t times (event ∷ earlier) =
    is_well_formed_beside s event && is_allowed_faster s t event (run_beside s t times earlier) && are_allowed_faster s t times earlier

-- settings, safe timing, a safe lease and events that are so allowed, after which two running nodes
-- with disjoint present views are both quorate
pub record BrokenByFasterClock : Type 0 where
  pub settings : Settings
  pub timing : Timing
  pub times : Lease
  pub events : List ArbiterEvent
  pub first : ℕ
  pub second : ℕ
  pub left : View
  pub right : View
  pub leases : LeasesVote settings times
  pub safe : IsTrue (is_safe timing)
  pub allowed : IsTrue (are_allowed_faster settings timing times events)
  pub differ : ¬ (first ≡ second)
  pub apart : AreDisjoint left right
  pub first_quorate : IsQuorateIn settings first left (run_beside settings timing times events)
  pub second_quorate : IsQuorateIn settings second right (run_beside settings timing times events)
