-- A schedule in which two nodes hold, one after the other: the premises of the safety laws are met.
use Rattle.std.proofs.Common.{◌≡◌, ℕ, Bool, true, ◌&&◌, List, [], ◌∷◌, ◌++◌, refl}
use Rattle.std.specs.Prelude.{is_none}
use Rattle.qn_base.specs.declared.ids.Rank.{Rank}
use Rattle.qn_base.specs.declared.ids.View.{View}
use Rattle.qn_base.specs.lemmas.Numbers.{one_is_not_zero}
use Rattle.qn_model.specs.declared.configuration.Settings.{Settings}
use Rattle.qn_model.specs.declared.events.Event.{Event}
use Rattle.qn_model.specs.declared.events.Event.TheVariants as event
use Rattle.qn_model.specs.declared.times.Timing.{Timing}
use Rattle.qn_model.specs.lemmas.Rules.{allowed_in_turn}
use Rattle.qn_model.specs.lemmas.WorldSteps.{world_steps}
use Rattle.qn_model.specs.lemmas.TwoNodes.{first, second, two_nodes, two_nodes_valid}
use Rattle.qn_model.specs.Timing.{usual_times}
use Rattle.qn_model.specs.Moments.{is_holder}
use Rattle.qn_model.specs.Rules.{is_well_formed, refusal}
use Rattle.qn_model.specs.Steps.{run, AllAllowed}
use Rattle.qn_safety.specs.Earlier.{before_joined}
use Rattle.qn_safety.specs.Premises.{OneAfterAnother}

abbrev sees : ℕ → View
sees members = record { id = 1; members = record { 0 = members } }

-- the operation that is out lands, and is answered; the newest event stands first
abbrev done : Rank → List Event
done rank = event.Done rank ∷ event.Land rank ∷ []

abbrev comes_up : Rank → List Event
comes_up rank = done rank ++ done rank ++ done rank ++ done rank ++ event.Boot rank 0 ∷ []

-- the second node boots, sees itself alone, reads its mailbox and the slot of the first node, which is clean: it starts
abbrev start_alone : List Event
start_alone = done second ++ done second ++ event.View second (sees 2) ∷ comes_up second

-- so many milliseconds pass, and a node reads its mailbox and is fed
abbrev reads_on : Rank → ℕ → List Event
reads_on rank dt = event.Feed rank ∷ done rank ++ event.Tick rank ∷ event.Pass dt [] ∷ []

-- it crashes; the first node boots, sees itself alone, finds the other slot dirty, and writes a reset; it goes on
-- reading its mailbox and feeding its watchdog; 10000 ticks after the reset was written it starts
abbrev takes_over_after : List Event
takes_over_after =
    event.Tick first ∷ event.Pass 2000 [] ∷ reads_on first 4000 ++ reads_on first 4000
    ++ done first ++ done first ++ done first ++ event.View first (sees 1) ∷ comes_up first
    ++ event.Crash second ∷ []

abbrev takes_over : List Event
takes_over = takes_over_after ++ start_alone

start_alone_holds : is_holder two_nodes (run two_nodes usual_times start_alone).moments 1 ≡ true
unfolding world_steps run AllAllowed
start_alone_holds = refl

takes_over_holds : is_holder two_nodes (run two_nodes usual_times takes_over).moments 0 ≡ true
unfolding world_steps run AllAllowed
takes_over_holds = refl

-- the test of allowed events
unfoldable all_allowed : Settings → Timing → List Event → Bool
all_allowed s t [] = true
all_allowed s t (event ∷ earlier) =
    is_well_formed s event && is_none (refusal s t event (run s t earlier)) && all_allowed s t earlier

all_are_allowed : (s : Settings) (t : Timing) (events : List Event) → all_allowed s t events ≡ true
    → AllAllowed s t events
unfolding all_allowed AllAllowed
all_are_allowed s t [] passed = tt
all_are_allowed s t (event ∷ earlier) passed =
    let parts =
    allowed_in_turn (is_well_formed s event) (refusal s t event (run s t earlier)) (all_allowed s t earlier) passed in
    (parts.0, parts.1, all_are_allowed s t earlier parts.2)

takes_over_passes : all_allowed two_nodes usual_times takes_over ≡ true
unfolding world_steps run all_allowed
takes_over_passes = refl

pub one_after_another : OneAfterAnother
one_after_another = record {
  settings = two_nodes;
  timing = usual_times;
  earlier = start_alone;
  events = takes_over;
  first_holder = 1;
  second_holder = 0;
  valid = two_nodes_valid;
  safe = refl;
  allowed = all_are_allowed two_nodes usual_times takes_over takes_over_passes;
  order = before_joined takes_over_after start_alone;
  first_holds = start_alone_holds;
  second_holds = takes_over_holds;
  differ = one_is_not_zero;
}
