-- A schedule on two of three images in which two nodes hold, one after the other: the premises of the laws of three
-- images are met.
use Rattle.std.proofs.Common.{◌≡◌, ℕ, Bool, true, List, [], ◌∷◌, ◌++◌, refl, ◌&&◌}
use Rattle.std.specs.Prelude.{is_none}
use Rattle.qn_base.specs.declared.ids.Rank.{Rank}
use Rattle.qn_base.specs.declared.ids.View.{View}
use Rattle.qn_base.specs.lemmas.Numbers.{one_is_not_zero}
use Rattle.qn_model.specs.declared.configuration.Settings.{Settings}
use Rattle.qn_model.specs.declared.times.Timing.{Timing}
use Rattle.qn_model.specs.declared.events.Event.TheVariants as event
use Rattle.qn_model.specs.lemmas.Rules.{allowed_in_turn}
use Rattle.qn_model.specs.lemmas.WorldSteps.{world_steps}
use Rattle.qn_model.specs.lemmas.TwoNodes.{first, second, two_nodes, two_nodes_valid}
use Rattle.qn_model.specs.Timing.{usual_times}
use Rattle.qn_model.specs.Moments.{is_holder}
use Rattle.qn_safety.specs.declared.triple_event.TripleEvent.{TripleEvent}
use Rattle.qn_safety.specs.declared.triple_event.TripleEvent.TheVariants as triple
use Rattle.qn_safety.specs.TripleWorld.{answer_of}
use Rattle.qn_safety.specs.TripleRules.{is_well_formed_triple, refusal_triple}
use Rattle.qn_safety.specs.TripleSteps.{step_triple, run_triple, AllAllowedTriple}
use Rattle.qn_safety.specs.Earlier.{before_joined}
use Rattle.qn_safety.specs.TriplePremises.{OneAfterAnotherOnTwo}

abbrev sees : ℕ → View
sees members = record { id = 1; members = record { 0 = members } }

-- the operation that is out lands on two images, fails on the third, and is answered; newest event first
abbrev on_two : Rank → List TripleEvent
on_two rank =
    triple.One (event.Done rank) ∷ triple.FailOn rank 3 ∷ triple.LandOn rank 2 ∷ triple.LandOn rank 1 ∷ []

abbrev comes_up : Rank → List TripleEvent
comes_up rank = on_two rank ++ on_two rank ++ on_two rank ++ on_two rank ++ triple.One (event.Boot rank 0) ∷ []

-- the second node boots, sees itself alone, reads its mailbox and the slot of the first node, which is clean: it starts
abbrev start_alone : List TripleEvent
start_alone = on_two second ++ on_two second ++ triple.One (event.View second (sees 2)) ∷ comes_up second

-- so many milliseconds pass, and the first node reads its mailbox and is fed
abbrev reads_on : Rank → ℕ → List TripleEvent
reads_on rank dt =
    triple.One (event.Feed rank) ∷ on_two rank ++ triple.One (event.Tick rank) ∷ triple.One (event.Pass dt []) ∷ []

-- it crashes; the first node boots, sees itself alone, finds the other slot dirty, and writes a reset; it goes on
-- reading its mailbox and feeding its watchdog; 10000 ticks after the reset was written it starts
abbrev takes_over_after : List TripleEvent
takes_over_after =
    triple.One (event.Tick first) ∷ triple.One (event.Pass 2000 []) ∷ reads_on first 4000 ++ reads_on first 4000
    ++ on_two first ++ on_two first ++ on_two first ++ triple.One (event.View first (sees 1)) ∷ comes_up first
    ++ triple.One (event.Crash second) ∷ []

abbrev takes_over : List TripleEvent
takes_over = takes_over_after ++ start_alone

start_alone_holds : is_holder two_nodes (run_triple two_nodes usual_times start_alone).moments 1 ≡ true
unfolding world_steps answer_of is_well_formed_triple refusal_triple step_triple run_triple
start_alone_holds = refl

takes_over_holds : is_holder two_nodes (run_triple two_nodes usual_times takes_over).moments 0 ≡ true
unfolding world_steps answer_of is_well_formed_triple refusal_triple step_triple run_triple
takes_over_holds = refl

-- the test of allowed events
unfoldable all_allowed : Settings → Timing → List TripleEvent → Bool
all_allowed s t [] = true
all_allowed s t (event ∷ earlier) =
    is_well_formed_triple s event && is_none (refusal_triple s t event (run_triple s t earlier))
    && all_allowed s t earlier

all_are_allowed : (s : Settings) (t : Timing) (events : List TripleEvent) → all_allowed s t events ≡ true
    → AllAllowedTriple s t events
unfolding all_allowed AllAllowedTriple
all_are_allowed s t [] passed = tt
all_are_allowed s t (event ∷ earlier) passed =
    let refused = refusal_triple s t event (run_triple s t earlier) in
    let parts = allowed_in_turn (is_well_formed_triple s event) refused (all_allowed s t earlier) passed in
    (parts.0, parts.1, all_are_allowed s t earlier parts.2)

takes_over_passes : all_allowed two_nodes usual_times takes_over ≡ true
unfolding world_steps answer_of is_well_formed_triple refusal_triple step_triple run_triple all_allowed
takes_over_passes = refl

pub one_after_another_on_two : OneAfterAnotherOnTwo
one_after_another_on_two = record {
  settings = two_nodes;
  timing = usual_times;
  image = 3;
  earlier = start_alone;
  events = takes_over;
  first_holder = 1;
  second_holder = 0;
  valid = two_nodes_valid;
  safe = refl;
  one_of_three = refl;
  lost = refl;
  allowed = all_are_allowed two_nodes usual_times takes_over takes_over_passes;
  order = before_joined takes_over_after start_alone;
  first_holds = start_alone_holds;
  second_holds = takes_over_holds;
  differ = one_is_not_zero;
}
