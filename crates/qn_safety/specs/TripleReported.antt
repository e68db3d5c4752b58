-- The second clause of `law_triple_no_two_holders`, as one word: after any allowed events of three images at most one holder is
-- reported. How a crate above cites it stands at the head of `specs/Reported`.
use Rattle.std.specs.Prelude.{◌≡◌, ℕ, List, IsTrue}
use Rattle.qn_base.specs.Members.{is_member}
use Rattle.qn_model.specs.declared.configuration.Settings.{Settings}
use Rattle.qn_model.specs.declared.times.Timing.{Timing}
use Rattle.qn_model.specs.Steps.{holders}
use Rattle.qn_model.specs.Timing.{is_safe}
use Rattle.qn_safety.specs.declared.triple_event.TripleEvent.{TripleEvent}
use Rattle.qn_safety.specs.TripleSteps.{AllAllowedTriple, run_triple}
use Rattle.qn_safety.specs.TripleWorld.{nodes_of}

-- two ranks that are both reported as holders after allowed events are one
abbrev pub OneTripleReported : Type 0
OneTripleReported =
    (s : Settings) (t : Timing) (events : List TripleEvent) (i j : ℕ)
    → IsTrue (is_safe t)
    → AllAllowedTriple s t events
    → IsTrue (is_member (holders s (nodes_of (run_triple s t events))) i)
    → IsTrue (is_member (holders s (nodes_of (run_triple s t events))) j)
    → i ≡ j
