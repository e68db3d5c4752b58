-- Events of three images that the rules allow, whatever their numbers, and what holds of each node then: this project's profile.
use Rattle.std.specs.Prelude.{◌≡◌, ◌<◌, ℕ, Bool, true, false, ◌==◌, ◌&&◌, ◌||◌, List, [], ◌∷◌, None, Some, length}
use Rattle.qn_base.specs.declared.ids.Rank.{Rank}
use Rattle.qn_model.specs.declared.configuration.Settings.{Settings}
use Rattle.qn_model.specs.declared.times.Timing.{Timing}
use Rattle.qn_model.specs.declared.outputs.DiskOp.TheVariants as disk
use Rattle.qn_model.specs.Moments.{is_holder, node}
use Rattle.qn_safety.specs.declared.triple_event.TripleEvent.{TripleEvent}
use Rattle.qn_safety.specs.declared.triple_event.TripleEvent.TheVariants as triple
use Rattle.qn_safety.specs.AnyNumbers.{is_ranked}
use Rattle.qn_safety.specs.NodeLogs.{IsNodeLog}
use Rattle.qn_safety.specs.TripleRules.{refusal_triple}
use Rattle.qn_safety.specs.TripleSteps.{run_triple}
use Rattle.qn_safety.specs.TripleWorld.{TripleWorld, op_of}

-- a node that boots is configured
abbrev pub is_ranked_triple : Settings → TripleEvent → Bool
is_ranked_triple s (triple.One event) = is_ranked s event
is_ranked_triple s (triple.LandOn rank image) = true
is_ranked_triple s (triple.FailOn rank image) = true
is_ranked_triple s (triple.LateOn rank image number) = true
is_ranked_triple s (triple.OperatorOn rank image message) = true

-- each of the events, of which the newest stands first, is allowed by the rules in its turn
unfoldable pub AllMayTriple : Settings → Timing → List TripleEvent → Type 0
AllMayTriple s t [] = Unit {0}
AllMayTriple s t (event ∷ earlier) =
    (is_ranked_triple s event ≡ true) × (refusal_triple s t event (run_triple s t earlier) ≡ None) × AllMayTriple s t earlier

-- at most one node holds after events that the rules allow, whatever their numbers
abbrev pub OneMayHoldTriple : Settings → Timing → Type 0
OneMayHoldTriple s t =
    (events : List TripleEvent) (i j : ℕ)
    → AllMayTriple s t events
    → is_holder s (run_triple s t events).moments i ≡ true
    → is_holder s (run_triple s t events).moments j ≡ true
    → i ≡ j

-- two of the three images at least
abbrev pub is_two : (ℕ → Bool) → Bool
is_two on = on 1 && on 2 || on 1 && on 3 || on 2 && on 3

-- the log of a node is one that a world makes; while it runs two of its images at least are good, and all of them where it
-- checks its mailbox for a clean start; it resets no node but another
pub record IsTripleNode (s : Settings) (rank : ℕ) (w : TripleWorld) : Type 0 where
  pub log : IsNodeLog s (node s rank w.moments).log
  pub good : (node s rank w.moments).on ≡ true → is_two (w.good rank) ≡ true
  pub checks : (node s rank w.moments).on ≡ true
      → op_of s rank w ≡ Some disk.CheckMail
      → (image : ℕ) → w.good rank image ≡ true
  pub others : (other : Rank) → op_of s rank w ≡ Some (disk.WriteReset other) → (other.0 == rank) ≡ false

-- each configured node is such a node, in the world after any events that the rules allow
abbrev pub TripleNodesHold : Settings → Timing → Type 0
TripleNodesHold s t =
    (events : List TripleEvent) (rank : ℕ)
    → AllMayTriple s t events
    → rank < length s.nodes
    → IsTripleNode s rank (run_triple s t events)
