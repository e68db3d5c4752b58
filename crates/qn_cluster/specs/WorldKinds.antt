-- A kind of world: what the world of one image and that of three have in common. This project's profile.
use Rattle.std.specs.Prelude.{◌≡◌, ℕ, Bool, true, List, [], ◌∷◌, Option, None}
use Rattle.qn_cluster.specs.Nodes.{Nodes}
use Rattle.qn_cluster.specs.Standing.{ClusterFor}
use Rattle.qn_model.specs.declared.configuration.Settings.{Settings}
use Rattle.qn_model.specs.declared.events.Event.{Event as NodeEvent}
use Rattle.qn_model.specs.declared.times.Timing.{Timing}
use Rattle.qn_model.specs.Timing.{is_safe}
use Rattle.qn_model.specs.World.{World as NodeWorld}

-- What the code keeps of a world of the definitions, and what it stands for; what such a world and an event are to the nodes
-- alone; the first world; the events that are well formed, the rule that refuses one, its step, and whether the step wants memory; the
-- world after events, of which the newest stands first, and that each of them is allowed in its turn.
pub record WorldKind (Kept World Event : Type 0) : Type 1 where
  pub nodes : Kept → Nodes
  pub timing : Kept → Timing
  pub with_steps : Kept → ℕ → Kept
  pub StandsFor : Kept → World → Type 0
  pub nodes_of : World → NodeWorld
  pub as_one : Event → NodeEvent
  pub first : World
  pub is_well_formed : Settings → Event → Bool
  pub refusal : Settings → Timing → Event → World → Option ℕ
  pub step : Settings → Timing → Event → World → World
  pub needs_memory : Settings → Timing → Event → World → Bool
  pub run : Settings → Timing → List Event → World
  pub AllAllowed : Settings → Timing → List Event → Type 0

-- The laws of a kind of world: its timing is safe and its nodes stand for the moments; another count of steps changes nothing
-- else; and how a run and its rules begin and go on.
pub record IsLawful {Kept World Event : Type 0} (kind : WorldKind Kept World Event) : Type 0 where
  pub safe : (k : Kept) (d : World) → kind.StandsFor k d → is_safe (kind.timing k) ≡ true
  pub cluster : (k : Kept) (d : World) → kind.StandsFor k d → ClusterFor (kind.nodes k) (kind.nodes_of d).moments
  pub counted : (k : Kept) (n : ℕ) → kind.nodes (kind.with_steps k n) ≡ record (kind.nodes k) { steps = n }
  pub timed : (k : Kept) (n : ℕ) → kind.timing (kind.with_steps k n) ≡ kind.timing k
  pub restored : (k : Kept) (n : ℕ) → kind.with_steps (kind.with_steps k n) (kind.nodes k).steps ≡ k
  pub stands : (k : Kept) (n : ℕ) (d : World)
      → kind.StandsFor k d
      → ClusterFor (record (kind.nodes k) { steps = n }) (kind.nodes_of d).moments
      → kind.StandsFor (kind.with_steps k n) d
  pub begins : (s : Settings) (t : Timing) → kind.run s t [] ≡ kind.first
  pub none_allowed : (s : Settings) (t : Timing) → kind.AllAllowed s t []
  pub one_allowed : (s : Settings) (t : Timing) (event : Event) (earlier : List Event)
      → kind.is_well_formed s event ≡ true
      → kind.refusal s t event (kind.run s t earlier) ≡ None
      → kind.AllAllowed s t earlier
      → kind.AllAllowed s t (event ∷ earlier)
  pub one_more : (s : Settings) (t : Timing) (event : Event) (earlier : List Event)
      → kind.run s t (event ∷ earlier) ≡ kind.step s t event (kind.run s t earlier)
