-- What a call that steps the cluster promises.
use Rattle.std.specs.Prelude.{◌≡◌, ℕ, Bool, true, false, ◌∷◌, List, All, is_some, length, nat_lt}
use Rattle.qn_model.specs.declared.configuration.Settings.{Settings}
use Rattle.qn_model.specs.declared.entries.What.{What}
use Rattle.qn_model.specs.declared.outputs.Out.{Out}
use Rattle.qn_model.specs.declared.times.Timing.{Timing}
use Rattle.qn_base.specs.declared.ids.Rank.{Rank}
use Rattle.qn_model.specs.Log.{is_answer, op_out}
use Rattle.qn_model.specs.NodeOutputs.{newest_outs}
use Rattle.qn_model.specs.Moments.{Adds, Boots, Ends, Feeds, Moment, Passes, node, packets}
use Rattle.qn_model.specs.Rules.{may_pass}
use Rattle.qn_model.specs.World.{World}
use Rattle.qn_node.specs.Outputs.{IsNodeOutput}
use Rattle.qn_cluster.specs.Nodes.{Nodes}
use Rattle.qn_cluster.specs.Seats.{IsDue}
use Rattle.qn_cluster.specs.Standing.{ClusterFor}

-- settings, and the counts of steps and of nodes, stay
pub record SameFrame (old new : Nodes) : Type 0 where
  pub settings : new.settings ≡ old.settings
  pub steps : new.steps ≡ old.steps
  pub count : length new.seats ≡ length old.seats

-- more packets were sent after some moments than after others
abbrev pub grows : Settings → List Moment → List Moment → Bool
grows s earlier later = nat_lt (length (packets s earlier)) (length (packets s later))

-- a moment sends packets
abbrev pub sends_at : Settings → Moment → List Moment → Bool
sends_at s moment earlier = nat_lt (length (packets s earlier)) (length (packets s (moment ∷ earlier)))

-- what came out of the newest entry of a rank
abbrev pub outs_of : Settings → ℕ → List Moment → List Out
outs_of s rank moments = newest_outs (node s rank moments).log

-- a running node was handed an entry that is due, and gave these outputs; an operation that it had out is out as long as
-- the entry is no answer
pub record Handed (old new : Nodes) (rank : ℕ) (entry : What) (outs : List Out) : Type 0 where
  pub frame : SameFrame old new
  pub stands : (moments : List Moment) → ClusterFor old moments → (node old.settings rank moments).on ≡ true
      → IsDue (node old.settings rank moments) entry
      → ClusterFor new (Adds rank entry ∷ moments)
  pub gives : (moments : List Moment) → ClusterFor old moments → (node old.settings rank moments).on ≡ true
      → outs ≡ outs_of old.settings rank (Adds rank entry ∷ moments)
  pub ranks : (moments : List Moment) → ClusterFor old moments → (node old.settings rank moments).on ≡ true
      → All (IsNodeOutput old.settings) outs
  pub keeps : (moments : List Moment) → ClusterFor old moments → (node old.settings rank moments).on ≡ true
      → is_answer entry ≡ false → is_some (op_out (node old.settings rank moments).log) ≡ true
      → op_out (node old.settings rank (Adds rank entry ∷ moments)).log ≡ op_out (node old.settings rank moments).log

-- there was no memory for what a node sends
pub record Unhanded (old new : Nodes) (rank : ℕ) (entry : What) : Type 0 where
  pub same : new ≡ old
  pub cause : (moments : List Moment) → ClusterFor old moments → (node old.settings rank moments).on ≡ true
      → sends_at old.settings (Adds rank entry) moments ≡ true

-- a node booted, as a clean start or not, and gave these outputs
pub record Booted (old new : Nodes) (rank base : ℕ) (clean : Bool) (outs : List Out) : Type 0 where
  pub frame : SameFrame old new
  pub stands : (moments : List Moment) → ClusterFor old moments → ClusterFor new (Boots rank base clean ∷ moments)
  pub gives : (moments : List Moment) → ClusterFor old moments
      → outs ≡ outs_of old.settings rank (Boots rank base clean ∷ moments)
  pub ranks : All (IsNodeOutput old.settings) outs

-- a node is off
pub record Ended (old new : Nodes) (rank : ℕ) : Type 0 where
  pub frame : SameFrame old new
  pub stands : (moments : List Moment) → ClusterFor old moments → ClusterFor new (Ends rank ∷ moments)

-- a feed of a node took effect
pub record Fed (old new : Nodes) (rank : ℕ) : Type 0 where
  pub frame : SameFrame old new
  pub stands : (moments : List Moment) → ClusterFor old moments → ClusterFor new (Feeds rank ∷ moments)

-- rule 1 lets so much time pass
pub record IsPassable (c : Nodes) (dt : ℕ) (clocks : List (Rank × ℕ)) : Type 0 where
  pub timing : Timing
  pub world : World
  pub stands : ClusterFor c world.moments
  pub allowed : may_pass c.settings timing dt clocks world ≡ true

-- time passed
pub record Passed (old new : Nodes) (dt : ℕ) (clocks : List (Rank × ℕ)) : Type 0 where
  pub frame : SameFrame old new
  pub stands : (t : Timing) (w : World) → ClusterFor old w.moments → may_pass old.settings t dt clocks w ≡ true
      → ClusterFor new (Passes dt clocks ∷ w.moments)
