-- The events that the nodes of a cluster make without a disk.
use Rattle.std.specs.Prelude.{◌≡◌, ◌≤◌, ℕ, Bool, true, false, List, None, All, is_some}
use Rattle.qn_base.specs.declared.limits.TheConstants.{LATEST_TIME}
use Rattle.qn_cluster.specs.Nodes.{Nodes}
use Rattle.qn_cluster.specs.Standing.{ClusterFor, HasRoom}
use Rattle.qn_cluster.specs.Stepping.{SameFrame, grows}
use Rattle.qn_model.specs.declared.events.Event.{Event}
use Rattle.qn_model.specs.declared.configuration.Settings.{Settings}
use Rattle.qn_model.specs.declared.events.Event.TheVariants as event
use Rattle.qn_model.specs.declared.outputs.Out.{Out}
use Rattle.qn_model.specs.declared.times.Timing.{Timing}
use Rattle.qn_model.specs.Rules.{is_on, is_well_formed, refusal}
use Rattle.qn_model.specs.Steps.{outs_after, step}
use Rattle.qn_model.specs.World.{World, op_at}
use Rattle.qn_node.specs.Outputs.{IsNodeOutput}

-- an event changes nodes alone
abbrev pub is_of_nodes : Event → Bool
is_of_nodes (event.Pass dt clocks) = true
is_of_nodes (event.View rank view) = true
is_of_nodes (event.Deliver rank number) = true
is_of_nodes (event.Device rank agrees) = true
is_of_nodes (event.Tick rank) = true
is_of_nodes (event.Stopped rank) = true
is_of_nodes (event.Unstopped rank) = true
is_of_nodes (event.Leave rank) = true
is_of_nodes (event.Feed rank) = true
is_of_nodes (event.Boot rank base) = false
is_of_nodes (event.BootClean rank base) = false
is_of_nodes (event.Crash rank) = false
is_of_nodes (event.Land rank) = false
is_of_nodes (event.Done rank) = false
is_of_nodes (event.Fail rank) = false
is_of_nodes (event.Late rank number) = false
is_of_nodes (event.Operator rank message) = false

-- the rule of an event looks at nodes alone
abbrev pub is_ruled_by_nodes : Event → Bool
is_ruled_by_nodes (event.Pass dt clocks) = true
is_ruled_by_nodes (event.Boot rank base) = true
is_ruled_by_nodes (event.BootClean rank base) = true
is_ruled_by_nodes (event.Crash rank) = true
is_ruled_by_nodes (event.View rank view) = true
is_ruled_by_nodes (event.Deliver rank number) = true
is_ruled_by_nodes (event.Device rank agrees) = true
is_ruled_by_nodes (event.Tick rank) = true
is_ruled_by_nodes (event.Stopped rank) = true
is_ruled_by_nodes (event.Unstopped rank) = true
is_ruled_by_nodes (event.Leave rank) = true
is_ruled_by_nodes (event.Feed rank) = true
is_ruled_by_nodes (event.Land rank) = false
is_ruled_by_nodes (event.Done rank) = false
is_ruled_by_nodes (event.Fail rank) = false
is_ruled_by_nodes (event.Late rank number) = false
is_ruled_by_nodes (event.Operator rank message) = false

-- the cluster can make the step of an event that changes nodes alone
pub record CanStep (c : Nodes) (event : Event) : Type 0 where
  pub nodes : is_of_nodes event ≡ true
  pub formed : is_well_formed c.settings event ≡ true
  pub room : HasRoom c
  pub early : c.time ≤ LATEST_TIME
  pub timing : Timing
  pub world : World
  pub stands : ClusterFor c world.moments
  pub allowed : refusal c.settings timing event world ≡ None

-- each node that runs afterwards ran before, and an operation that it had out is out still
pub record KeepsOut (s : Settings) (before after : World) : Type 0 where
  pub ran : (rank : ℕ) → is_on s rank after ≡ true → is_on s rank before ≡ true
  pub same : (rank : ℕ) → is_on s rank before ≡ true → is_some (op_at s rank before) ≡ true
      → op_at s rank after ≡ op_at s rank before

-- the cluster made the step of an event, which gave these outputs
pub record Stepped (old new : Nodes) (event : Event) (outs : List Out) : Type 0 where
  pub frame : SameFrame old new
  pub stands : (t : Timing) (d : World) → ClusterFor old d.moments → refusal old.settings t event d ≡ None
      → ClusterFor new (step old.settings t event d).moments
  pub gives : (t : Timing) (d : World) → ClusterFor old d.moments → refusal old.settings t event d ≡ None
      → outs ≡ outs_after old.settings event (step old.settings t event d)
  pub ranks : (t : Timing) (d : World) → ClusterFor old d.moments → refusal old.settings t event d ≡ None
      → All (IsNodeOutput old.settings) outs
  pub keeps : (t : Timing) (d : World) → ClusterFor old d.moments → refusal old.settings t event d ≡ None
      → KeepsOut old.settings d (step old.settings t event d)

-- there was no memory for what a node sends at an event
pub record Starved (old new : Nodes) (event : Event) : Type 0 where
  pub same : new ≡ old
  pub cause : (t : Timing) (d : World) → ClusterFor old d.moments → refusal old.settings t event d ≡ None
      → grows old.settings d.moments (step old.settings t event d).moments ≡ true
