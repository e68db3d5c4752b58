-- What a cluster of the code stands for: the nodes of the definitions after some moments.
use Rattle.std.specs.Prelude.{◌≡◌, ◌≤◌, ◌<◌, ◌+◌, ◌*◌, ℕ, true, List, Option, Some, None, All, length, slice_get}
use Rattle.qn_model.specs.declared.outputs.DiskOp.{DiskOp}
use Rattle.qn_model.specs.declared.outputs.DiskOp.TheVariants as disk
use Rattle.qn_model.specs.Settings.{IsValid}
use Rattle.qn_model.specs.Moments.{Moment, node, packets, time}
use Rattle.qn_node.specs.Node.{steps_of}
use Rattle.qn_cluster.specs.declared.seat.Seat.{Seat}
use Rattle.qn_cluster.specs.Nodes.{Nodes}
use Rattle.qn_cluster.specs.Seats.{SeatFor}

-- the other node that an operation is about has a rank below this number
abbrev pub IsWithin : ℕ → DiskOp → Type 0
IsWithin count (disk.ReadSlot rank) = rank.0 < count
IsWithin count (disk.WriteReset rank) = rank.0 < count
IsWithin count disk.ReadHeader = Unit {0}
IsWithin count disk.CheckMail = Unit {0}
IsWithin count (disk.WriteClaim number) = Unit {0}
IsWithin count disk.WriteClear = Unit {0}
IsWithin count disk.ReadMail = Unit {0}
IsWithin count (disk.WriteClose number) = Unit {0}

abbrev pub IsOpWithin : ℕ → Option DiskOp → Type 0
IsOpWithin count None = Unit {0}
IsOpWithin count (Some op) = IsWithin count op

-- a clock began at 1000000000000000 or less, and advanced by 101 a millisecond or less
abbrev pub latest_clock : ℕ → ℕ
latest_clock time = 1000000000000000 + 101 * time

-- The cluster stands for the nodes after these moments, part by part; and its own numbers fit.
pub record ClusterFor (c : Nodes) (moments : List Moment) : Type 0 where
  pub valid : IsValid c.settings
  pub count : length c.seats ≡ length c.settings.nodes
  pub times : c.time ≡ time moments
  pub nodes : (rank : ℕ) (seat : Seat) → slice_get c.seats rank ≡ Some seat
      → SeatFor seat c.settings rank (node c.settings rank moments)
  pub sent : c.packets ≡ packets c.settings moments
  pub clocks : (rank : ℕ) → rank < length c.settings.nodes → (node c.settings rank moments).on ≡ true
      → (node c.settings rank moments).clock ≤ latest_clock (time moments)
  pub receivers : All (λ sent. sent.to.0 < length c.settings.nodes) c.packets
  pub targets : (rank : ℕ) (seat : Seat) → slice_get c.seats rank ≡ Some seat
      → IsOpWithin (length c.settings.nodes) seat.op
  pub rooms : (rank : ℕ) (seat : Seat) → slice_get c.seats rank ≡ Some seat → c.steps ≤ steps_of seat.node

-- each node has a step left when the cluster has none any more
abbrev pub HasRoom : Nodes → Type 0
HasRoom c = (rank : ℕ) (seat : Seat) → slice_get c.seats rank ≡ Some seat → c.steps < steps_of seat.node

-- the cluster stands for the nodes after some moments
abbrev pub IsStanding : Nodes → Type 0
IsStanding c = (moments : List Moment) × ClusterFor c moments
