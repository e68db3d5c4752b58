-- What the seat of a node stands for.
use Rattle.std.specs.Prelude.{◌≡◌, ◌≤◌, ◌+◌, ℕ, Bool, true, false, All, List, None, if◌then◌else◌}
use Rattle.qn_model.specs.declared.configuration.Settings.{Settings}
use Rattle.qn_model.specs.declared.entries.What.{What}
use Rattle.qn_model.specs.Log.{is_answer, now, op_out}
use Rattle.qn_model.specs.Fitting.{answers_op}
use Rattle.qn_model.specs.Holding.{holds, stop_due}
use Rattle.qn_model.specs.Moments.{Running, begin_of, booted, handed, tick_of}
use Rattle.qn_model.specs.declared.outputs.Out.{Out}
use Rattle.qn_model.specs.NodeOutputs.{newest_outs}
use Rattle.qn_node.specs.Node.{NodeFor, steps_of}
use Rattle.qn_node.specs.Outputs.{IsNodeOutput}
use Rattle.qn_cluster.specs.Outputs.{op_with}
use Rattle.qn_cluster.specs.declared.seat.Seat.{Seat}

-- the seat of a running node stands for it
pub record RunsFor (seat : Seat) (s : Settings) (me : ℕ) (node : Running) : Type 0 where
  pub stands : NodeFor seat.node s me node.log
  pub clocks : seat.clock ≡ node.clock
  pub feeds : seat.fed ≡ node.fed
  pub decisions : seat.decided ≡ node.decided
  pub ops : seat.op ≡ op_out node.log
  pub stops : seat.stop_due ≡ stop_due node.log
  pub ticks : now node.log ≤ tick_of node.clock
  pub holds : seat.held ≡ holds node.log

-- a seat stands for a node, running or off
pub record SeatFor (seat : Seat) (s : Settings) (me : ℕ) (node : Running) : Type 0 where
  pub runs : seat.on ≡ node.on
  pub running : node.on ≡ true → RunsFor seat s me node

-- an entry that is an answer answers the operation that is out
abbrev pub IsDue : Running → What → Type 0
IsDue node what = is_answer what ≡ true → answers_op (op_out node.log) what ≡ true

-- a running node was handed an entry that is due, and gave these outputs: its seat before and after
pub record HandedSeat (old new : Seat) (time : ℕ) (entry : What) (outs : List Out) : Type 0 where
  pub room : steps_of new.node + 1 ≡ steps_of old.node
  pub op : new.op ≡ op_with entry outs old.op
  pub stands : (s : Settings) (me : ℕ) (node : Running) → SeatFor old s me node → node.on ≡ true → IsDue node entry
      → SeatFor new s me (handed s me time entry node)
  pub gives : (s : Settings) (me : ℕ) (node : Running) → SeatFor old s me node → node.on ≡ true
      → outs ≡ newest_outs (handed s me time entry node).log
  pub ranks : (s : Settings) (me : ℕ) (node : Running) → SeatFor old s me node → node.on ≡ true → All (IsNodeOutput s) outs

-- a seat after a pass in which its clock advances so far
abbrev pub advanced_seat : ℕ → Seat → Seat
advanced_seat advance seat = record seat { clock = (if seat.on then seat.clock + advance else seat.clock) }

-- a node booted, as a clean start or not, and gave these outputs
pub record BootedSeat (new : Seat) (s : Settings) (me : ℕ) (time base : ℕ) (clean : Bool) (outs : List Out) : Type 0 where
  pub room : steps_of new.node + 1 ≡ 18446744073709551615
  pub op : new.op ≡ op_with (begin_of clean) outs None
  pub stands : (node : Running) → SeatFor new s me (booted s me time base clean node)
  pub gives : (node : Running) → outs ≡ newest_outs (booted s me time base clean node).log
  pub ranks : All (IsNodeOutput s) outs

-- the seat of a node that never ran
pub record IsFresh (seat : Seat) : Type 0 where
  pub off : seat.on ≡ false
  pub no_op : seat.op ≡ None
  pub room : steps_of seat.node ≡ 18446744073709551615
