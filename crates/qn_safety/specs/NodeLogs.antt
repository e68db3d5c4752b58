-- What holds of the log of each node of a world: this project's profile.
use Rattle.std.specs.Prelude.{◌≡◌, ◌<◌, ℕ, Bool, true, false, List, [], ◌∷◌, Some, None, ◌^◌, length, unwrap_or}
use Rattle.qn_model.specs.declared.configuration.Settings.{Settings}
use Rattle.qn_model.specs.declared.times.Timing.{Timing}
use Rattle.qn_model.specs.declared.events.Event.{Event}
use Rattle.qn_model.specs.declared.outputs.DiskOp.{DiskOp}
use Rattle.qn_model.specs.declared.outputs.DiskOp.TheVariants as disk
use Rattle.qn_model.specs.declared.outputs.Out.{Out}
use Rattle.qn_model.specs.declared.outputs.Out.TheVariants as out
use Rattle.qn_model.specs.Holding.{holds}
use Rattle.qn_model.specs.Log.{Line, disk_of, incarnation, is_answer, op_out}
use Rattle.qn_model.specs.Moments.{is_gone}
use Rattle.qn_model.specs.NodeOutputs.{newest_outs}
use Rattle.qn_model.specs.Phases.{phase}
use Rattle.qn_model.specs.Steps.{run}
use Rattle.qn_model.specs.World.{node_at}
use Rattle.qn_safety.specs.AnyNumbers.{AllMay}

-- an operation is one of the cluster: its rank is configured, and its number fits a slot
abbrev pub IsOperation : Settings → DiskOp → Type 0
IsOperation s disk.ReadHeader = Unit {0}
IsOperation s (disk.ReadSlot other) = other.0 < length s.nodes
IsOperation s disk.CheckMail = Unit {0}
IsOperation s (disk.WriteClaim number) = number < 2 ^ 64
IsOperation s disk.WriteClear = Unit {0}
IsOperation s disk.ReadMail = Unit {0}
IsOperation s (disk.WriteReset other) = other.0 < length s.nodes
IsOperation s (disk.WriteClose number) = number < 2 ^ 64

-- the operation of the disk, where there is one, is the last output
abbrev pub is_disk_last : List Out → Bool
is_disk_last [] = true
is_disk_last (out.Disk op ∷ []) = true
is_disk_last (out.Disk op ∷ o ∷ outs) = false
is_disk_last (o ∷ outs) = is_disk_last outs

-- the output ends a run: a disarm, or a halt
abbrev pub is_end : Out → Bool
is_end out.Disarm = true
is_end (out.Halt kind) = true
is_end out.Stop = false
is_end out.Start = false
is_end out.Feed = false
is_end (out.Send to packet) = false
is_end (out.Disk op) = false

-- The operation of the disk is the last output of an entry. An entry after which the node is gone gave one output alone, which
-- ends the run; no operation is out then, and nothing is held. An operation stays out until its answer, and no other one comes
-- before; its rank is configured, and its number and that of the incarnation fit a slot.
pub record IsNodeLog (s : Settings) (log : List Line) : Type 0 where
  pub last : is_disk_last (newest_outs log) ≡ true
  pub ends : is_gone (phase s log) ≡ true → (o : Out) × (newest_outs log ≡ o ∷ []) × (is_end o ≡ true)
  pub rests : is_gone (phase s log) ≡ true → holds log ≡ false
  pub silent : is_gone (phase s log) ≡ true → op_out log ≡ None
  pub kept : (line : Line) (past : List Line) (op : DiskOp)
      → log ≡ line ∷ past
      → is_answer line.what ≡ false
      → op_out past ≡ Some op
      → (op_out log ≡ Some op) × (disk_of line.outs ≡ None)
  pub fits : (op : DiskOp) → op_out log ≡ Some op → IsOperation s op
  pub number : unwrap_or (incarnation log) 0 < 2 ^ 64

-- the log of each configured node is such a log, in the world after any events that the rules allow
abbrev pub LogsHold : Settings → Timing → Type 0
LogsHold s t =
    (events : List Event) (rank : ℕ)
    → AllMay s t events
    → rank < length s.nodes
    → IsNodeLog s (node_at s rank (run s t events)).log
