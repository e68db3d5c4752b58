-- Whether a node has asked for the end of its present boot, and whether that write landed.
use Rattle.std.specs.Prelude.{ℕ, Bool, true, false, List, [], ◌∷◌, Option, Some, ◌||◌, ◌&&◌, is_some}
use Rattle.qn_model.specs.declared.configuration.Settings.{Settings}
use Rattle.qn_model.specs.declared.outputs.DiskOp.{DiskOp}
use Rattle.qn_model.specs.declared.outputs.DiskOp.TheVariants as disk
use Rattle.qn_model.specs.Log.{Line, disk_of}
use Rattle.qn_model.specs.World.{World, op_at}

abbrev pub is_close : Option DiskOp → Bool
is_close (Some (disk.WriteClose number)) = true
is_close op = false

-- the write that marks the own slot as clean was asked for
unfoldable pub asked_close : List Line → Bool
asked_close [] = false
asked_close (line ∷ past) = is_close (disk_of line.outs) || asked_close past

-- the write that marks the slot of a rank as clean is out and has landed
abbrev pub has_landed_close : Settings → ℕ → World → Bool
has_landed_close s rank w = is_close (op_at s rank w) && is_some (w.took rank)
