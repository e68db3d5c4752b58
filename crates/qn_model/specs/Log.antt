-- The log of a node: its history as it was read, newest entry first, with what came out of each entry.
-- This project's profile.
use Rattle.std.specs.Prelude.{ℕ, suc, Bool, true, false, List, [], ◌∷◌, ◌||◌, length, Option, None, Some, is_some, unwrap_or, if◌then◌else◌}
use Rattle.std.specs.Option.{option_or}
use Rattle.qn_base.specs.declared.ids.View.{View}
use Rattle.qn_model.specs.declared.times.Timing.{Timing}
use Rattle.qn_model.specs.declared.seen.HeaderSeen.TheVariants as header
use Rattle.qn_model.specs.declared.seen.SlotSeen.TheVariants as slot
use Rattle.qn_model.specs.declared.entries.What.{What}
use Rattle.qn_model.specs.declared.entries.What.TheVariants as what
use Rattle.qn_model.specs.declared.outputs.DiskOp.{DiskOp}
use Rattle.qn_model.specs.declared.outputs.DiskOp.TheVariants as disk
use Rattle.qn_model.specs.declared.outputs.Out.{Out}
use Rattle.qn_model.specs.declared.outputs.Out.TheVariants as out

-- One entry of the log. The place of an entry is the number of entries up to it, so the newest entry of a
-- log stands at the log's length.
pub record Line : Type 0 where
  pub tick : ℕ
  -- the entry as it was read: one that does not fit is a Tick
  pub what : What
  -- where it is an answer: the place of the entry that asked for it; else 0
  pub asked : ℕ
  pub outs : List Out

-- the tick of the last entry
abbrev pub now : List Line → ℕ
now [] = 0
now (line ∷ past) = line.tick

-- the view that an entry installs
abbrev pub view_of : What → Option View
view_of (what.View view) = Some view
view_of entry = None

abbrev pub is_view : What → Bool
is_view entry = is_some (view_of entry)

-- the disk operation among the outputs of an entry
abbrev pub disk_of : List Out → Option DiskOp
disk_of [] = None
disk_of (out.Disk op ∷ outs) = Some op
disk_of (other ∷ outs) = disk_of outs

abbrev pub has_stop : List Out → Bool
has_stop [] = false
has_stop (out.Stop ∷ outs) = true
has_stop (other ∷ outs) = has_stop outs

abbrev pub has_start : List Out → Bool
has_start [] = false
has_start (out.Start ∷ outs) = true
has_start (other ∷ outs) = has_start outs

-- whether an entry is the answer of a disk operation
abbrev pub is_answer : What → Bool
is_answer (what.Header seen) = true
is_answer (what.SlotRead rank seen) = true
is_answer (what.MailChecked seen) = true
is_answer (what.Claimed ok) = true
is_answer (what.Cleared ok) = true
is_answer (what.MailRead seen) = true
is_answer (what.MailWritten rank ok) = true
is_answer (what.Closed ok) = true
is_answer what.Begin = false
is_answer what.BeginClean = false
is_answer (what.View view) = false
is_answer (what.Ask ask) = false
is_answer (what.Tell tell) = false
is_answer (what.Device agrees) = false
is_answer what.Tick = false
is_answer (what.Stopped ok) = false
is_answer what.Leave = false

-- the disk operation that is out: the last one, where no answer came after it
unfoldable pub op_out : List Line → Option DiskOp
op_out [] = None
op_out (line ∷ past) = option_or (disk_of line.outs) (if is_answer line.what then None else op_out past)

-- the place of the entry that gave the last disk operation
unfoldable pub ask_place : List Line → ℕ
ask_place [] = 0
ask_place (line ∷ past) = if is_some (disk_of line.outs) then suc (length past) else ask_place past

-- the tick of the entry that gave the last disk operation
unfoldable pub ask_tick : List Line → ℕ
ask_tick [] = 0
ask_tick (line ∷ past) = if is_some (disk_of line.outs) then line.tick else ask_tick past

-- the incarnation that a disk operation claims
abbrev pub claim_of : Option DiskOp → Option ℕ
claim_of (Some (disk.WriteClaim number)) = Some number
claim_of op = None

-- the incarnation that was claimed so far
unfoldable pub claimed : List Line → Option ℕ
claimed [] = None
claimed (line ∷ past) = option_or (claim_of (disk_of line.outs)) (claimed past)

-- the incarnation of a node: none up to the entry that gave the claim, that entry included
abbrev pub incarnation : List Line → Option ℕ
incarnation [] = None
incarnation (line ∷ past) = claimed past

-- the times that a header gives
abbrev pub times_of : What → Option Timing
times_of (what.Header (header.Read nodes timing)) = Some timing
times_of entry = None

-- the times of a node before it has read its header
abbrev pub no_times : Timing
no_times = record { watchdog = 0; msgwait = 0; loop_ms = 0; read_limit = 0; feed_delay = 0 }

-- the times of a node: those of the header that it read
unfoldable pub timing : List Line → Timing
timing [] = no_times
timing (line ∷ past) = unwrap_or (times_of line.what) (timing past)

abbrev pub is_clean_begin : What → Bool
is_clean_begin what.BeginClean = true
is_clean_begin entry = false

-- sbd(8), `-S`: whether the boot began as a clean start
unfoldable pub begins_clean : List Line → Bool
begins_clean [] = false
begins_clean (line ∷ past) = is_clean_begin line.what || begins_clean past

-- the incarnation that a read of a slot gives
abbrev pub number_read : What → Option ℕ
number_read (what.SlotRead rank (slot.Read read)) = Some read.incarnation
number_read entry = None

-- the incarnation that the last read of a slot gave, 0 where none gave one
unfoldable pub slot_number : List Line → ℕ
slot_number [] = 0
slot_number (line ∷ past) = unwrap_or (number_read line.what) (slot_number past)
