-- Which entries fit a node: this project's profile.
use Rattle.std.specs.Prelude.{ℕ, Bool, true, false, List, [], ◌∷◌, length, Option, None, Some, ◌&&◌, ◌==◌, ◌^◌, not, nat_lt, if◌then◌else◌}
use Rattle.qn_base.specs.declared.ids.Rank.{Rank}
use Rattle.qn_base.specs.declared.ids.View.{View}
use Rattle.qn_base.specs.Members.{is_member}
use Rattle.qn_model.specs.declared.configuration.Settings.{Settings}
use Rattle.qn_model.specs.declared.entries.What.{What}
use Rattle.qn_model.specs.declared.entries.What.TheVariants as what
use Rattle.qn_model.specs.declared.outputs.DiskOp.{DiskOp}
use Rattle.qn_model.specs.declared.outputs.DiskOp.TheVariants as disk
use Rattle.qn_model.specs.Log.{Line, op_out}
use Rattle.qn_model.specs.Holding.{stop_due}
use Rattle.qn_model.specs.Phases.{phase, is_live, is_up}

-- the members of a view are configured and contain the node
abbrev pub is_own_view : Settings → ℕ → View → Bool
is_own_view s me view = nat_lt view.members.0 (2 ^ length s.nodes) && is_member view.members me

-- a packet to this node from another configured node
abbrev pub is_for : Settings → ℕ → Rank → Rank → Bool
is_for s me from to = to.0 == me && nat_lt from.0 (length s.nodes) && not (from.0 == me)

-- an entry is the answer of an operation of one kind
abbrev pub is_header_read : What → Bool
is_header_read (what.Header seen) = true
is_header_read entry = false

abbrev pub is_slot_read : Rank → What → Bool
is_slot_read rank (what.SlotRead other seen) = rank.0 == other.0
is_slot_read rank entry = false

abbrev pub is_mail_checked : What → Bool
is_mail_checked (what.MailChecked seen) = true
is_mail_checked entry = false

abbrev pub is_claimed : What → Bool
is_claimed (what.Claimed ok) = true
is_claimed entry = false

abbrev pub is_cleared : What → Bool
is_cleared (what.Cleared ok) = true
is_cleared entry = false

abbrev pub is_mail_read : What → Bool
is_mail_read (what.MailRead seen) = true
is_mail_read entry = false

abbrev pub is_reset_written : Rank → What → Bool
is_reset_written rank (what.MailWritten other ok) = rank.0 == other.0
is_reset_written rank entry = false

abbrev pub is_closed : What → Bool
is_closed (what.Closed ok) = true
is_closed entry = false

-- an entry answers the disk operation
abbrev pub answers_op : Option DiskOp → What → Bool
answers_op None entry = false
answers_op (Some disk.ReadHeader) entry = is_header_read entry
answers_op (Some (disk.ReadSlot rank)) entry = is_slot_read rank entry
answers_op (Some disk.CheckMail) entry = is_mail_checked entry
answers_op (Some (disk.WriteClaim number)) entry = is_claimed entry
answers_op (Some disk.WriteClear) entry = is_cleared entry
answers_op (Some disk.ReadMail) entry = is_mail_read entry
answers_op (Some (disk.WriteReset rank)) entry = is_reset_written rank entry
answers_op (Some (disk.WriteClose number)) entry = is_closed entry

abbrev pub is_first : List Line → Bool
is_first [] = true
is_first (line ∷ past) = false

-- whether an entry fits after these entries
abbrev pub fits : Settings → ℕ → List Line → What → Bool
fits s me past what.Begin = is_first past
fits s me past what.BeginClean = is_first past
fits s me past (what.View view) = is_live (phase s past) && is_own_view s me view
fits s me past (what.Ask ask) = is_live (phase s past) && is_for s me ask.from ask.to
fits s me past (what.Tell tell) = is_live (phase s past) && is_for s me tell.from tell.to
fits s me past (what.Device agrees) = is_live (phase s past)
fits s me past (what.Stopped ok) = stop_due past
fits s me past what.Leave = is_up (phase s past)
fits s me past what.Tick = true
fits s me past (what.Header seen) = answers_op (op_out past) (what.Header seen)
fits s me past (what.SlotRead rank seen) = answers_op (op_out past) (what.SlotRead rank seen)
fits s me past (what.MailChecked seen) = answers_op (op_out past) (what.MailChecked seen)
fits s me past (what.Claimed ok) = answers_op (op_out past) (what.Claimed ok)
fits s me past (what.Cleared ok) = answers_op (op_out past) (what.Cleared ok)
fits s me past (what.MailRead seen) = answers_op (op_out past) (what.MailRead seen)
fits s me past (what.MailWritten rank ok) = answers_op (op_out past) (what.MailWritten rank ok)
fits s me past (what.Closed ok) = answers_op (op_out past) (what.Closed ok)

-- an entry as it is read: one that does not fit is a Tick
abbrev pub read_as : Settings → ℕ → List Line → What → What
read_as s me past entry = if fits s me past entry then entry else what.Tick
