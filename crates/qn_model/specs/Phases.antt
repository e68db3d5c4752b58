-- The boot table and the phases of a node: this project's profile.
use Rattle.std.specs.Prelude.{ℕ, Bool, true, false, List, [], ◌∷◌, length, Option, None, Some, ◌&&◌, ◌==◌, ◌+◌, ◌-◌, ◌^◌, not, nat_le, nat_lt, is_some, if◌then◌else◌}
use Rattle.qn_model.specs.declared.disk.Message.{Message}
use Rattle.qn_model.specs.declared.disk.Message.TheVariants as message
use Rattle.qn_model.specs.declared.seen.HeaderSeen.{HeaderSeen}
use Rattle.qn_model.specs.declared.seen.HeaderSeen.TheVariants as header
use Rattle.qn_model.specs.declared.seen.SlotSeen.{SlotSeen}
use Rattle.qn_model.specs.declared.seen.SlotSeen.TheVariants as slot
use Rattle.qn_model.specs.declared.seen.MailSeen.{MailSeen}
use Rattle.qn_model.specs.declared.seen.MailSeen.TheVariants as mail
use Rattle.qn_model.specs.declared.configuration.Settings.{Settings}
use Rattle.qn_model.specs.declared.entries.What.{What}
use Rattle.qn_model.specs.declared.entries.What.TheVariants as what
use Rattle.qn_model.specs.declared.life.Phase.{Phase}
use Rattle.qn_model.specs.declared.life.Phase.TheVariants.{Booting, Up, Leaving, Dying, Gone}
use Rattle.qn_model.specs.declared.outputs.BootCause.{BootCause}
use Rattle.qn_model.specs.declared.outputs.BootCause.TheVariants as cause
use Rattle.qn_model.specs.Sectors.{is_deadly}
use Rattle.qn_model.specs.Timing.{is_safe}
use Rattle.qn_model.specs.Log.{Line, ask_tick, timing}

-- why a read of the header halts the boot: another node count is tried before the times
abbrev pub header_halt : Settings → HeaderSeen → Option BootCause
header_halt s header.Failed = Some cause.ReadFailed
header_halt s header.NotImage = Some cause.NotImage
header_halt s (header.Read nodes times) =
    if not (nodes == length s.nodes) then Some cause.NotImage
    else (if is_safe times then None else Some cause.UnsafeTiming)

-- why a read of the own slot halts the boot
abbrev pub slot_halt : SlotSeen → Option BootCause
slot_halt slot.Failed = Some cause.ReadFailed
slot_halt slot.Damaged = Some cause.NotImage
slot_halt (slot.Read own) = if nat_lt own.incarnation (2 ^ 64 - 1) then None else Some cause.IncarnationSpent

-- sbd(8), `-S`: a clean start goes on where the mailbox is empty or holds the request to exit
abbrev pub starts_clean_on : Message → Bool
starts_clean_on message.Empty = true
starts_clean_on message.Test = false
starts_clean_on message.Reset = false
starts_clean_on message.Off = false
starts_clean_on message.Exit = true
starts_clean_on message.Crashdump = false

-- why a check of the own mailbox halts the boot
abbrev pub check_halt : MailSeen → Option BootCause
check_halt mail.Failed = Some cause.ReadFailed
check_halt mail.Damaged = Some cause.NotImage
check_halt (mail.Read message) = if starts_clean_on message then None else Some cause.NotClean

-- why a step of the boot halts it
abbrev pub boot_halt : Settings → What → Option BootCause
boot_halt s (what.Header seen) = header_halt s seen
boot_halt s (what.SlotRead rank seen) = slot_halt seen
boot_halt s (what.MailChecked seen) = check_halt seen
boot_halt s (what.Claimed ok) = if ok then None else Some cause.ClaimFailed
boot_halt s (what.Cleared ok) = if ok then None else Some cause.ClearFailed
boot_halt s what.Begin = None
boot_halt s what.BeginClean = None
boot_halt s (what.MailRead seen) = None
boot_halt s (what.MailWritten rank ok) = None
boot_halt s (what.View view) = None
boot_halt s (what.Ask ask) = None
boot_halt s (what.Tell tell) = None
boot_halt s (what.Device agrees) = None
boot_halt s what.Tick = None
boot_halt s (what.Stopped ok) = None
boot_halt s what.Leave = None
boot_halt s (what.Closed ok) = None

-- the message that a read of the mailbox gave
abbrev pub message_of : What → Option Message
message_of (what.MailRead (mail.Read message)) = Some message
message_of entry = None

abbrev pub is_exit : Message → Bool
is_exit message.Exit = true
is_exit other = false

-- sbd(8), `message`: the deadly message that a read of the mailbox gave
abbrev pub deadly_of : Option Message → Option Message
deadly_of None = None
deadly_of (Some message) = if is_deadly message then Some message else None

abbrev pub gives_exit : Option Message → Bool
gives_exit None = false
gives_exit (Some message) = is_exit message

-- whether an answer at a tick is in time: at most the read limit past the entry that asked for it
abbrev pub in_time : ℕ → List Line → Bool
in_time tick past = nat_le tick (ask_tick past + (timing past).read_limit)

-- the phase after a step of the boot
abbrev pub boot_phase : Option BootCause → Phase → Phase
boot_phase None next = next
boot_phase (Some cause) next = Gone

-- the phase after a read of the mailbox
abbrev pub mail_phase : Option Message → Bool → Phase → Phase
mail_phase message timely before =
    if is_some (deadly_of message) then Dying else (if gives_exit message && timely then Leaving else before)

-- whether the node takes part in the cluster
abbrev pub is_live : Phase → Bool
is_live Up = true
is_live Leaving = true
is_live phase = false

abbrev pub is_up : Phase → Bool
is_up Up = true
is_up phase = false

abbrev pub is_leaving : Phase → Bool
is_leaving Leaving = true
is_leaving phase = false

abbrev pub is_booting : Phase → Bool
is_booting Booting = true
is_booting phase = false

-- the phase after an entry, by the phase before it and whether the entry is in time; slots are read in a
-- boot and later too
abbrev pub next_phase : Settings → What → Bool → Phase → Phase
next_phase s what.Begin timely before = Booting
next_phase s what.BeginClean timely before = Booting
next_phase s (what.Header seen) timely before = boot_phase (header_halt s seen) before
next_phase s (what.SlotRead rank seen) timely before = if is_booting before then boot_phase (slot_halt seen) before else before
next_phase s (what.MailChecked seen) timely before = boot_phase (check_halt seen) before
next_phase s (what.Claimed ok) timely before = if ok then before else Gone
next_phase s (what.Cleared ok) timely before = if ok then Up else Gone
next_phase s (what.MailRead seen) timely before = mail_phase (message_of (what.MailRead seen)) timely before
next_phase s what.Leave timely before = Leaving
next_phase s (what.Closed ok) timely before = Gone
next_phase s (what.MailWritten rank ok) timely before = before
next_phase s (what.View view) timely before = before
next_phase s (what.Ask ask) timely before = before
next_phase s (what.Tell tell) timely before = before
next_phase s (what.Device agrees) timely before = before
next_phase s what.Tick timely before = before
next_phase s (what.Stopped ok) timely before = before

-- the phase of a node
unfoldable pub phase : Settings → List Line → Phase
phase s [] = Booting
phase s (line ∷ past) = next_phase s line.what (in_time line.tick past) (phase s past)
