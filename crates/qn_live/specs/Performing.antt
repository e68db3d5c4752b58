-- The outputs of an entry as calls, and what their answers give the node: this project's profile.
use Rattle.std.specs.Prelude.{ℕ, Bool, true, false, not, ◌+◌, ◌==◌, List, [], ◌∷◌, Option, None, Some, unwrap_or, if◌then◌else◌}
use Rattle.std.specs.Option.{option_or, option_map_or}
use Rattle.qn_base.specs.declared.calls.Call.{Call}
use Rattle.qn_base.specs.declared.calls.Call.TheVariants as call
use Rattle.qn_base.specs.Calls.{is_failed}
use Rattle.qn_base.specs.Plans.{Plan, Ends, Asks}
use Rattle.qn_io.specs.Answered.{bytes_read}
use Rattle.qn_model.specs.declared.configuration.Settings.{Settings}
use Rattle.qn_model.specs.declared.disk.Message.TheVariants as message
use Rattle.qn_model.specs.declared.disk.Slot.{Slot}
use Rattle.qn_model.specs.declared.mailbox.Mail.{Mail}
use Rattle.qn_model.specs.declared.seen.HeaderSeen.{HeaderSeen}
use Rattle.qn_model.specs.declared.seen.HeaderSeen.TheVariants as header
use Rattle.qn_model.specs.declared.seen.SlotSeen.{SlotSeen}
use Rattle.qn_model.specs.declared.seen.SlotSeen.TheVariants as slot
use Rattle.qn_model.specs.declared.seen.MailSeen.{MailSeen}
use Rattle.qn_model.specs.declared.seen.MailSeen.TheVariants as mail
use Rattle.qn_model.specs.declared.entries.What.{What}
use Rattle.qn_model.specs.declared.entries.What.TheVariants as what
use Rattle.qn_model.specs.declared.outputs.BootCause.{BootCause}
use Rattle.qn_model.specs.declared.outputs.BootCause.TheVariants as cause
use Rattle.qn_model.specs.declared.outputs.HaltKind.{HaltKind}
use Rattle.qn_model.specs.declared.outputs.HaltKind.TheVariants as halt
use Rattle.qn_model.specs.declared.outputs.DiskOp.{DiskOp}
use Rattle.qn_model.specs.declared.outputs.DiskOp.TheVariants as disk
use Rattle.qn_model.specs.declared.outputs.Out.{Out}
use Rattle.qn_model.specs.declared.outputs.Out.TheVariants as out
use Rattle.qn_model.specs.Log.{Line, incarnation}
use Rattle.qn_model.specs.Sectors.{anonymous, mail_bytes, mail_place, message_code, slot_bytes, slot_place}
use Rattle.qn_model.specs.Unmet.{id_of}
use Rattle.qn_model.specs.World.{failed}
use Rattle.qn_sector.specs.Reading.{header_of, mail_of, slot_of}
use Rattle.qn_wire.specs.Packets.{packet_bytes}
use Rattle.qn_live.specs.declared.live_end.LiveEnd.{LiveEnd}
use Rattle.qn_live.specs.declared.live_end.LiveEnd.TheVariants as end
use Rattle.qn_live.specs.declared.place.Waits.{Waits}
use Rattle.qn_live.specs.Running.{RunState}

-- the own slot, written
abbrev pub write_slot : Settings → ℕ → Slot → Call
write_slot s me own = call.Write (slot_place me) (slot_bytes (id_of s me).0 own) true

-- the mailbox of a rank, written
abbrev pub write_mail : ℕ → Mail → Call
write_mail rank written = call.Write (mail_place rank) (mail_bytes written) true

-- a reset names the node that writes it, and its incarnation
abbrev pub reset_by : Settings → ℕ → ℕ → Mail
reset_by s me number =
    record { message = message.Reset; by = Some (record { id = id_of s me; incarnation = number }) }

-- the call of a disk operation of a node in this incarnation
unfoldable pub disk_call : Settings → ℕ → ℕ → DiskOp → Call
disk_call s me number disk.ReadHeader = call.Read 0 [] true
disk_call s me number (disk.ReadSlot rank) = call.Read (slot_place rank.0) [] true
disk_call s me number disk.CheckMail = call.Read (mail_place me) [] true
disk_call s me number disk.ReadMail = call.Read (mail_place me) [] true
disk_call s me number (disk.WriteClaim next) = write_slot s me (record { incarnation = next; clean = false })
disk_call s me number (disk.WriteClose own) = write_slot s me (record { incarnation = own; clean = true })
disk_call s me number disk.WriteClear = write_mail me (anonymous message.Empty)
disk_call s me number (disk.WriteReset rank) = write_mail rank.0 (reset_by s me number)

-- what the bytes of a sector are as a header, as the slot of a rank, and as a mailbox
abbrev pub header_seen : List ℕ → HeaderSeen
header_seen bytes = option_map_or (λ found. header.Read found.0 found.1) (header_of bytes) header.NotImage

abbrev pub slot_seen : Settings → ℕ → List ℕ → SlotSeen
slot_seen s rank bytes =
    option_map_or
    (λ found. if found.0.0 == (id_of s rank).0 then slot.Read found.1 else slot.Damaged)
    (slot_of bytes)
    slot.Damaged

abbrev pub mail_seen : List ℕ → MailSeen
mail_seen bytes = option_map_or (λ found. mail.Read found.message) (mail_of bytes) mail.Damaged

-- the answer of a disk operation that was done, and that read these bytes
unfoldable pub done : Settings → DiskOp → List ℕ → What
done s disk.ReadHeader bytes = what.Header (header_seen bytes)
done s (disk.ReadSlot rank) bytes = what.SlotRead rank (slot_seen s rank.0 bytes)
done s disk.CheckMail bytes = what.MailChecked (mail_seen bytes)
done s disk.ReadMail bytes = what.MailRead (mail_seen bytes)
done s (disk.WriteClaim next) bytes = what.Claimed true
done s (disk.WriteClose own) bytes = what.Closed true
done s disk.WriteClear bytes = what.Cleared true
done s (disk.WriteReset rank) bytes = what.MailWritten rank true

-- the answer of a disk operation, by its call
abbrev pub disk_answer : Settings → DiskOp → Call → What
disk_answer s op call = if is_failed call then failed op else done s op (bytes_read call)

-- the number of a boot cause, and the code of a halt
abbrev pub cause_number : BootCause → ℕ
cause_number cause.ReadFailed = 1
cause_number cause.NotImage = 2
cause_number cause.UnsafeTiming = 3
cause_number cause.ClaimFailed = 4
cause_number cause.ClearFailed = 5
cause_number cause.IncarnationSpent = 6
cause_number cause.NotClean = 7

abbrev pub halt_code : HaltKind → ℕ
halt_code (halt.Deadly deadly) = message_code deadly
halt_code (halt.Boot stopped) = 10 + cause_number stopped

-- the call of an output of a node in this incarnation
unfoldable pub out_call : Settings → ℕ → ℕ → Out → Call
out_call s me number out.Stop = call.Stop true
out_call s me number out.Start = call.Start true
out_call s me number out.Feed = call.Feed true
out_call s me number (out.Send to packet) = call.Send to (packet_bytes packet) true
out_call s me number (out.Disk op) = disk_call s me number op
out_call s me number out.Disarm = call.Disarm true
out_call s me number (out.Halt kind) = call.Halt (halt_code kind)

-- the answers that wait after a call of an output; that a feed, a start, a send or a disarm failed is passed over
unfoldable pub waits_after : Settings → Out → Call → Waits → Waits
waits_after s out.Stop call waits = record waits { stopped = Some (not (is_failed call)) }
waits_after s (out.Disk op) call waits = record waits { disk = Some (disk_answer s op call) }
waits_after s out.Start call waits = waits
waits_after s out.Feed call waits = waits
waits_after s (out.Send to packet) call waits = waits
waits_after s out.Disarm call waits = waits
waits_after s (out.Halt kind) call waits = waits

-- the incarnation of a node, 0 before its claim
abbrev pub own_number : List Line → ℕ
own_number log = unwrap_or (incarnation log) 0

-- the state after a call of an output
abbrev pub noted : Settings → Out → Call → RunState → RunState
noted s o call st = record st { waits = waits_after s o call st.waits }

-- the outputs, one call each
unfoldable pub outs_plan : Settings → ℕ → RunState → List Out → Plan RunState
outs_plan s me st [] = Ends st
outs_plan s me st (o ∷ outs) =
    Asks (out_call s me (own_number st.log) o) (λ call. outs_plan s me (noted s o call st) outs)

-- the close marked the slot as clean
abbrev pub is_clean_close : What → Bool
is_clean_close (what.Closed ok) = ok
is_clean_close entry = false

-- how the run ends after an output of an entry: a Halt and a Disarm end it
abbrev pub end_after : What → Out → Option LiveEnd
end_after entry (out.Halt (halt.Deadly deadly)) = Some (end.SelfReset deadly)
end_after entry (out.Halt (halt.Boot stopped)) = Some (end.BootHalted stopped)
end_after entry out.Disarm = Some (end.Left (is_clean_close entry))
end_after entry out.Stop = None
end_after entry out.Start = None
end_after entry out.Feed = None
end_after entry (out.Send to packet) = None
end_after entry (out.Disk op) = None

-- the same after all outputs of an entry; these two stand alone
abbrev pub end_in : What → List Out → Option LiveEnd
end_in entry [] = None
end_in entry (o ∷ outs) = option_or (end_after entry o) (end_in entry outs)
