-- The next disk operation of a node: this project's profile, after sbd(8), `watch`.
use Rattle.std.specs.Prelude.{ℕ, Bool, true, false, List, [], ◌∷◌, Option, None, Some, ◌&&◌, ◌+◌, not, nat_le, is_some, option_and_then, slice_get, if◌then◌else◌}
use Rattle.std.specs.Option.{option_or, option_map, option_map_or}
use Rattle.qn_base.specs.declared.ids.Rank.{Rank}
use Rattle.qn_model.specs.declared.configuration.Settings.{Settings}
use Rattle.qn_model.specs.declared.seen.SlotSeen.{SlotSeen}
use Rattle.qn_model.specs.declared.seen.SlotSeen.TheVariants as slot
use Rattle.qn_model.specs.declared.entries.What.{What}
use Rattle.qn_model.specs.declared.entries.What.TheVariants as what
use Rattle.qn_model.specs.declared.outputs.DiskOp.{DiskOp}
use Rattle.qn_model.specs.declared.outputs.DiskOp.TheVariants as disk
use Rattle.qn_model.specs.Log.{Line, disk_of, op_out, incarnation, timing, now}
use Rattle.qn_model.specs.Phases.{phase, is_up, is_leaving}
use Rattle.qn_model.specs.Holding.{holds}
use Rattle.qn_model.specs.Votes.{view_tick}
use Rattle.qn_model.specs.NodeVotes.{quorate_with_tie, is_in_view, votes}
use Rattle.qn_model.specs.Licences.{is_clean, is_slot_seen, is_written}
use Rattle.qn_model.specs.Unmet.{least_rank, is_chosen}

abbrev pub rank_of : ℕ → Rank
rank_of rank = record { 0 = rank }

-- the claim after a read of the own slot: one incarnation more
abbrev pub claim_after : SlotSeen → Option DiskOp
claim_after (slot.Read own) = Some (disk.WriteClaim (own.incarnation + 1))
claim_after slot.Damaged = None
claim_after slot.Failed = None

-- the operation after a step of the boot that goes on, by whether the boot is a clean start and by the incarnation that
-- the last read of a slot gave: a clean start checks the mailbox between the slot and the claim
abbrev pub boot_op : ℕ → Bool → ℕ → What → Option DiskOp
boot_op me clean number what.Begin = Some disk.ReadHeader
boot_op me clean number what.BeginClean = Some disk.ReadHeader
boot_op me clean number (what.Header seen) = Some (disk.ReadSlot (rank_of me))
boot_op me clean number (what.SlotRead rank seen) = if clean then Some disk.CheckMail else claim_after seen
boot_op me clean number (what.MailChecked seen) = Some (disk.WriteClaim (number + 1))
boot_op me clean number (what.Claimed ok) = Some disk.WriteClear
boot_op me clean number (what.Cleared ok) = Some disk.ReadMail
boot_op me clean number (what.MailRead seen) = None
boot_op me clean number (what.MailWritten rank ok) = None
boot_op me clean number (what.View view) = None
boot_op me clean number (what.Ask ask) = None
boot_op me clean number (what.Tell tell) = None
boot_op me clean number (what.Device agrees) = None
boot_op me clean number what.Tick = None
boot_op me clean number (what.Stopped ok) = None
boot_op me clean number what.Leave = None
boot_op me clean number (what.Closed ok) = None

-- a read of the own mailbox is asked for
abbrev pub asks_mail : Option DiskOp → Bool
asks_mail (Some disk.ReadMail) = true
asks_mail op = false

-- the tick at which the own mailbox was last asked for
unfoldable pub mail_tick : List Line → ℕ
mail_tick [] = 0
mail_tick (line ∷ past) = if asks_mail (disk_of line.outs) then line.tick else mail_tick past

-- the own mailbox is due: the loop's time has passed since it was last asked for
abbrev pub is_mail_due : List Line → Bool
is_mail_due log = nat_le (mail_tick log + (timing log).loop_ms) (now log)

-- the least node outside the view whose slot was not read in its out-time
abbrev pub to_read : Settings → List Line → Option ℕ
to_read s log = least_rank s (λ rank. not (is_in_view log rank) && not (is_slot_seen log rank))

-- the least node outside the view that was neither read as clean nor reset in its out-time
abbrev pub to_reset : Settings → List Line → Option ℕ
to_reset s log = least_rank s (λ rank. not (is_in_view log rank) && not (is_clean log rank) && not (is_written log rank))

-- the next operation of the fencing
abbrev pub fencing_op : Settings → List Line → Option DiskOp
fencing_op s log =
    option_or (option_map (λ rank. disk.ReadSlot (rank_of rank)) (to_read s log)) (option_map (λ rank. disk.WriteReset (rank_of rank)) (to_reset s log))

-- how many milliseconds after the last view a rank may be reset, 0 where it is not configured
abbrev pub fence_delay : Settings → ℕ → ℕ
fence_delay s rank = option_map_or (λ node. node.fence_delay) (slice_get s.nodes rank) 0

-- the fence delay of a rank has passed since the last view
abbrev pub is_delay_over : Settings → List Line → ℕ → Bool
is_delay_over s log rank = nat_le (view_tick (votes log) + fence_delay s rank) (now log)

-- the node to reset, once its fence delay is over. Until then no other node is reset.
abbrev pub to_reset_now : Settings → List Line → Option ℕ
to_reset_now s log = option_and_then (λ rank. if is_delay_over s log rank then Some rank else None) (to_reset s log)

-- the next operation of the fencing, with the fence delays
abbrev pub fencing_op_with_delay : Settings → List Line → Option DiskOp
fencing_op_with_delay s log =
    option_or (option_map (λ rank. disk.ReadSlot (rank_of rank)) (to_read s log)) (option_map (λ rank. disk.WriteReset (rank_of rank)) (to_reset_now s log))

-- the operation that marks the own slot as clean
abbrev pub close_op : List Line → Option DiskOp
close_op log = option_map (λ number. disk.WriteClose number) (incarnation log)

-- whether the node may fence: up, quorate and chosen
abbrev pub may_fence : Settings → ℕ → List Line → Bool
may_fence s me log = is_up (phase s log) && quorate_with_tie s log (now log) && is_chosen s me log

-- the next operation of a node that takes part in the cluster, where none is out, by that of the fencing
abbrev pub next_op : Settings → ℕ → List Line → Option DiskOp → Option DiskOp
next_op s me log fencing =
    if is_some (op_out log) then None
    else (if is_mail_due log then Some disk.ReadMail
    else (if is_leaving (phase s log) && not (holds log) then close_op log
    else (if may_fence s me log then fencing else None)))

-- the next operation, with no regard to the fence delays
unfoldable pub wanted : Settings → ℕ → List Line → Option DiskOp
wanted s me log = next_op s me log (fencing_op s log)

-- the next operation: a reset waits for its fence delay
unfoldable pub wanted_with_delay : Settings → ℕ → List Line → Option DiskOp
wanted_with_delay s me log = next_op s me log (fencing_op_with_delay s log)
