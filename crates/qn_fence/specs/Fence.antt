-- What a fencer stands for: a node's log. This project's profile, after sbd(8).
use Rattle.std.specs.Prelude.{◌≡◌, ◌<◌, ◌≤◌, ℕ, Bool, true, false, List, length, Option, None, Some, slice_index, ◌==◌, ◌-◌, nat_lt, if◌then◌else◌}
use Rattle.std.specs.Option.{option_map, option_map_or}
use Rattle.qn_base.specs.declared.ids.Mask.{Mask}
use Rattle.qn_base.specs.declared.ids.Rank.{Rank}
use Rattle.qn_base.specs.Members.{is_member}
use Rattle.qn_model.specs.declared.configuration.Settings.{Settings}
use Rattle.qn_model.specs.declared.entries.What.{What}
use Rattle.qn_model.specs.declared.entries.What.TheVariants as what
use Rattle.qn_model.specs.declared.outputs.DiskOp.{DiskOp}
use Rattle.qn_model.specs.declared.outputs.DiskOp.TheVariants as disk
use Rattle.qn_model.specs.declared.seen.SlotSeen.{SlotSeen}
use Rattle.qn_model.specs.Log.{Line, ask_place, now, op_out, timing}
use Rattle.qn_model.specs.NodeVotes.{is_in_view}
use Rattle.qn_model.specs.Licences.{is_clean, is_fenced, is_slot_seen, is_written, left_to_wait, out_time, reset_since, reset_tick, slot_read_since}
use Rattle.qn_model.specs.Wanted.{rank_of}
use Rattle.qn_fence.specs.declared.fencing.Fence.{Fence}
use Rattle.qn_fence.specs.declared.fencing.Licence.{Licence}
use Rattle.qn_fence.specs.declared.fencing.Licence.TheVariants as licence
use Rattle.qn_fence.specs.declared.fencing.Unfenced.{Unfenced}
use Rattle.qn_fence.specs.declared.fencing.Want.{Want}
use Rattle.qn_fence.specs.declared.fencing.Want.TheVariants as want

-- the disk operation that is wanted
abbrev pub op_of : Want → Option DiskOp
op_of want.None = None
op_of (want.ReadSlot rank) = Some (disk.ReadSlot rank)
op_of (want.WriteReset rank) = Some (disk.WriteReset rank)

-- what a disk operation is to the fencing
abbrev pub want_of : Option DiskOp → Want
want_of (Some (disk.ReadSlot rank)) = want.ReadSlot rank
want_of (Some (disk.WriteReset rank)) = want.WriteReset rank
want_of op = want.None

-- the rank that is to be read or reset
abbrev pub about_rank : Want → Option Rank
about_rank want.None = None
about_rank (want.ReadSlot rank) = Some rank
about_rank (want.WriteReset rank) = Some rank

-- a disk operation reads the slot of that rank, or resets it
abbrev pub is_about : ℕ → Option DiskOp → Bool
is_about rank (Some (disk.ReadSlot other)) = other.0 == rank
is_about rank (Some (disk.WriteReset other)) = other.0 == rank
is_about rank op = false

-- an operation is about no member of the present view
abbrev pub IsOutside : List Line → Option DiskOp → Type 0
IsOutside log op = (rank : ℕ) → is_about rank op ≡ true → is_in_view log rank ≡ false

-- the licence of a rank at a tick; a clean slot counts before a reset
abbrev pub licence_of : List Line → ℕ → ℕ → Licence
licence_of log rank tick =
    if is_clean log rank then licence.Clean
    else (if is_fenced log rank tick then licence.Fenced
    else (if is_written log rank then licence.Waiting (left_to_wait log rank tick) else licence.Unknown))

-- how far the fencing of a rank is at a tick
abbrev pub unfenced_at : List Line → ℕ → ℕ → Unfenced
unfenced_at log tick rank =
    record { rank = rank_of rank; written = is_written log rank; left = left_to_wait log rank tick }

-- an entry ends a boot
abbrev pub is_boot_end : What → Bool
is_boot_end (what.Cleared ok) = true
is_boot_end entry = false

-- an entry that bears on the fencing: a View, the answers of its operations, the header with msgwait, and
-- the end of the boot
abbrev pub bears_on_fencing : What → Bool
bears_on_fencing (what.View view) = true
bears_on_fencing (what.SlotRead rank seen) = true
bears_on_fencing (what.MailWritten rank ok) = true
bears_on_fencing (what.Header seen) = true
bears_on_fencing (what.Cleared ok) = true
bears_on_fencing entry = false

-- no slot read and no reset of a log was asked for after the log's end
pub record IsAskedInside (log : List Line) : Type 0 where
  pub reads : (place rank : ℕ) (test : SlotSeen → Bool) → length log ≤ place → slot_read_since place test rank log ≡ false
  pub resets : (place rank : ℕ) → length log ≤ place → reset_since place rank log ≡ None

-- the operation that is out is about that rank, and was asked for in its out-time
abbrev pub is_fresh : Fence → ℕ → Bool
is_fresh fence rank = option_map_or (λ other. other.0 == rank) fence.fresh false

-- a rank where it is none of the members
abbrev pub fresh_outside : Mask → Option Rank → Option Rank
fresh_outside members None = None
fresh_outside members (Some rank) = if is_member members rank.0 then None else Some rank

-- the tick of the reset that was written to a rank
abbrev pub written_at : Fence → ℕ → Option ℕ
written_at fence rank = if is_member fence.written rank then Some (slice_index fence.ticks rank) else None

-- the ticks of msgwait that remain after the reset that was written to a rank
abbrev pub left_at : Fence → ℕ → ℕ → Option ℕ
left_at fence tick rank = option_map (λ at. fence.msgwait - (tick - at)) (written_at fence rank)

-- a reset was written to a rank, and nothing of msgwait remains
abbrev pub is_waited_for : Fence → ℕ → ℕ → Bool
is_waited_for fence tick rank = option_map_or (λ left. left == 0) (left_at fence tick rank) false

-- the fencer stands for the log of a node
pub record FenceFor (fence : Fence) (s : Settings) (log : List Line) : Type 0 where
  pub counts : fence.count ≡ length s.nodes
  pub few : fence.count ≤ 32
  pub waits : fence.msgwait ≡ (timing log).msgwait
  pub views : (rank : ℕ) → rank < 32 → is_member fence.members rank ≡ is_in_view log rank
  pub cleans : (rank : ℕ) → rank < 32 → is_member fence.clean rank ≡ is_clean log rank
  pub seens : (rank : ℕ) → rank < 32 → is_member fence.seen rank ≡ is_slot_seen log rank
  pub resets : (rank : ℕ) → rank < 32 → written_at fence rank ≡ reset_tick log rank
  pub past : (rank at : ℕ) → reset_tick log rank ≡ Some at → at ≤ now log
  pub inside : IsAskedInside log
  pub freshes : (rank : ℕ) → rank < 32 → is_about rank (op_out log) ≡ true
      → is_fresh fence rank ≡ nat_lt (out_time rank log) (ask_place log)
