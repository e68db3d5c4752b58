-- What a node knows of the slots and the resets of the nodes outside its view: this project's profile,
-- after sbd(8).
use Rattle.std.specs.Prelude.{ℕ, suc, Bool, true, false, List, [], ◌∷◌, length, Option, None, Some, ◌||◌, ◌&&◌, ◌==◌, ◌+◌, ◌-◌, nat_le, nat_lt, is_some, if◌then◌else◌}
use Rattle.std.specs.Option.{option_map_or}
use Rattle.qn_base.specs.Members.{is_member}
use Rattle.qn_model.specs.declared.seen.SlotSeen.{SlotSeen}
use Rattle.qn_model.specs.declared.seen.SlotSeen.TheVariants as slot
use Rattle.qn_model.specs.declared.entries.What.{What}
use Rattle.qn_model.specs.declared.entries.What.TheVariants as what
use Rattle.qn_model.specs.Log.{Line, timing}

-- an entry that ends the out-time of a rank before it: a View with that rank, and the end of the boot
abbrev pub starts_out_time : ℕ → What → Bool
starts_out_time rank (what.View view) = is_member view.members rank
starts_out_time rank (what.Cleared ok) = true
starts_out_time rank entry = false

-- the out-time of a rank is the entries after this place: after the last View with that rank, or else
-- after the end of the boot
unfoldable pub out_time : ℕ → List Line → ℕ
out_time rank [] = 0
out_time rank (line ∷ past) = if starts_out_time rank line.what then suc (length past) else out_time rank past

-- a read of a slot gave a clean one
abbrev pub is_clean_slot : SlotSeen → Bool
is_clean_slot (slot.Read other) = other.clean
is_clean_slot slot.Damaged = false
is_clean_slot slot.Failed = false

-- a read of a slot gave a slot or damaged bytes
abbrev pub is_seen_slot : SlotSeen → Bool
is_seen_slot (slot.Read other) = true
is_seen_slot slot.Damaged = true
is_seen_slot slot.Failed = false

-- an entry is a read of that rank's slot that passes a test
abbrev pub reads_slot : (SlotSeen → Bool) → ℕ → What → Bool
reads_slot test rank (what.SlotRead other seen) = other.0 == rank && test seen
reads_slot test rank entry = false

-- an entry is a reset that was written to that rank's mailbox
abbrev pub writes_reset : ℕ → What → Bool
writes_reset rank (what.MailWritten other ok) = other.0 == rank && ok
writes_reset rank entry = false

-- a read of that rank's slot passed a test, and was asked for after a place
unfoldable pub slot_read_since : ℕ → (SlotSeen → Bool) → ℕ → List Line → Bool
slot_read_since place test rank [] = false
slot_read_since place test rank (line ∷ past) =
    (nat_lt place line.asked && reads_slot test rank line.what) || slot_read_since place test rank past

-- the tick of the last reset that was written to that rank's mailbox, and asked for after a place
unfoldable pub reset_since : ℕ → ℕ → List Line → Option ℕ
reset_since place rank [] = None
reset_since place rank (line ∷ past) =
    if nat_lt place line.asked && writes_reset rank line.what then Some line.tick else reset_since place rank past

-- the slot of a rank was read as clean in its out-time
abbrev pub is_clean : List Line → ℕ → Bool
is_clean log rank = slot_read_since (out_time rank log) is_clean_slot rank log

-- the slot of a rank was read in its out-time, or found damaged
abbrev pub is_slot_seen : List Line → ℕ → Bool
is_slot_seen log rank = slot_read_since (out_time rank log) is_seen_slot rank log

-- the tick at which a reset was written to a rank in its out-time
abbrev pub reset_tick : List Line → ℕ → Option ℕ
reset_tick log rank = reset_since (out_time rank log) rank log

abbrev pub is_written : List Line → ℕ → Bool
is_written log rank = is_some (reset_tick log rank)

-- a reset was written to a rank, and msgwait has passed since
abbrev pub is_fenced : List Line → ℕ → ℕ → Bool
is_fenced log rank tick = option_map_or (λ written. nat_le (written + (timing log).msgwait) tick) (reset_tick log rank) false

-- sbd(8), `msgwait`: a rank is licensed at a tick where it was read as clean, or fenced
abbrev pub is_licensed : List Line → ℕ → ℕ → Bool
is_licensed log rank tick = is_clean log rank || is_fenced log rank tick

-- the ticks of msgwait that remain where a reset was written, else 0
abbrev pub left_to_wait : List Line → ℕ → ℕ → ℕ
left_to_wait log rank tick = option_map_or (λ written. written + (timing log).msgwait - tick) (reset_tick log rank) 0
