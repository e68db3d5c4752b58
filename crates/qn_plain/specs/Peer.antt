-- What a history says of one rank, entry by entry, and what it means.
use Rattle.std.specs.Prelude.{◌≡◌, ◌≤◌, ℕ, Bool, true, false, List, None, Some, ◌||◌, ◌&&◌, ◌==◌, ◌+◌, ◌-◌, max, not, nat_le, nat_lt, if◌then◌else◌, slice_index_or}
use Rattle.std.specs.Option.{option_map_or}
use Rattle.qn_model.specs.declared.packets.Tell.{Tell}
use Rattle.qn_model.specs.declared.seen.SlotSeen.{SlotSeen}
use Rattle.qn_model.specs.Log.{Line, ask_place, is_view}
use Rattle.qn_model.specs.Licences.{is_clean_slot, is_seen_slot, out_time, reads_slot, reset_since, slot_read_since, starts_out_time, writes_reset}
use Rattle.qn_model.specs.Hearing.{is_free, tell_of, told}
use Rattle.qn_plain.specs.declared.peer.Peer.{Peer}
use Rattle.qn_plain.specs.declared.peer.Reading.{Reading}

-- what no entries say
abbrev pub no_peer : Peer
no_peer = record { out_since = 0; clean_asked = 0; seen_asked = 0; reset_asked = 0; reset_tick = 0; free = false; told = false }

-- what is said of a rank
abbrev pub peer_at : List Peer → ℕ → Peer
peer_at peers rank = slice_index_or peers rank no_peer

-- whether an entry is a Tell from that rank that answers and passes a test
abbrev pub tells_so : (Tell → Bool) → ℕ → Reading → Bool
tells_so test rank reading =
    option_map_or (λ tell. tell.from.0 == rank && reading.answers && test tell) (tell_of reading.what) false

-- the later of two asking places, where a test holds
abbrev pub later_if : Bool → ℕ → ℕ → ℕ
later_if holds before asked = if holds then max before asked else before

-- what a read of the rank's slot says
abbrev pub peer_read : SlotSeen → ℕ → Peer → Peer
peer_read seen asked peer =
    record peer {
      clean_asked = later_if (is_clean_slot seen) peer.clean_asked asked;
      seen_asked = later_if (is_seen_slot seen) peer.seen_asked asked;
    }

-- what a view says that has the rank, or not
abbrev pub peer_viewed : Bool → ℕ → Peer → Peer
peer_viewed has place peer = record peer { out_since = if has then place else peer.out_since; free = false; told = false }

-- what one more entry says of a rank
abbrev pub peer_after : ℕ → Reading → Peer → Peer
peer_after rank reading peer =
    record {
      out_since = if starts_out_time rank reading.what then reading.place else peer.out_since;
      clean_asked = later_if (reads_slot is_clean_slot rank reading.what) peer.clean_asked reading.asked;
      seen_asked = later_if (reads_slot is_seen_slot rank reading.what) peer.seen_asked reading.asked;
      reset_asked = if writes_reset rank reading.what then reading.asked else peer.reset_asked;
      reset_tick = if writes_reset rank reading.what then reading.tick else peer.reset_tick;
      free = tells_so (λ tell. not tell.holds) rank reading || (not (is_view reading.what) && peer.free);
      told = tells_so (λ tell. true) rank reading || (not (is_view reading.what) && peer.told);
    }

-- the slot was read as clean in the out-time
abbrev pub peer_is_clean : Peer → Bool
peer_is_clean peer = nat_lt peer.out_since peer.clean_asked

-- the slot was read in the out-time, or found damaged
abbrev pub peer_is_seen : Peer → Bool
peer_is_seen peer = nat_lt peer.out_since peer.seen_asked

-- a reset was written in the out-time
abbrev pub peer_is_written : Peer → Bool
peer_is_written peer = nat_lt peer.out_since peer.reset_asked

-- a reset was written in the out-time, and this span has passed since
abbrev pub peer_is_fenced : Peer → ℕ → ℕ → Bool
peer_is_fenced peer msgwait tick = peer_is_written peer && nat_le (peer.reset_tick + msgwait) tick

-- the ticks of msgwait that remain where a reset was written, else 0
abbrev pub peer_left : Peer → ℕ → ℕ → ℕ
peer_left peer msgwait tick = if peer_is_written peer then peer.reset_tick + msgwait - tick else 0

-- Tells came, and none says not holding
abbrev pub peer_is_held : Peer → Bool
peer_is_held peer = peer.told && not peer.free

-- what is kept of a rank stands for a log: a read or a reset counts after a place exactly where the last
-- one was asked for after it
pub record PeerFor (peer : Peer) (log : List Line) (rank : ℕ) : Type 0 where
  pub outs : out_time rank log ≡ peer.out_since
  pub cleans : (place : ℕ) → slot_read_since place is_clean_slot rank log ≡ nat_lt place peer.clean_asked
  pub seens : (place : ℕ) → slot_read_since place is_seen_slot rank log ≡ nat_lt place peer.seen_asked
  pub resets : (place : ℕ) → reset_since place rank log ≡ (if nat_lt place peer.reset_asked then Some peer.reset_tick else None)
  pub behind : peer.reset_asked ≤ ask_place log
  pub frees : is_free log rank ≡ peer.free
  pub tolds : told (λ tell. true) rank log ≡ peer.told
