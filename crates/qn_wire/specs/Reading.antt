-- How packets are read: the fields are taken from their places, and the packet counts only where it is well formed and
-- the bytes are a spelling of it.
use Rattle.std.specs.Prelude.{ℕ, Bool, false, ◌+◌, ◌%◌, ◌&&◌, ◌||◌, ◌==◌, nat_le, List, length, drop, slice_index, Option, Some, None, option_and_then, if◌then◌else◌}
use Rattle.std.specs.Option.{option_map_or}
use Rattle.std.specs.Str.{bytes_eq}
use Rattle.byteorder.specs.Endian.{big_number}
use Rattle.qn_base.specs.declared.ids.Rank.{Rank}
use Rattle.qn_base.specs.declared.ids.Said.{Said}
use Rattle.qn_base.specs.declared.ids.Standing.{Standing}
use Rattle.qn_base.specs.declared.ids.View.{View}
use Rattle.qn_model.specs.declared.packets.Ask.{Ask}
use Rattle.qn_model.specs.declared.packets.Tell.{Tell}
use Rattle.qn_model.specs.declared.packets.Packet.{Packet}
use Rattle.qn_model.specs.declared.packets.Packet.TheVariants as packet
use Rattle.qn_wire.specs.Packets.{named_bytes, packet_bytes, is_well_formed}

-- the rank that stands there
abbrev pub rank_at : ℕ → List ℕ → Rank
rank_at place bytes = record { 0 = slice_index bytes place }

-- the view that begins there
abbrev pub view_at : ℕ → List ℕ → View
view_at place bytes =
    record { id = big_number 8 (drop place bytes); members = record { 0 = big_number 4 (drop (place + 8) bytes) } }

-- whom a node follows by its byte: 32 is nobody
abbrev pub follows_at : ℕ → Option Rank
follows_at byte = if byte == 32 then None else Some (record { 0 = byte })

-- what a Hello says
abbrev pub said_at : List ℕ → Said
said_at bytes =
    record {
      hears = record { 0 = big_number 4 (drop 4 bytes) };
      follows = follows_at (slice_index bytes 8);
      able = slice_index bytes 9 == 1;
    }

-- what a node says of itself, two bytes as they are
abbrev pub standing_at : List ℕ → Standing
standing_at bytes = record { flags = slice_index bytes 10; weight = slice_index bytes 11 }

-- the fields of an Ask, which a Tell has too
abbrev pub ask_at : List ℕ → Ask
ask_at bytes =
    record {
      from = rank_at 3 bytes;
      to = rank_at 4 bytes;
      incarnation = big_number 8 (drop 5 bytes);
      install = big_number 8 (drop 13 bytes);
      view = view_at 21 bytes;
    }

-- the fields of a Tell
abbrev pub tell_at : List ℕ → Tell
tell_at bytes =
    let shared = ask_at bytes in
    let flags = slice_index bytes 33 in
    record {
      from = shared.from;
      to = shared.to;
      incarnation = shared.incarnation;
      install = shared.install;
      view = shared.view;
      holds = flags % 2 == 1;
      released = nat_le 2 flags;
    }

-- the packet whose fields these bytes have, by their kind and their number
abbrev pub fields_of : ℕ → List ℕ → Option Packet
fields_of kind bytes =
    if kind == 1 && length bytes == 33 then Some (packet.Ask (ask_at bytes))
    else if kind == 2 && length bytes == 34 then Some (packet.Tell (tell_at bytes))
    else if kind == 3 && length bytes == 4 then Some (packet.Hello (rank_at 3 bytes))
    else if kind == 4 && length bytes == 16 then Some (packet.Announce (rank_at 3 bytes) (view_at 4 bytes))
    else if kind == 5 && length bytes == 4 then Some (packet.Vote (slice_index bytes 3 == 1))
    else if kind == 8 && length bytes == 12 then Some (packet.Heard (rank_at 3 bytes) (said_at bytes) (standing_at bytes))
    else if kind == 11 && length bytes == 16 then Some (packet.Announce (rank_at 3 bytes) (view_at 4 bytes))
    else None

-- the bytes are the spelling of a packet, or that of an announcement in the kind of named ones
abbrev pub is_spelling : Packet → List ℕ → Bool
is_spelling p bytes = bytes_eq (packet_bytes p) bytes || option_map_or (λ named. bytes_eq named bytes) (named_bytes p) false

-- the packet that the bytes spell
unfoldable pub packet_of : List ℕ → Option Packet
packet_of bytes =
    option_and_then
    (λ p. if is_well_formed p && is_spelling p bytes then Some p else None)
    (fields_of (slice_index bytes 2) bytes)
