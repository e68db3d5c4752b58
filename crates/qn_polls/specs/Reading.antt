-- How polls and replies are read: the fields are taken from their places, and count only where they are in range and the bytes are
-- their spelling.
use Rattle.std.specs.Prelude.{ℕ, ◌&&◌, ◌==◌, List, length, drop, slice_index, Option, Some, None, if◌then◌else◌}
use Rattle.std.specs.Str.{bytes_eq}
use Rattle.byteorder.specs.Endian.{big_number}
use Rattle.qn_wire.specs.Reading.{rank_at, view_at}
use Rattle.qn_safety.specs.declared.polls.Poll.{Poll}
use Rattle.qn_safety.specs.declared.polls.Reply.{Reply}
use Rattle.qn_polls.specs.Polls.{is_poll, is_reply, poll_bytes, reply_bytes}

-- the fields of a poll
abbrev pub poll_at : List ℕ → Poll
poll_at bytes =
    record {
      from = rank_at 3 bytes;
      number = big_number 8 (drop 4 bytes);
      incarnation = big_number 8 (drop 12 bytes);
      install = big_number 8 (drop 20 bytes);
      view = view_at 28 bytes;
    }

-- the fields of a reply
abbrev pub reply_at : List ℕ → Reply
reply_at bytes =
    record {
      to = rank_at 3 bytes;
      number = big_number 8 (drop 4 bytes);
      incarnation = big_number 8 (drop 12 bytes);
      install = big_number 8 (drop 20 bytes);
      agrees = slice_index bytes 28 == 1;
    }

-- the poll that the bytes spell
unfoldable pub poll_of : List ℕ → Option Poll
poll_of bytes =
    if length bytes == 40
    then (if is_poll (poll_at bytes) && bytes_eq (poll_bytes (poll_at bytes)) bytes then Some (poll_at bytes) else None)
    else None

-- the reply that the bytes spell
unfoldable pub reply_of : List ℕ → Option Reply
reply_of bytes =
    if length bytes == 29
    then (if is_reply (reply_at bytes) && bytes_eq (reply_bytes (reply_at bytes)) bytes then Some (reply_at bytes) else None)
    else None
