-- Which of the packets that came are taken: those for this node, under one of its keys, each once, and none too far behind (RFC 6479).
use Rattle.std.specs.Prelude.{ℕ, Bool, true, not, bit_or, ◌+◌, ◌-◌, ◌*◌, ◌/◌, ◌%◌, ◌^◌, ◌&&◌, ◌||◌, ◌==◌, nat_le, nat_lt, List, length, slice_index, slice_index_or, slice_set, Option, Some, None, Result, Ok, Err, if◌then◌else◌}
use Rattle.qn_seal.specs.declared.keys.Key.{Key}
use Rattle.qn_seal.specs.declared.keys.Keys.{Keys}
use Rattle.qn_seal.specs.declared.keys.Texts.{Texts}
use Rattle.qn_seal.specs.declared.seals.Seal.{Seal}
use Rattle.qn_seal.specs.declared.receiver.Newest.{Newest}
use Rattle.qn_seal.specs.declared.receiver.Receiver.{Receiver}
use Rattle.qn_seal.specs.declared.receiver.Refused.{Refused}
use Rattle.qn_seal.specs.declared.receiver.Refused.TheVariants as refused
use Rattle.qn_seal.specs.Opening.{opened}

-- nothing was taken of the sender for ten seconds
abbrev pub is_forgotten : Newest → ℕ → Bool
is_forgotten last tick = nat_le (last.tick + 10000) tick

-- the number counts as taken: it was, or it is 64 or more behind the greatest
abbrev pub is_taken : Newest → ℕ → Bool
is_taken last number =
    nat_le number last.number && (nat_le 64 (last.number - number) || last.seen / 2 ^ (last.number - number) % 2 == 1)

-- of a later boot, or of the same one and not taken yet; after ten seconds without one every packet is
abbrev pub is_newer_than : Option Newest → Seal → ℕ → Bool
is_newer_than None seal tick = true
is_newer_than (Some last) seal tick =
    is_forgotten last tick || nat_lt last.boot seal.boot || last.boot == seal.boot && not (is_taken last seal.number)

-- which of the 64 numbers up to a greater one, so many steps on, were taken once that was
abbrev pub seen_after : ℕ → ℕ → ℕ
seen_after seen steps = if nat_lt steps 64 then bit_or (seen * 2 ^ steps % 2 ^ 64) 1 else 1

abbrev pub first_newest : Seal → ℕ → Newest
first_newest seal tick = record { boot = seal.boot; number = seal.number; tick = tick; seen = 1 }

-- the bit of a number so far behind
abbrev pub late_bit : ℕ → ℕ
late_bit behind = if nat_lt behind 64 then 2 ^ behind else 0

-- what was taken of a sender, once that packet of the same boot was
abbrev pub same_boot_after : Newest → Seal → ℕ → Newest
same_boot_after last seal tick =
    if nat_lt last.number seal.number
    then record { boot = seal.boot; number = seal.number; tick = tick; seen = seen_after last.seen (seal.number - last.number) }
    else record { boot = seal.boot; number = last.number; tick = tick; seen = bit_or last.seen (late_bit (last.number - seal.number)) }

-- what was taken of a sender, once that packet was
abbrev pub newest_after : Option Newest → Seal → ℕ → Newest
newest_after None seal tick = first_newest seal tick
newest_after (Some last) seal tick =
    if is_forgotten last tick || nat_lt last.boot seal.boot then first_newest seal tick else same_boot_after last seal tick

-- what one key opens, where there is that key
abbrev pub opened_with : Option Key → List ℕ → List ℕ → Option (Seal × List ℕ)
opened_with None text bytes = None
opened_with (Some key) text bytes = opened key text bytes

abbrev pub first_of : Option (Seal × List ℕ) → Option (Seal × List ℕ) → Option (Seal × List ℕ)
first_of None other = other
first_of (Some found) other = Some found

-- what the first key that opens the bytes beside that text gives
unfoldable pub opened_beside : Keys → List ℕ → List ℕ → Option (Seal × List ℕ)
opened_beside keys text bytes =
    first_of (opened keys.first text bytes)
    (first_of (opened_with keys.second text bytes) (opened_with keys.third text bytes))

-- the same beside a text, where there is that text
abbrev pub opened_beside_other : Keys → Option (List ℕ) → List ℕ → Option (Seal × List ℕ)
opened_beside_other keys None bytes = None
opened_beside_other keys (Some text) bytes = opened_beside keys text bytes

-- what the keys give beside the first of the texts that a key opens the bytes beside
unfoldable pub opened_by : Keys → Texts → List ℕ → Option (Seal × List ℕ)
opened_by keys texts bytes = first_of (opened_beside keys texts.first bytes) (opened_beside_other keys texts.second bytes)

-- of another configured node or of the arbiter, whose seat is 32, to this one
abbrev pub is_for : Receiver → Seal → Bool
is_for receiver seal =
    seal.to == receiver.rank && not (seal.from == receiver.rank)
    && (seal.from == 32 || nat_lt seal.from receiver.nodes && nat_lt seal.from 32)

-- a packet of one rank to another: kind 1 to 4, 8, 9 or 11, of its length, of that sender and, where it names one, to that receiver
unfoldable pub is_of_rank : Seal → List ℕ → Bool
is_of_rank seal inner =
    slice_index inner 3 == seal.from
    && (slice_index inner 2 == 3 && length inner == 4 || slice_index inner 2 == 4 && length inner == 16
    || slice_index inner 2 == 8 && length inner == 12 || slice_index inner 2 == 9 && length inner == 22
    || slice_index inner 2 == 11 && length inner == 16
    || slice_index inner 2 == 1 && length inner == 33 && slice_index inner 4 == seal.to
    || slice_index inner 2 == 2 && length inner == 34 && slice_index inner 4 == seal.to)

-- a poll of the arbiter, kind 6, of that rank
unfoldable pub is_poll : Seal → List ℕ → Bool
is_poll seal inner = slice_index inner 2 == 6 && length inner == 40 && slice_index inner 3 == seal.from

-- a reply of the arbiter, kind 7, to that rank
unfoldable pub is_reply : Seal → List ℕ → Bool
is_reply seal inner = slice_index inner 2 == 7 && length inner == 29 && slice_index inner 3 == seal.to

-- the arbiter is sent polls alone and sends replies alone; what a rank sends another is neither
unfoldable pub is_inner : Seal → List ℕ → Bool
is_inner seal inner =
    slice_index inner 0 == 81 && slice_index inner 1 == 78
    && (if seal.from == 32 then is_reply seal inner
    else if seal.to == 32 then is_poll seal inner
    else is_of_rank seal inner)

-- the packet that is taken, or why none is
abbrev pub judged : Receiver → ℕ → Option (Seal × List ℕ) → Result (List ℕ) Refused
judged receiver tick None = Err refused.Unsealed
judged receiver tick (Some parts) =
    if is_for receiver parts.0 && is_inner parts.0 parts.1
    then (if is_newer_than (slice_index_or receiver.newest parts.0.from None) parts.0 tick then Ok parts.1 else Err refused.Old)
    else Err refused.Astray

-- the receiver once it took that packet: it is among what was taken of its sender, and nothing else changed
abbrev pub receiver_after : Receiver → ℕ → Option (Seal × List ℕ) → Receiver
receiver_after receiver tick None = receiver
receiver_after receiver tick (Some parts) =
    record {
      rank = receiver.rank;
      nodes = receiver.nodes;
      keys = receiver.keys;
      texts = receiver.texts;
      newest = slice_set receiver.newest parts.0.from (Some (newest_after (slice_index_or receiver.newest parts.0.from None) parts.0 tick));
    }
