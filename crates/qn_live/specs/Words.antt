-- What a running node says of itself: the words of its own host, and whether it holds. This project's profile; the words are
-- after Pacemaker's standby, location scores and moves.
use Rattle.std.specs.Prelude.{ℕ, Bool, ◌+◌, ◌*◌, ◌%◌, ◌==◌, ◌&&◌, ◌||◌, nat_le, nat_lt, List, Option, None, Some, is_some, length, slice_index, option_and_then, if◌then◌else◌}
use Rattle.std.specs.Option.{option_map_or}
use Rattle.qn_base.specs.declared.calls.Received.{Received}
use Rattle.qn_base.specs.declared.calls.Received.TheVariants as received
use Rattle.qn_base.specs.declared.ids.Standing.{Standing}
use Rattle.qn_member.specs.Naming.{has_bit, pulls_bit}
use Rattle.qn_live.specs.declared.words.Words.{Words}
use Rattle.qn_live.specs.declared.words.Own.{Own}

-- at first a host says nothing
abbrev pub no_words : Words
no_words = record { said = record { flags = 0; weight = 0 }; pulls_since = None }

-- the bytes are a word of the node's own host: `QN`, a kind that no packet has, flags below 8, and a weight
abbrev pub is_word : List ℕ → Bool
is_word bytes =
    length bytes == 5 && slice_index bytes 0 == 81 && slice_index bytes 1 == 78 && slice_index bytes 2 == 13 && nat_lt (slice_index bytes 3) 8

-- the word that these bytes are, if they are one
abbrev pub word_of : List ℕ → Option Standing
word_of bytes =
    if is_word bytes then Some (record { flags = slice_index bytes 3; weight = slice_index bytes 4 }) else None

abbrev pub word_in : Received → Option Standing
word_in (received.Packet bytes) = word_of bytes
word_in received.Nothing = None
word_in received.Failed = None

-- a word asks for the resource
abbrev pub asks_to_hold : Standing → Bool
asks_to_hold said = has_bit said.flags pulls_bit

-- since when the node asks for it: from the first of the words in a row that ask
abbrev pub pulls_after : ℕ → Words → Standing → Option ℕ
pulls_after tick words said =
    if asks_to_hold said then (if asks_to_hold words.said then words.pulls_since else Some tick) else None

-- the words of a host after something came at a tick
abbrev pub words_after : ℕ → Received → Words → Words
words_after tick got words =
    option_map_or (λ said. record { said = said; pulls_since = pulls_after tick words said }) (word_in got) words

-- the node asks until it holds, and for sixty loops at most
abbrev pub goes_on_pulling : ℕ → ℕ → Bool → ℕ → Option ℕ
goes_on_pulling tick loop_ms holds since = if holds || nat_le (since + 60 * loop_ms) tick then None else Some since

abbrev pub words_at : ℕ → ℕ → Bool → Words → Words
words_at tick loop_ms holds words = record words { pulls_since = option_and_then (goes_on_pulling tick loop_ms holds) words.pulls_since }

-- what the node says by these words: whether it is barred (1), unfit (2), and whether it asks for the resource (4)
abbrev pub standing_by : Words → Standing
standing_by words =
    record { flags = words.said.flags % 4 + (if is_some words.pulls_since then 4 else 0); weight = words.said.weight }

abbrev pub own_by : Words → Bool → Own
own_by words holds = record { said = standing_by words; holds = holds }
