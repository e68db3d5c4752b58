-- The words of a line of a running node's journal, ` KEY=VALUE` or ` KEY="VALUE"` in at most 384 bytes (this project's profile).
use Rattle.std.specs.Prelude.{ℕ, ◌+◌, ◌-◌, ◌≤◌, ◌==◌, ◌||◌, ◌&&◌, IsTrue, All, List, ◌∷◌, ◌++◌, [], length, min, nat_le, nat_lt, if◌then◌else◌}
use Rattle.qn_event.specs.EventTexts.{escape_of, is_value_byte}

-- how much room a byte of a text wants: its own, that of %XX, or that of the longest character that it may begin
abbrev pub room_for : ℕ → ℕ
room_for byte = if nat_le 192 byte then 4 else if is_value_byte byte then 1 else 3

-- what of a text has so much room, as a value says it: a character whole or not at all
abbrev pub escaped_in : ℕ → List ℕ → List ℕ
escaped_in room [] = []
escaped_in room (byte ∷ rest) =
    if nat_le (room_for byte) room then escape_of byte ++ escaped_in (room - length (escape_of byte)) rest else []

-- a byte as a value in quotation marks says it: a space and a = stand for themselves
abbrev pub quoted_of : ℕ → List ℕ
quoted_of byte = if byte == 32 || byte == 61 then byte ∷ [] else escape_of byte

-- what of a text has so much room in quotation marks, where the last two bytes of it are for what follows
abbrev pub quoted_in : ℕ → List ℕ → List ℕ
quoted_in room [] = []
quoted_in room (byte ∷ rest) =
    if nat_le 5 room then quoted_of byte ++ quoted_in (room - length (quoted_of byte)) rest else []

-- words and a byte after them, where it has room
abbrev pub with_byte : List ℕ → ℕ → List ℕ
with_byte words byte = if nat_lt (length words) 384 then words ++ byte ∷ [] else words

-- words and a text after them, of at most so many bytes
unfoldable pub with_text : List ℕ → ℕ → List ℕ → List ℕ
with_text words most text = words ++ escaped_in (min most (384 - length words)) text

-- words and ` KEY=` after them
abbrev pub with_key : List ℕ → List ℕ → List ℕ
with_key words key = with_byte (with_text (with_byte words 32) (length key) key) 61

-- words and ` KEY=VALUE` after them, where a value has at most so many bytes
unfoldable pub with_word : List ℕ → List ℕ → List ℕ → ℕ → List ℕ
with_word words key value most = with_text (with_key words key) most value

-- words and a text in quotation marks after them
abbrev pub with_quoted_text : List ℕ → List ℕ → List ℕ
with_quoted_text words text = words ++ quoted_in (384 - length words) text

-- words and ` KEY="VALUE"` after them
unfoldable pub with_quoted : List ℕ → List ℕ → List ℕ → List ℕ
with_quoted words key value = with_byte (with_quoted_text (with_byte (with_key words key) 34) value) 34

-- a byte that stands for itself and begins no longer character
abbrev pub IsPlainByte : ℕ → Type 0
IsPlainByte byte = IsTrue (is_value_byte byte && nat_lt byte 192)

-- a key and a value of such bytes, for which there is room after words
pub record Stands (words key value : List ℕ) (most : ℕ) : Type 0 where
  pub plain_key : All IsPlainByte key
  pub plain_value : All IsPlainByte value
  pub short : length value ≤ most
  pub room : length words + length key + length value + 2 ≤ 384

-- words and ` KEY=VALUE` after them, as they are
abbrev pub with_plain_word : List ℕ → List ℕ → List ℕ → List ℕ
with_plain_word words key value = words ++ 32 ∷ key ++ 61 ∷ value
