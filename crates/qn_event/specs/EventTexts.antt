-- The bytes of a running node's journal (this project's profile).
use Rattle.std.specs.Prelude.{ℕ, ◌+◌, ◌/◌, ◌%◌, ◌==◌, ◌&&◌, Bool, not, IsTrue, List, ◌∷◌, [], nat_le, if◌then◌else◌}
use Rattle.qn_event.specs.declared.level.Level.{Level}

-- a line: its level, what it begins with up to the name of its event, and the rest
pub record EventText : Type 0 where
  pub level : Level
  pub head : List ℕ
  pub words : List ℕ

-- a byte of a line: no control, so that a line is one line
abbrev pub IsLineByte : ℕ → Type 0
IsLineByte byte = IsTrue (nat_le 32 byte && not (byte == 127))

-- a byte that stands for itself in a value: no control, no space, no ", no % and no =
abbrev pub is_value_byte : ℕ → Bool
is_value_byte byte = nat_le 33 byte && not (byte == 34) && not (byte == 37) && not (byte == 61) && not (byte == 127)

-- a digit of a number below 16
abbrev pub hex_digit : ℕ → ℕ
hex_digit digit = if nat_le digit 9 then 48 + digit else 55 + digit

-- a byte as a value says it: itself, or %XX
abbrev pub escape_of : ℕ → List ℕ
escape_of byte =
    if is_value_byte byte then byte ∷ [] else 37 ∷ hex_digit (byte / 16) ∷ hex_digit (byte % 16) ∷ []

-- the three digits of milliseconds
abbrev pub three_digits : ℕ → List ℕ
three_digits ms = (48 + ms / 100) ∷ (48 + (ms / 10) % 10) ∷ (48 + ms % 10) ∷ []
