-- Texts that stand between quotes as they are.
use Rattle.std.specs.Prelude.{ℕ, Bool, List, ◌&&◌, ◌==◌, not, nat_le}
use Rattle.std.specs.List.{list_all}

-- a byte from `-` to `z` that is no backslash: letters, digits, and the marks of a condition
abbrev pub is_plain : ℕ → Bool
is_plain byte = nat_le 45 byte && nat_le byte 122 && not (byte == 92)

-- a text of such bytes alone
abbrev pub are_plain : List ℕ → Bool
are_plain text = list_all is_plain text
