-- What a value of a line says, read from the right (this project's profile).
use Rattle.std.specs.Prelude.{ℕ, ◌+◌, ◌-◌, ◌*◌, ◌==◌, ◌&&◌, List, [], ◌∷◌, ◌++◌, Option, Some, None, option_and_then, option_map, nat_le, if◌then◌else◌}
use Rattle.qn_event.specs.EventTexts.{escape_of}

-- a text as a value says it, where it has room
abbrev pub value_text : List ℕ → List ℕ
value_text [] = []
value_text (byte ∷ rest) = escape_of byte ++ value_text rest

-- the number of a digit
abbrev pub digit_value : ℕ → Option ℕ
digit_value digit =
    if nat_le 48 digit && nat_le digit 57 then Some (digit - 48)
    else if nat_le 65 digit && nat_le digit 70 then Some (digit - 55) else None

-- the byte of two digits
abbrev pub byte_of : ℕ → ℕ → Option ℕ
byte_of high low = option_and_then (λ first. option_map (λ second. 16 * first + second) (digit_value low)) (digit_value high)

-- the byte whose two digits begin what is to the right of a %
abbrev pub byte_of_digits : List ℕ → Option (List ℕ)
byte_of_digits [] = None
byte_of_digits (high ∷ []) = None
byte_of_digits (high ∷ low ∷ rest) = option_map (λ byte. byte ∷ rest) (byte_of high low)

-- a byte before what was read to the right of it
abbrev pub byte_before : ℕ → List ℕ → Option (List ℕ)
byte_before byte later = if byte == 37 then byte_of_digits later else Some (byte ∷ later)

-- the text that a value says
abbrev pub value_in : List ℕ → Option (List ℕ)
value_in [] = Some []
value_in (byte ∷ rest) = option_and_then (byte_before byte) (value_in rest)
