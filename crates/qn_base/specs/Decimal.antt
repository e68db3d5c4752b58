use Rattle.std.specs.Prelude.{ℕ, Bool, List, Option, Some, None, ◌^◌, ◌&&◌, length, nat_le, nat_lt, if◌then◌else◌}
use Rattle.std.specs.Str.{all_ascii_digits}
use Rattle.std.specs.Str.Parse.{digits_value}

-- 1 to 20 decimal digits
abbrev pub is_decimal : List ℕ → Bool
is_decimal text = nat_le 1 (length text) && nat_le (length text) 20 && all_ascii_digits text

-- the number of 64 bits that a text of 1 to 20 decimal digits spells
abbrev pub number_of : List ℕ → Option ℕ
number_of text =
    if is_decimal text && nat_lt (digits_value 10 text) (2 ^ 64) then Some (digits_value 10 text) else None
