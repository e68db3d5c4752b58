-- The number of the next view: it counts on, and its high byte is the name. This project's profile.
use Rattle.std.specs.Prelude.{ℕ, Bool, ◌+◌, ◌-◌, ◌*◌, ◌/◌, ◌%◌, ◌^◌, ◌&&◌, ◌||◌, ◌==◌, nat_lt, min, if◌then◌else◌}
use Rattle.qn_candidate.specs.declared.candidate.Name.{Name}
use Rattle.qn_candidate.specs.declared.candidate.Name.TheVariants as name

-- whether the high byte of a number names a rank, or that nobody may start
abbrev pub is_name : ℕ → Bool
is_name number = nat_lt 0 (number / 2 ^ 56) && nat_lt (number / 2 ^ 56) 33 || number / 2 ^ 56 == 254

-- a number without its name
abbrev pub without_name : ℕ → ℕ
without_name number = if is_name number then number % 2 ^ 56 else number

-- no number without a name follows
abbrev pub is_last : ℕ → Bool
is_last number = number == 18446744073709551615 || is_name (number + 1)

-- the next number without a name, the same again where there is none
abbrev pub next_plain : ℕ → ℕ
next_plain number = if is_last number then number else number + 1

-- the next number under a name
abbrev pub under_name : ℕ → ℕ → ℕ
under_name high number = high * 2 ^ 56 + min (number % 2 ^ 56 + 1) (2 ^ 56 - 1)

-- the number of the next view with a name, after the greatest number so far; a rank of 32 or more is no name
abbrev pub number_of : Name → ℕ → ℕ
number_of name.Least greatest = next_plain (without_name greatest)
number_of (name.One rank) greatest = if nat_lt rank.0 32 then under_name (rank.0 + 1) (without_name greatest) else next_plain (without_name greatest)
number_of name.Nobody greatest = under_name 254 (without_name greatest)
