-- The packet with which a node tells the others how it is: this project's profile. `QN`, the kind 9, the sender's rank, flags, the group, and
-- the number of its boot and for how many milliseconds it holds, in eight bytes each, the high byte first.
use Rattle.std.specs.Prelude.{◌≡◌, ◌<◌, ℕ, Bool, false, ◌+◌, ◌/◌, ◌%◌, ◌==◌, ◌&&◌, ◌||◌, nat_lt, cond, List, [], ◌∷◌, ◌++◌, length, drop, slice_index, Option, Some, None, option_and_then, if◌then◌else◌}
use Rattle.std.specs.Int.{bytes_high_first}
use Rattle.std.specs.Str.{bytes_eq}
use Rattle.byteorder.specs.Endian.{big_number}
use Rattle.qn_base.specs.declared.ids.Rank.{Rank}
use Rattle.qn_shown.specs.declared.group.Group.{Group}
use Rattle.qn_shown.specs.declared.shown.Told.{Told}
use Rattle.qn_shown.specs.Fits.{ToldFits}
use Rattle.qn_shown.specs.Groups.{group_number, group_of}

-- 1 it holds, 2 it is quorate, 4 it leaves
abbrev pub flags_of : Told → ℕ
flags_of told = cond told.holds 1 0 + cond told.quorate 2 0 + cond told.leaving 4 0

unfoldable pub told_bytes : Rank → Told → List ℕ
told_bytes from told =
    81 ∷ 78 ∷ 9 ∷ from.0 ∷ flags_of told ∷ group_number told.group ∷ [] ++ bytes_high_first 8 told.incarnation ++ bytes_high_first 8 told.held_ms

-- the sender of these bytes
abbrev pub teller_at : List ℕ → Rank
teller_at bytes = record { 0 = slice_index bytes 3 }

-- the fields of what was told, with that group
abbrev pub told_at : List ℕ → Group → Told
told_at bytes group =
    record {
      group = group;
      held_ms = big_number 8 (drop 14 bytes);
      holds = slice_index bytes 4 % 2 == 1;
      incarnation = big_number 8 (drop 6 bytes);
      leaving = slice_index bytes 4 / 4 == 1;
      quorate = slice_index bytes 4 / 2 % 2 == 1;
    }

-- only who holds has held for a time
abbrev pub is_telling : Rank → Told → Bool
is_telling from told = nat_lt from.0 32 && (told.holds || told.held_ms == 0)

abbrev pub spelled : List ℕ → Group → Option (Rank × Told)
spelled bytes group =
    if is_telling (teller_at bytes) (told_at bytes group) && bytes_eq (told_bytes (teller_at bytes) (told_at bytes group)) bytes
    then Some (teller_at bytes, told_at bytes group) else None

-- who told what, where the bytes are the spelling of that
unfoldable pub told_of : List ℕ → Option (Rank × Told)
told_of bytes = if length bytes == 22 then option_and_then (spelled bytes) (group_of (slice_index bytes 5)) else None
