-- How a sealed packet is read: the fields are taken from their places, and count only where the bytes are their spelling.
use Rattle.std.specs.Prelude.{ℕ, ◌-◌, ◌&&◌, nat_le, List, length, drop, take, slice_index, Option, Some, None, if◌then◌else◌}
use Rattle.std.specs.Str.{bytes_eq}
use Rattle.byteorder.specs.Endian.{big_number}
use Rattle.qn_seal.specs.declared.keys.Key.{Key}
use Rattle.qn_seal.specs.declared.seals.Seal.{Seal}
use Rattle.qn_seal.specs.Seals.{sealed}

abbrev pub seal_at : List ℕ → Seal
seal_at bytes =
    record { from = slice_index bytes 4; to = slice_index bytes 5; boot = big_number 8 (drop 6 bytes); number = big_number 8 (drop 14 bytes) }

-- what stands between the head and the tag
abbrev pub inner_at : List ℕ → List ℕ
inner_at bytes = drop 22 (take (length bytes - 32) bytes)

-- the seal and the packet in it, where the key sealed these bytes
unfoldable pub opened : Key → List ℕ → List ℕ → Option (Seal × List ℕ)
opened key text bytes =
    if nat_le 58 (length bytes) && nat_le (length bytes) 128 && bytes_eq (sealed key text (seal_at bytes) (inner_at bytes)) bytes
    then Some (seal_at bytes, inner_at bytes) else None
