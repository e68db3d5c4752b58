-- What a server tells of an export (doc/proto.md of NBD, "NBD_INFO_EXPORT", "NBD_INFO_BLOCK_SIZE", "Transmission flags").
use Rattle.std.specs.Prelude.{ℕ, Bool, not, ◌/◌, ◌%◌, ◌&&◌, ◌==◌, nat_lt, List, length, drop, Option, Some, None, if◌then◌else◌}
use Rattle.byteorder.specs.Endian.{big_number}
use Rattle.qn_nbd.specs.declared.exports.Export.{Export}
use Rattle.qn_nbd.specs.declared.exports.Unfit.{Unfit}
use Rattle.qn_nbd.specs.declared.exports.Unfit.TheVariants as unfit_for

-- NBD_INFO_EXPORT is 0, size and flags, 12 bytes; NBD_INFO_BLOCK_SIZE is 3, least block, preferred and greatest, 14 bytes
unfoldable pub told : Export → List ℕ → Export
told export bytes =
    if length bytes == 12 && big_number 2 bytes == 0
    then record { size = big_number 8 (drop 2 bytes); flags = big_number 2 (drop 10 bytes); least_block = export.least_block }
    else if length bytes == 14 && big_number 2 bytes == 3
    then record { size = export.size; flags = export.flags; least_block = big_number 4 (drop 2 bytes) }
    else export

-- NBD_FLAG_READ_ONLY
abbrev pub is_read_only : Export → Bool
is_read_only export = export.flags / 2 % 2 == 1

-- NBD_FLAG_SEND_FUA
abbrev pub is_lasting : Export → Bool
is_lasting export = export.flags / 8 % 2 == 1

-- why an image with places of so many bytes, and so many bytes in all, cannot lie there
unfoldable pub unfit : Export → ℕ → ℕ → Option Unfit
unfit export place all =
    if nat_lt export.size all then Some unfit_for.Short
    else if nat_lt place export.least_block then Some unfit_for.LongBlocks
    else if not (is_lasting export) && not (is_read_only export) then Some unfit_for.NotLasting
    else None
