-- How a connection begins (doc/proto.md of NBD, "Fixed newstyle negotiation" and "NBD_OPT_GO").
use Rattle.std.specs.Prelude.{ℕ, Bool, ◌+◌, ◌%◌, ◌&&◌, ◌==◌, nat_le, List, [], ◌∷◌, ◌++◌, codes, length, drop, Option, Some, None, if◌then◌else◌}
use Rattle.std.specs.Int.{bytes_high_first}
use Rattle.byteorder.specs.Endian.{big_number}
use Rattle.qn_nbd.specs.declared.options.Reply.{Reply}
use Rattle.qn_nbd.specs.declared.options.Reply.TheVariants as reply

-- NBDMAGIC, IHAVEOPT and the server's flags, with NBD_FLAG_FIXED_NEWSTYLE among them: the client's are those of the lowest two
unfoldable pub greeting_in : List ℕ → Option ℕ
greeting_in bytes =
    if big_number 8 bytes == 0x4e42444d41474943 && big_number 8 (drop 8 bytes) == 0x49484156454f5054 && big_number 2 (drop 16 bytes) % 2 == 1
    then Some (big_number 2 (drop 16 bytes) % 4) else None

-- the client's flags; IHAVEOPT, NBD_OPT_GO, its length; the length of the name, the name, one wish: NBD_INFO_BLOCK_SIZE
unfoldable pub option_bytes : ℕ → List ℕ → List ℕ
option_bytes flags name =
    bytes_high_first 4 flags ++ codes "IHAVEOPT" ++ bytes_high_first 4 7 ++ bytes_high_first 4 (length name + 8)
    ++ bytes_high_first 4 (length name) ++ name ++ 0 ∷ 1 ∷ 0 ∷ 3 ∷ []

-- the magic of an option reply, the option, the type (NBD_REP_ACK 1, NBD_REP_INFO 3), and how many bytes follow
abbrev pub is_reply : List ℕ → Bool
is_reply bytes =
    big_number 8 bytes == 0x3e889045565a9 && big_number 4 (drop 8 bytes) == 7 && nat_le (big_number 4 (drop 16 bytes)) 4096

unfoldable pub reply_in : List ℕ → Reply
reply_in bytes =
    if is_reply bytes
    then (if big_number 4 (drop 12 bytes) == 1 then reply.Granted
    else if big_number 4 (drop 12 bytes) == 3 then reply.Tells (big_number 4 (drop 16 bytes))
    else reply.Refused)
    else reply.Strange
