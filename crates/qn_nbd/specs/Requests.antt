-- Requests for the bytes of an export and their answers (doc/proto.md of NBD, "Request message" and "Simple reply message").
use Rattle.std.specs.Prelude.{ℕ, ◌&&◌, ◌==◌, List, [], ◌∷◌, ◌++◌, drop, if◌then◌else◌}
use Rattle.std.specs.Int.{bytes_high_first}
use Rattle.byteorder.specs.Endian.{big_number}
use Rattle.qn_nbd.specs.declared.requests.Command.{Command}
use Rattle.qn_nbd.specs.declared.requests.Command.TheVariants as command
use Rattle.qn_nbd.specs.declared.requests.Answer.{Answer}
use Rattle.qn_nbd.specs.declared.requests.Answer.TheVariants as answer

-- flags and type: NBD_CMD_READ with none; NBD_CMD_WRITE with NBD_CMD_FLAG_FUA, so that it lasts when it is answered
abbrev pub command_bytes : Command → List ℕ
command_bytes command.Read = 0 ∷ 0 ∷ 0 ∷ 0 ∷ []
command_bytes command.Write = 0 ∷ 1 ∷ 0 ∷ 1 ∷ []

-- NBD_REQUEST_MAGIC, flags and type, the cookie, the offset and the length; at a write the bytes follow
unfoldable pub request_bytes : Command → ℕ → ℕ → ℕ → List ℕ
request_bytes c number at count =
    0x25 ∷ 0x60 ∷ 0x95 ∷ 0x13 ∷ [] ++ command_bytes c ++ bytes_high_first 8 number ++ bytes_high_first 8 at ++ bytes_high_first 4 count

-- NBD_SIMPLE_REPLY_MAGIC, the error and the cookie: what they say to the request with that cookie
unfoldable pub answer_of : ℕ → List ℕ → Answer
answer_of number bytes =
    if big_number 4 bytes == 0x67446698 && big_number 8 (drop 8 bytes) == number
    then (if big_number 4 (drop 4 bytes) == 0 then answer.Done else answer.Failed)
    else answer.Strange
