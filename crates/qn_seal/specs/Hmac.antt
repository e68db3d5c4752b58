-- HMAC-SHA-256 of RFC 2104, section 2, at a key of 32 bytes.
use Rattle.std.specs.Prelude.{ℕ, List, ◌++◌, map, replicate, bit_xor}
use Rattle.sha2.specs.Sha256.{sha256}

-- a key of 32 bytes, filled with zeros to a block of 64 bytes, each of them xored with one byte
abbrev pub padded : ℕ → List ℕ → List ℕ
padded byte key = map (λ b. bit_xor b byte) key ++ replicate 32 byte

-- the tag of a message
abbrev pub hmac : List ℕ → List ℕ → List ℕ
hmac key message = sha256 (padded 0x5c key ++ sha256 (padded 0x36 key ++ message))
