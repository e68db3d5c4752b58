-- A sealed packet: a head, the packet, and a tag over the text of the cluster and both.
use Rattle.std.specs.Prelude.{◌≡◌, ℕ, ◌<◌, ◌≤◌, ◌^◌, List, [], ◌∷◌, ◌++◌, codes, length, slice_index}
use Rattle.std.specs.Int.{bytes_high_first}
use Rattle.sha2.specs.Sha256.{sha256}
use Rattle.qn_seal.specs.Hmac.{hmac}
use Rattle.qn_seal.specs.declared.keys.Key.{Key}
use Rattle.qn_seal.specs.declared.seals.Seal.{Seal}

-- the key of the bytes of a key file: its secret is their digest, and its number the first byte of the tag of no bytes
unfoldable pub key_of : List ℕ → Key
key_of file = record { number = slice_index (hmac (sha256 file) []) 0; secret = sha256 file }

-- the head: `QN`, the kind of a sealed packet, the number of the key, from, to, boot, number
unfoldable pub head_bytes : ℕ → Seal → List ℕ
head_bytes number s =
    codes "QN" ++ 32 ∷ number ∷ s.from ∷ s.to ∷ [] ++ bytes_high_first 8 s.boot ++ bytes_high_first 8 s.number

-- bytes with their tag
abbrev pub tagged : Key → List ℕ → List ℕ → List ℕ
tagged key text bytes = bytes ++ hmac key.secret (text ++ bytes)

-- a sealed packet
abbrev pub sealed : Key → List ℕ → Seal → List ℕ → List ℕ
sealed key text seal inner = tagged key text (head_bytes key.number seal ++ inner)

-- the numbers of a seal have eight bytes each
pub record IsSeal (seal : Seal) : Type 0 where
  pub boot : seal.boot < 2 ^ 64
  pub number : seal.number < 2 ^ 64

-- these bytes are the packet `inner` under that seal of that key
pub record Spells (key : Key) (text bytes : List ℕ) (seal : Seal) (inner : List ℕ) : Type 0 where
  pub long : 4 ≤ length inner
  pub short : length inner ≤ 74
  pub spelling : bytes ≡ sealed key text seal inner
