-- What a client of a block server did over a line, by what was written to the line and what was still to be read of it, before and after.
use Rattle.std.specs.Prelude.{◌≡◌, ℕ, ◌+◌, ◌*◌, ◌-◌, ◌%◌, ◌^◌, Bool, true, false, List, [], ◌++◌, length, replicate, Option}
use Rattle.std.specs.Io.KnownBytes.{Appends, Consumes, Keeps}
use Rattle.qn_nbd.specs.Requests.{answer_of, request_bytes}
use Rattle.qn_nbd.specs.declared.requests.Answer.{Answer}
use Rattle.qn_nbd.specs.declared.requests.Answer.TheVariants as answer
use Rattle.qn_nbd.specs.declared.requests.Command.TheVariants as command
use Rattle.qn_exchange.specs.declared.nbd_client.NbdClient.{NbdClient}
use Rattle.qn_exchange.specs.declared.nbd_client.Stride.{Stride}
use Rattle.qn_exchange.specs.declared.nbd_client.Stride.TheVariants as stride

-- from the place of a sector to that of the next one; of 4096 bytes the first 512 are used
abbrev pub place_bytes : Stride → ℕ
place_bytes stride.Short = 512
place_bytes stride.Long = 4096

abbrev pub place_at : Stride → ℕ → ℕ
place_at apart sector = sector * place_bytes apart

-- how many bytes of a place are not used
abbrev pub unused_bytes : Stride → ℕ
unused_bytes stride.Short = 0
unused_bytes stride.Long = 3584

-- numbers have eight bytes
abbrev pub next_number : ℕ → ℕ
next_number number = (number + 1) % 2 ^ 64

-- the request was sent whole; a head that says this to the request of that number was read whole, and behind it these bytes, and no more
pub record Exchanged (wrote writes unread rest : Option (List ℕ)) (request : List ℕ) (number : ℕ) (said : Answer) (bytes : List ℕ) : Type 0 where
  pub sent : Appends wrote writes request
  pub head : List ℕ
  pub whole : length head ≡ 16
  pub says : said ≡ answer_of number head
  pub takes : Consumes unread rest (head ++ bytes)

-- what the answer of a request says that was done, and of one that was not
abbrev pub answer_for : Bool → Answer
answer_for true = answer.Done
answer_for false = answer.Failed

abbrev pub read_request : NbdClient → ℕ → List ℕ
read_request client sector =
    request_bytes command.Read client.number (place_at client.stride sector) (place_bytes client.stride)

abbrev pub write_request : NbdClient → ℕ → List ℕ → List ℕ
write_request client sector bytes =
    request_bytes command.Write client.number (place_at client.stride sector) (place_bytes client.stride)
    ++ bytes ++ replicate (unused_bytes client.stride) 0

-- the sector was read, or the server could not do it: the bytes are those behind the answer of this very request
abbrev pub ReadsSector : NbdClient → ℕ → Option (List ℕ) → Option (List ℕ) → Option (List ℕ) → Option (List ℕ) → Bool → List ℕ → Type 0
ReadsSector client sector wrote writes unread rest true bytes =
    (unused : List ℕ) × (length unused ≡ unused_bytes client.stride)
    × Exchanged wrote writes unread rest (read_request client sector) client.number answer.Done (bytes ++ unused)
ReadsSector client sector wrote writes unread rest false bytes =
    Exchanged wrote writes unread rest (read_request client sector) client.number answer.Failed []

-- the sector was written, or the server could not do it: so says the answer of this very request
abbrev pub WritesSector : NbdClient → ℕ → Option (List ℕ) → Option (List ℕ) → Option (List ℕ) → Option (List ℕ) → Bool → List ℕ → Type 0
WritesSector client sector wrote writes unread rest done bytes =
    Exchanged wrote writes unread rest (write_request client sector bytes) client.number (answer_for done) []

-- so many bytes were read, and nothing was written
pub record Skips (wrote writes unread rest : Option (List ℕ)) (count : ℕ) : Type 0 where
  pub bytes : List ℕ
  pub size : length bytes ≡ count
  pub takes : Consumes unread rest bytes
  pub keeps : Keeps wrote writes
