-- How the packets of a node are sent (this project's profile).
use Rattle.std.specs.Prelude.{ℕ, ◌<◌, ◌≤◌, List, length, Option, Some, None, slice_set}
use Rattle.qn_seal.specs.Seals.{sealed}
use Rattle.qn_peers.specs.Numbers.{next_number}
use Rattle.qn_peers.specs.declared.sealing.Sealing.{Sealing}

-- under the next seal to that seat
abbrev pub sealed_by : Sealing → ℕ → List ℕ → List ℕ
sealed_by sealing to packet =
    sealed sealing.key sealing.text
    (record { from = sealing.from.0; to = to; boot = sealing.boot; number = next_number sealing.sent to }) packet

-- one more packet was sealed for that seat
abbrev pub sealed_once : Sealing → ℕ → Sealing
sealed_once sealing to = record sealing { sent = slice_set sealing.sent to (next_number sealing.sent to) }

-- what is sent: with a key the packet under a seal, else the packet
abbrev pub sent_as : Option Sealing → ℕ → List ℕ → List ℕ
sent_as None to packet = packet
sent_as (Some sealing) to packet = sealed_by sealing to packet

abbrev pub sealing_after : Option Sealing → ℕ → Option Sealing
sealing_after None to = None
sealing_after (Some sealing) to = Some (sealed_once sealing to)

-- a packet that can be sent to that seat: with a key one of at most 74 bytes to a rank or the arbiter, else one of at most 128
abbrev pub CanBeSent : Option Sealing → ℕ → List ℕ → Type 0
CanBeSent None to packet = length packet ≤ 128
CanBeSent (Some sealing) to packet = (to < 33) × (length packet ≤ 74)
