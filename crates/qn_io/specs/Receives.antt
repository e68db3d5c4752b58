-- What a receive gives (this project's profile).
use Rattle.std.specs.Prelude.{ℕ, ◌≤◌, List, take}
use Rattle.qn_base.specs.declared.calls.Received.{Received}
use Rattle.qn_base.specs.declared.calls.Received.TheVariants as told
use Rattle.qn_io.specs.declared.calls.Got.{Got}
use Rattle.qn_io.specs.declared.calls.Got.TheVariants as got

-- a packet has at most 129 bytes
abbrev pub FitsPacket : Got → Type 0
FitsPacket (got.Packet length) = length ≤ 129
FitsPacket got.Nothing = Unit {0}
FitsPacket got.Failed = Unit {0}

-- what was received, as it is told: a packet is a prefix of the buffer
abbrev pub received : Got → List ℕ → Received
received (got.Packet length) buffer = told.Packet (take length buffer)
received got.Nothing buffer = told.Nothing
received got.Failed buffer = told.Failed
