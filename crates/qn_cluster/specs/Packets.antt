-- The packets that were sent, by what is kept of them: this project's profile.
use Rattle.std.specs.Prelude.{◌≤◌, ◌+◌, ℕ, List, map, vec_capacity, vec_len}
use Rattle.qn_model.specs.declared.packets.Sent.{Sent}
use Rattle.qn_cluster.specs.declared.packets.Packets.{Packets}
use Rattle.qn_cluster.specs.Kept.{sent_of}

-- the packets that were sent, in order
abbrev pub sents : Packets → List Sent
sents packets = map (sent_of packets.headings.items) packets.kept.items

-- there is room for so many packets more
pub record HasRoomFor (count : ℕ) (packets : Packets) : Type 0 where
  pub headings : vec_len packets.headings + count ≤ vec_capacity packets.headings
  pub kept : vec_len packets.kept + count ≤ vec_capacity packets.kept
