-- The bytes of packets: this project's profile. A packet is `QN`, a byte for its kind, and then its fields. A rank
-- is one byte, and numbers are big-endian.
use Rattle.std.specs.Prelude.{◌≡◌, ◌⊎◌, ℕ, Bool, true, IsTrue, ◌&&◌, ◌||◌, ◌+◌, ◌/◌, ◌^◌, nat_lt, List, [], ◌∷◌, ◌++◌, codes, cond, Option, None, Some, if◌then◌else◌}
use Rattle.std.specs.Int.{bytes_high_first}
use Rattle.std.specs.Option.{option_map_or}
use Rattle.qn_base.specs.declared.ids.Rank.{Rank}
use Rattle.qn_base.specs.declared.ids.Said.{Said}
use Rattle.qn_base.specs.declared.ids.Standing.{Standing}
use Rattle.qn_base.specs.declared.ids.View.{View}
use Rattle.qn_base.specs.Candidates.{is_barred}
use Rattle.qn_base.specs.Members.{is_member}
use Rattle.qn_model.specs.declared.packets.Ask.{Ask}
use Rattle.qn_model.specs.declared.packets.Tell.{Tell}
use Rattle.qn_model.specs.declared.packets.Packet.{Packet}
use Rattle.qn_model.specs.declared.packets.Packet.TheVariants as packet

-- what a packet of this kind begins with
abbrev pub head_bytes : ℕ → List ℕ
head_bytes kind = codes "QN" ++ kind ∷ []

-- a view: its id, and its members, where bit r stands for rank r
abbrev pub view_bytes : View → List ℕ
view_bytes view = bytes_high_first 8 view.id ++ bytes_high_first 4 view.members.0

-- what a Hello says: whom its sender hears, where bit r stands for rank r; whom it follows, 32 for nobody; 1 where it is able
abbrev pub follows_byte : Option Rank → ℕ
follows_byte follows = option_map_or (λ rank. rank.0) follows 32

abbrev pub said_bytes : Said → List ℕ
said_bytes said = bytes_high_first 4 said.hears.0 ++ follows_byte said.follows ∷ cond said.able 1 0 ∷ []

-- what a node says of itself: its flags and its weight
abbrev pub standing_bytes : Standing → List ℕ
standing_bytes standing = standing.flags ∷ standing.weight ∷ []

-- from, to, incarnation, install number and view
abbrev pub ask_fields : Ask → List ℕ
ask_fields ask =
    ask.from.0 ∷ ask.to.0 ∷ [] ++ bytes_high_first 8 ask.incarnation ++ bytes_high_first 8 ask.install ++ view_bytes ask.view

-- the fields of an Ask that a Tell has too
abbrev pub as_ask : Tell → Ask
as_ask tell =
    record { from = tell.from; to = tell.to; incarnation = tell.incarnation; install = tell.install; view = tell.view }

-- the high byte of a view's number names a rank, or says that none of its members may start
abbrev pub has_name : View → Bool
has_name view = nat_lt 0 (view.id / 2 ^ 56) && nat_lt (view.id / 2 ^ 56) 33 || is_barred view

-- an announcement goes in a kind of its own where its view has a name
abbrev pub announce_kind : View → ℕ
announce_kind view = if has_name view then 11 else 4

abbrev pub announce_bytes : ℕ → Rank → View → List ℕ
announce_bytes kind from view = head_bytes kind ++ from.0 ∷ [] ++ view_bytes view

-- the bytes of a packet; the last of a Tell is 1 for holds plus 2 for released
unfoldable pub packet_bytes : Packet → List ℕ
packet_bytes (packet.Ask ask) = head_bytes 1 ++ ask_fields ask
packet_bytes (packet.Tell tell) =
    head_bytes 2 ++ ask_fields (as_ask tell) ++ (cond tell.holds 1 0 + cond tell.released 2 0) ∷ []
packet_bytes (packet.Hello from) = head_bytes 3 ++ from.0 ∷ []
packet_bytes (packet.Announce from view) = announce_bytes (announce_kind view) from view
packet_bytes (packet.Vote agrees) = head_bytes 5 ++ cond agrees 1 0 ∷ []
packet_bytes (packet.Heard from said standing) =
    head_bytes 8 ++ from.0 ∷ [] ++ said_bytes said ++ standing_bytes standing

-- an announcement is also read in the kind of named ones, whether or not its view has a name
unfoldable pub named_bytes : Packet → Option (List ℕ)
named_bytes (packet.Ask ask) = None
named_bytes (packet.Tell tell) = None
named_bytes (packet.Hello from) = None
named_bytes (packet.Announce from view) = Some (announce_bytes 11 from view)
named_bytes (packet.Vote agrees) = None
named_bytes (packet.Heard from said standing) = None

-- a rank is below 32
abbrev pub is_rank : Rank → Bool
is_rank rank = nat_lt rank.0 32

-- a view has a member, and its numbers fit their bytes
abbrev pub is_view : View → Bool
is_view view = nat_lt view.id (2 ^ 64) && nat_lt 0 view.members.0 && nat_lt view.members.0 (2 ^ 32)

-- a node hears itself, and follows a rank or nobody; the set fits its bytes
abbrev pub is_said : Rank → Said → Bool
is_said from said =
    nat_lt said.hears.0 (2 ^ 32) && is_member said.hears from.0 && option_map_or is_rank said.follows true

-- the fields of an Ask, which a Tell has too, are in their ranges
abbrev pub is_ask : Ask → Bool
is_ask ask =
    is_rank ask.from && is_rank ask.to && nat_lt ask.incarnation (2 ^ 64) && nat_lt ask.install (2 ^ 64) && is_view ask.view

-- each field of the packet is in its range
abbrev pub is_well_formed : Packet → Bool
is_well_formed (packet.Ask ask) = is_ask ask
is_well_formed (packet.Tell tell) = is_ask (as_ask tell)
is_well_formed (packet.Hello from) = is_rank from
is_well_formed (packet.Announce from view) = is_rank from && is_view view
is_well_formed (packet.Vote agrees) = true
is_well_formed (packet.Heard from said standing) = is_rank from && is_said from said

-- the bytes are a spelling of this packet, which is well formed
pub record Spells (bytes : List ℕ) (packet : Packet) : Type 0 where
  pub well_formed : IsTrue (is_well_formed packet)
  pub spelling : (bytes ≡ packet_bytes packet) ⊎ (named_bytes packet ≡ Some bytes)
