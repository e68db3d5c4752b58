-- What a settings text says of the nodes and the quorum, in bytes of fixed widths, high byte first (this project's profile).
use Rattle.std.specs.Prelude.{◌≡◌, ℕ, ◌<◌, ◌≤◌, ◌^◌, Bool, List, [], ◌∷◌, ◌++◌, Option, Some, None, All, IfSome, codes, drop, length, replicate, slice_index, slice_index_or, unwrap_or, if◌then◌else◌}
use Rattle.std.specs.Int.{bytes_high_first}
use Rattle.std.specs.Net.Addr.{IsIpv4Addr, IsIpv6Addr, MatchIp, ipv4_octets, ipv6_octets}
use Rattle.std.specs.declared.net.ip_addr.IpAddr.{IpAddr}
use Rattle.std.specs.declared.net.ip_addr.IpAddr.TheVariants.{V4, V6}
use Rattle.qn_base.specs.declared.ids.Rank.{Rank}
use Rattle.qn_model.specs.declared.configuration.Device.{Device}
use Rattle.qn_model.specs.declared.configuration.Settings.{Settings}
use Rattle.qn_model.specs.declared.nodelist.NodeEntry.{NodeEntry}
use Rattle.qn_model.specs.Settings.{IsValid, ids}
use Rattle.qn_links.specs.declared.arbiter.ArbiterPlace.{ArbiterPlace}

-- an address in 17 bytes: 0 where there is none, 4 or 6; an IPv4 address stands in the last four
abbrev pub address_bytes : Option IpAddr → List ℕ
address_bytes None = replicate 17 0
address_bytes (Some (V4 address)) = 4 ∷ replicate 12 0 ++ ipv4_octets address
address_bytes (Some (V6 address)) = 6 ∷ ipv6_octets address

-- a node: its id, its votes, its fence delay and its first address
unfoldable pub node_bytes : NodeEntry → Option IpAddr → List ℕ
node_bytes node address =
    bytes_high_first 4 node.id.0 ++ bytes_high_first 4 node.votes ++ bytes_high_first 8 node.fence_delay ++ address_bytes address

-- the nodes in the order of their ranks
abbrev pub nodes_bytes : List NodeEntry → List (Option IpAddr) → List ℕ
nodes_bytes [] links = []
nodes_bytes (node ∷ nodes) links = node_bytes node (slice_index_or links 0 None) ++ nodes_bytes nodes (drop 1 links)

abbrev pub flag_byte : Bool → ℕ
flag_byte flag = if flag then 1 else 0

-- where an arbiter is: 0, or 1, its address and its port, which is 0 where none is written
abbrev pub arbiter_bytes : Option ArbiterPlace → List ℕ
arbiter_bytes None = 0 ∷ []
arbiter_bytes (Some arbiter) = 1 ∷ address_bytes (Some arbiter.address) ++ bytes_high_first 2 (unwrap_or arbiter.port 0)

-- the device: 0, or 1, its votes, its timeout and where its arbiter is
abbrev pub device_bytes : Option Device → Option ArbiterPlace → List ℕ
device_bytes None arbiter = 0 ∷ []
device_bytes (Some device) arbiter =
    1 ∷ bytes_high_first 4 device.votes ++ bytes_high_first 8 device.timeout ++ arbiter_bytes arbiter

-- the ids of the nodes of these ranks
abbrev pub ids_bytes : List NodeEntry → List Rank → List ℕ
ids_bytes nodes [] = []
ids_bytes nodes (rank ∷ ranks) = bytes_high_first 4 (slice_index (ids nodes) rank.0) ++ ids_bytes nodes ranks

-- the order of preference where votes tie: 0, or 1, how many nodes it has, and their ids
abbrev pub tie_bytes : List NodeEntry → Option (List Rank) → List ℕ
tie_bytes nodes None = 0 ∷ []
tie_bytes nodes (Some ranks) = 1 ∷ length ranks ∷ ids_bytes nodes ranks

-- what stands behind the nodes
unfoldable pub rest_bytes : Settings → Option ArbiterPlace → List ℕ
rest_bytes s arbiter =
    flag_byte s.two_node ∷ flag_byte s.wait_for_all ∷ flag_byte s.last_man_standing ∷ bytes_high_first 8 s.window
    ++ bytes_high_first 8 s.expected ++ device_bytes s.device arbiter ++ tie_bytes s.nodes s.tie

-- what the settings say, with these addresses of their nodes and this arbiter
unfoldable pub meaning : Settings → List (Option IpAddr) → Option ArbiterPlace → List ℕ
meaning s links arbiter = codes "QNTEXT01" ++ (length s.nodes ∷ (nodes_bytes s.nodes links ++ rest_bytes s arbiter))

-- what the type of an address keeps: four numbers of a byte, or eight of two
abbrev pub IsAddress : IpAddr → Type 0
IsAddress address = MatchIp address IsIpv4Addr IsIpv6Addr

-- an address, and a port that is not 0 where one is written
abbrev pub IsArbiterFit : ArbiterPlace → Type 0
IsArbiterFit arbiter = IsAddress arbiter.address × IfSome arbiter.port (λ port. (1 ≤ port) × (port < 2 ^ 16))

-- valid settings whose numbers have their widths, with 32 places for the addresses of their nodes and none at a place past the nodes, and an
-- arbiter only where they have a device
pub record IsSaid (s : Settings) (links : List (Option IpAddr)) (arbiter : Option ArbiterPlace) : Type 0 where
  pub valid : IsValid s
  pub expected : s.expected < 2 ^ 64
  pub device : IfSome s.device (λ device. device.votes < 2 ^ 32)
  pub places : length links ≡ 32
  pub addresses : All (λ link. IfSome link IsAddress) links
  pub past : (rank : ℕ) → length s.nodes ≤ rank → slice_index_or links rank None ≡ None
  pub place : IfSome arbiter IsArbiterFit
  pub apart : s.device ≡ None → arbiter ≡ None
