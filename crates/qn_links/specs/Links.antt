-- Where the node of a rank is: corosync.conf(5), `nodelist`, `node`, `ring0_addr`, `ring1_addr`.
use Rattle.std.specs.Prelude.{◌≡◌, ℕ, ◌<◌, ◌≤◌, ◌==◌, List, [], ◌∷◌, Option, Some, None, option_map, slice_index_or, if◌then◌else◌}
use Rattle.std.specs.Net.Grammar.{IsIpText}
use Rattle.std.specs.Net.Addr.{MatchIp, IsUnspecifiedV4, IsUnspecifiedV6, IsMulticastV4, IsMulticastV6, is_ipv4}
use Rattle.std.specs.declared.net.ip_addr.IpAddr.{IpAddr}
use Rattle.qn_base.specs.declared.ids.NodeId.{NodeId}
use Rattle.qn_model.specs.declared.nodelist.NodeEntry.{NodeEntry}
use Rattle.qn_links.specs.declared.sections.NodeSection.{NodeSection}
use Rattle.qn_links.specs.declared.sections.Ring.{Ring}
use Rattle.qn_links.specs.declared.sections.Ring.TheVariants.{First, Second}

-- what a section writes as `ring0_addr`, or as `ring1_addr`, where it does
abbrev pub written_in : Ring → NodeSection → Option (List ℕ)
written_in First section = option_map (λ written. written.now) section.first
written_in Second section = option_map (λ written. written.now) section.second

-- what the first section of that node writes as its address on that network, where it writes one
abbrev pub text_of : Ring → List NodeSection → NodeId → Option (List ℕ)
text_of ring [] id = None
text_of ring (section ∷ sections) id =
    if section.id.0 == id.0 then written_in ring section else text_of ring sections id

-- an address of one machine: neither the unspecified one nor one of many
abbrev pub IsOfMachine : IpAddr → Type 0
IsOfMachine address =
    (MatchIp address IsUnspecifiedV4 IsUnspecifiedV6 → ⊥) × (MatchIp address IsMulticastV4 IsMulticastV6 → ⊥)

-- the text writes this address of one machine
abbrev pub Writes : List ℕ → IpAddr → Type 0
Writes text address = IsIpText text address × IsOfMachine address

-- the section of the node writes this address
abbrev pub HasAddress : Ring → List NodeSection → NodeId → IpAddr → Type 0
HasAddress ring sections id address = (text : List ℕ) × (text_of ring sections id ≡ Some text) × Writes text address

-- the id of the node of a rank, of nodes in ascending id
abbrev pub id_at : List NodeEntry → ℕ → NodeId
id_at nodes rank = (slice_index_or nodes rank (record { id = record { 0 = 0 }; votes = 0; fence_delay = 0 })).id

-- at the place of this rank stands the address that the section of its node writes
abbrev pub IsPlaced : Ring → List NodeSection → List NodeEntry → List (Option IpAddr) → ℕ → Type 0
IsPlaced ring sections nodes links rank =
    (address : IpAddr) × (slice_index_or links rank None ≡ Some address) × HasAddress ring sections (id_at nodes rank) address

-- the addresses of two machines, of one family
abbrev pub AreApart : IpAddr → IpAddr → Type 0
AreApart one other = (one ≡ other → ⊥) × (is_ipv4 one ≡ is_ipv4 other)

-- this address is apart from that of each rank below
abbrev pub IsApartFrom : List (Option IpAddr) → ℕ → IpAddr → Type 0
IsApartFrom links rank address =
    (below : ℕ) → below < rank → (other : IpAddr) → slice_index_or links below None ≡ Some other → AreApart other address

-- each rank below this one is placed, and their addresses are apart
pub record AreLinks (ring : Ring) (sections : List NodeSection) (nodes : List NodeEntry) (links : List (Option IpAddr)) (ranks : ℕ) : Type 0 where
  pub placed : (rank : ℕ) → rank < ranks → IsPlaced ring sections nodes links rank
  pub apart : (rank : ℕ) → rank < ranks → (address : IpAddr) → slice_index_or links rank None ≡ Some address → IsApartFrom links rank address
  pub past : (rank : ℕ) → ranks ≤ rank → slice_index_or links rank None ≡ None
