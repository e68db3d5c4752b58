-- The one network or the two of a settings text: corosync.conf(5), `ring0_addr` and `ring1_addr`. That a node is on both or on the first alone, as
-- all others are, is this project's profile.
use Rattle.std.specs.Prelude.{◌≡◌, ℕ, ◌<◌, List, Option, Some, None, All, length, slice_index_or}
use Rattle.std.specs.declared.net.ip_addr.IpAddr.{IpAddr}
use Rattle.qn_base.specs.declared.ids.NodeId.{NodeId}
use Rattle.qn_model.specs.declared.nodelist.NodeEntry.{NodeEntry}
use Rattle.qn_links.specs.declared.networks.Networks.{Networks}
use Rattle.qn_links.specs.declared.networks.NetworksFault.{NetworksFault}
use Rattle.qn_links.specs.declared.networks.NetworksFault.TheVariants as fault
use Rattle.qn_links.specs.declared.sections.NodeSection.{NodeSection}
use Rattle.qn_links.specs.declared.sections.Ring.{Ring}
use Rattle.qn_links.specs.declared.sections.Ring.TheVariants.{First, Second}
use Rattle.qn_links.specs.Faults.{IsFirstFault}
use Rattle.qn_links.specs.Links.{AreLinks, id_at, written_in}

-- the number of a network, as that of a link of corosync
abbrev pub ring_number : Ring → ℕ
ring_number First = 0
ring_number Second = 1

abbrev pub other_ring : Ring → Ring
other_ring First = Second
other_ring Second = First

-- no section writes a `ring1_addr`
abbrev pub HasNoSecond : List NodeSection → Type 0
HasNoSecond sections = All (λ section. written_in Second section ≡ None) sections

-- no rank below that one has this address
abbrev pub IsAbsent : List (Option IpAddr) → ℕ → IpAddr → Type 0
IsAbsent links ranks address =
    (rank : ℕ) → rank < ranks → (other : IpAddr) → slice_index_or links rank None ≡ Some other → other ≡ address → ⊥

-- no address of the ranks below that one on the second network is one of the first
abbrev pub AreDisjoint : List (Option IpAddr) → List (Option IpAddr) → ℕ → Type 0
AreDisjoint first second ranks =
    (rank : ℕ) → rank < ranks → (address : IpAddr) → slice_index_or second rank None ≡ Some address → IsAbsent first 32 address

-- this is the first rank that has this address
abbrev pub IsAtFirst : List (Option IpAddr) → IpAddr → ℕ → Type 0
IsAtFirst links address rank = (slice_index_or links rank None ≡ Some address) × IsAbsent links rank address

-- the second network beside the first one: none is written, or its addresses are those that are written, and none of the first
abbrev pub IsSecond : List NodeSection → List NodeEntry → List (Option IpAddr) → Option (List (Option IpAddr)) → Type 0
IsSecond sections nodes first None = HasNoSecond sections
IsSecond sections nodes first (Some second) = AreLinks Second sections nodes second (length nodes) × AreDisjoint first second 32

abbrev pub AreNetworks : List NodeSection → List NodeEntry → Networks → Type 0
AreNetworks sections nodes networks =
    AreLinks First sections nodes networks.first (length nodes) × IsSecond sections nodes networks.first networks.second

-- the address of one node on the second network is that of a node on the first, the first one that has it there
pub record IsShared (sections : List NodeSection) (nodes : List NodeEntry) (id of : NodeId) : Type 0 where
  pub first : List (Option IpAddr)
  pub second : List (Option IpAddr)
  pub are_first : AreLinks First sections nodes first (length nodes)
  pub are_second : AreLinks Second sections nodes second (length nodes)
  pub rank : ℕ
  pub other : ℕ
  pub ids : (id ≡ id_at nodes rank) × (of ≡ id_at nodes other)
  pub address : IpAddr
  pub its : slice_index_or second rank None ≡ Some address
  pub same : IsAtFirst first address other

-- the first fault: of the first network, of the second where there is one, or of both
abbrev pub IsNetworksFault : List NodeSection → List NodeEntry → NetworksFault → Type 0
IsNetworksFault sections nodes (fault.First why) = IsFirstFault First sections nodes why
IsNetworksFault sections nodes (fault.Second why) =
    (first : List (Option IpAddr)) × AreLinks First sections nodes first (length nodes) × (HasNoSecond sections → ⊥)
    × IsFirstFault Second sections nodes why
IsNetworksFault sections nodes (fault.Shared id of) = IsShared sections nodes id of
