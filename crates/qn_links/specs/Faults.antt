-- Why a settings text does not say where the nodes are (this project's profile).
use Rattle.std.specs.Prelude.{◌≡◌, ℕ, ◌<◌, ◌⊎◌, List, Option, Some, None, length, slice_index_or}
use Rattle.std.specs.Net.Addr.{is_ipv4}
use Rattle.std.specs.declared.net.ip_addr.IpAddr.{IpAddr}
use Rattle.qn_base.specs.declared.ids.NodeId.{NodeId}
use Rattle.qn_model.specs.declared.nodelist.NodeEntry.{NodeEntry}
use Rattle.qn_links.specs.declared.fault.LinksFault.{LinksFault}
use Rattle.qn_links.specs.declared.fault.LinksFault.TheVariants.{NoAddress, NotAddress, SameAddress, TwoFamilies}
use Rattle.qn_links.specs.declared.sections.NodeSection.{NodeSection}
use Rattle.qn_links.specs.declared.sections.Ring.{Ring}
use Rattle.qn_links.specs.Links.{AreLinks, HasAddress, IsApartFrom, Writes, id_at, text_of}

-- the node has no address: no section writes one, or what it writes is none of one machine
abbrev pub IsUnwritten : Ring → List NodeSection → NodeId → LinksFault → Type 0
IsUnwritten ring sections id (NoAddress node) = (node ≡ id) × (text_of ring sections id ≡ None)
IsUnwritten ring sections id (NotAddress node text) =
    (node ≡ id) × (text_of ring sections id ≡ Some text.now) × ((address : IpAddr) → Writes text.now address → ⊥)
IsUnwritten ring sections id (SameAddress first second) = ⊥
IsUnwritten ring sections id (TwoFamilies first second) = ⊥

-- the nodes of two ranks, the address of the lower one, and that of the other is apart from those of the ranks below both
pub record Meets (nodes : List NodeEntry) (links : List (Option IpAddr)) (rank : ℕ) (address : IpAddr) (first second : NodeId) (other : IpAddr) : Type 0 where
  pub below : ℕ
  pub lower : below < rank
  pub ids : (first ≡ id_at nodes below) × (second ≡ id_at nodes rank)
  pub its : slice_index_or links below None ≡ Some other
  pub least : IsApartFrom links below address

-- the address of the rank is not apart from that of the lowest such rank
abbrev pub Clashes : List NodeEntry → List (Option IpAddr) → ℕ → IpAddr → LinksFault → Type 0
Clashes nodes links rank address (NoAddress node) = ⊥
Clashes nodes links rank address (NotAddress node text) = ⊥
Clashes nodes links rank address (SameAddress first second) = Meets nodes links rank address first second address
Clashes nodes links rank address (TwoFamilies first second) =
    (other : IpAddr) × Meets nodes links rank address first second other × (is_ipv4 other ≡ is_ipv4 address → ⊥)

-- the first fault in the order of the ids: the nodes before are placed, and this one has no address, or one that is not apart from theirs
pub record IsFirstFault (ring : Ring) (sections : List NodeSection) (nodes : List NodeEntry) (fault : LinksFault) : Type 0 where
  pub rank : ℕ
  pub within : rank < length nodes
  pub links : List (Option IpAddr)
  pub before : AreLinks ring sections nodes links rank
  pub its : IsUnwritten ring sections (id_at nodes rank) fault
      ⊎ ((address : IpAddr) × HasAddress ring sections (id_at nodes rank) address × Clashes nodes links rank address fault)
