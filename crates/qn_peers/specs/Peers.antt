-- Where a node of a cluster is (this project's profile).
use Rattle.std.specs.Prelude.{◌≡◌, ℕ, ◌+◌, ◌≤◌, Option, Some, None, option_and_then, slice_index_or}
use Rattle.std.specs.declared.net.ip_addr.IpAddr.{IpAddr}
use Rattle.qn_links.specs.declared.networks.Networks.{Networks}
use Rattle.qn_links.specs.declared.sections.Ring.{Ring}
use Rattle.qn_links.specs.declared.sections.Ring.TheVariants.{First, Second}
use Rattle.qn_peers.specs.declared.peers.Peers.{Peers}

-- the address of the node of that rank on that network, where there is one
abbrev pub address_on : Networks → Ring → ℕ → Option IpAddr
address_on networks First rank = slice_index_or networks.first rank None
address_on networks Second rank = option_and_then (λ links. slice_index_or links rank None) networks.second

-- this address and this port are those of the node of that rank on that network
abbrev pub IsAt : Peers → Ring → ℕ → IpAddr → ℕ → Type 0
IsAt peers ring rank ip port = (address_on peers.networks ring rank ≡ Some ip) × (port ≡ peers.first_port + rank)

-- they are those of the node of that rank, which is another one
abbrev pub IsOther : Peers → Ring → ℕ → IpAddr → ℕ → Type 0
IsOther peers ring rank ip port = (rank ≡ peers.own → ⊥) × IsAt peers ring rank ip port

-- so many ranks there are, up to the last that has an address
pub record HasRanks (peers : Peers) (count : ℕ) : Type 0 where
  pub past : (rank : ℕ) → count ≤ rank → address_on peers.networks First rank ≡ None
  pub last : (rank : ℕ) → count ≡ rank + 1 → address_on peers.networks First rank ≡ None → ⊥
