-- Where the arbiter of a cluster is: corosync-qdevice(8), `quorum`, `device`, `net`, `host` and `port`. That `host` is an address, of the
-- family of the nodes' addresses, is this project's profile.
use Rattle.std.specs.Prelude.{◌≡◌, ℕ, ◌&&◌, nat_le, List, Option, Some, None, option_and_then, option_map, slice_index_or, if◌then◌else◌}
use Rattle.std.specs.Net.Addr.{is_ipv4}
use Rattle.std.specs.declared.net.ip_addr.IpAddr.{IpAddr}
use Rattle.qn_base.specs.Decimal.{number_of}
use Rattle.qn_links.specs.declared.arbiter.ArbiterFault.{ArbiterFault}
use Rattle.qn_links.specs.declared.arbiter.ArbiterFault.TheVariants.{NoHost, NotAddress, OtherFamily, NotPort}
use Rattle.qn_links.specs.declared.device.DeviceNet.{DeviceNet}
use Rattle.qn_links.specs.Links.{Writes}

-- what is written as `host`, and as `port`, where it is
abbrev pub host_of : DeviceNet → Option (List ℕ)
host_of net = option_map (λ written. written.now) net.host

abbrev pub port_text : DeviceNet → Option (List ℕ)
port_text net = option_map (λ written. written.now) net.port

-- the host is this address of one machine
abbrev pub HasHost : DeviceNet → IpAddr → Type 0
HasHost net address = (text : List ℕ) × (host_of net ≡ Some text) × Writes text address

-- it is of the family of the nodes, which is that of the node of rank 0
abbrev pub IsOfFamily : List (Option IpAddr) → IpAddr → Type 0
IsOfFamily links address = (first : IpAddr) → slice_index_or links 0 None ≡ Some first → is_ipv4 address ≡ is_ipv4 first

-- a number of a port
abbrev pub port_number : ℕ → Option ℕ
port_number number = if nat_le 1 number && nat_le number 65535 then Some number else None

-- a port that is written: a decimal number from 1 to 65535
unfoldable pub port_in : List ℕ → Option ℕ
port_in text = option_and_then port_number (number_of text)

-- the port is the one that is written, and there is none where none is written
abbrev pub HasPort : DeviceNet → Option ℕ → Type 0
HasPort net None = port_text net ≡ None
HasPort net (Some port) = (text : List ℕ) × (port_text net ≡ Some text) × (port_in text ≡ Some port)

-- the first fault: no host, a host that is no address of one machine or none of the nodes' family, or a port that is none
abbrev pub HasNoPlace : DeviceNet → List (Option IpAddr) → ArbiterFault → Type 0
HasNoPlace net links NoHost = host_of net ≡ None
HasNoPlace net links (NotAddress text) = (host_of net ≡ Some text.now) × ((address : IpAddr) → Writes text.now address → ⊥)
HasNoPlace net links (OtherFamily text) =
    (host_of net ≡ Some text.now) × (address : IpAddr) × Writes text.now address × (IsOfFamily links address → ⊥)
HasNoPlace net links (NotPort text) =
    (port_text net ≡ Some text.now) × (port_in text.now ≡ None) × (address : IpAddr) × HasHost net address × IsOfFamily links address
