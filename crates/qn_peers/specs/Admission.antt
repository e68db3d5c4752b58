-- Which datagrams are handed to a node (this project's profile).
use Rattle.std.specs.Prelude.{◌≡◌, ℕ, ◌==◌, ◌&&◌, ◌||◌, Bool, true, false, not, nat_lt, is_some, List, [], ◌∷◌, length, min, slice_index, take, Option, Some, None, Ok, Err}
use Rattle.std.specs.Net.Addr.{IsV4And, ipv4_octets}
use Rattle.std.specs.Net.Socket.{socket_ip, socket_port}
use Rattle.std.specs.declared.net.ip_addr.IpAddr.{IpAddr}
use Rattle.std.specs.declared.net.socket_addr.SocketAddr.{SocketAddr}
use Rattle.qn_seal.specs.Receiving.{judged, opened_by, receiver_after}
use Rattle.qn_links.specs.declared.sections.Ring.{Ring}
use Rattle.qn_seal.specs.declared.receiver.Receiver.{Receiver}
use Rattle.qn_seal.specs.declared.receiver.Refused.TheVariants.{Unsealed, Astray, Old}
use Rattle.qn_peers.specs.declared.admission.Admission.{Admission}
use Rattle.qn_peers.specs.declared.admission.Reason.{Reason}
use Rattle.qn_peers.specs.declared.admission.Reason.TheVariants.{Elsewhere, Sealed}
use Rattle.qn_peers.specs.declared.admission.Sender.{Sender}
use Rattle.qn_peers.specs.declared.admission.Sender.TheVariants.{Rank, Arbiter}
use Rattle.qn_peers.specs.declared.peers.Peers.{Peers}
use Rattle.qn_peers.specs.Peers.{IsOther}

-- the seat of a sender: that of the arbiter is one above those of the ranks
abbrev pub seat_of : Sender → ℕ
seat_of (Rank rank ring) = rank
seat_of Arbiter = 32

-- the arbiter is there, at this address and this port
abbrev pub IsThere : Option SocketAddr → IpAddr → ℕ → Type 0
IsThere None ip port = ⊥
IsThere (Some at) ip port = (socket_ip at ≡ ip) × (socket_port at ≡ port)

-- the address and the port are those of that sender: of another node on that network, or of the arbiter and of no node
abbrev pub IsOf : Admission → Sender → IpAddr → ℕ → Type 0
IsOf admission (Rank rank ring) ip port = IsOther admission.peers ring rank ip port
IsOf admission Arbiter ip port =
    IsThere admission.arbiter ip port × ((ring : Ring) → (rank : ℕ) → IsOther admission.peers ring rank ip port → ⊥)

-- a vote of a quorum device: `QN`, kind 5, and one byte more
abbrev pub is_vote : List ℕ → Bool
is_vote bytes = length bytes == 4 && slice_index bytes 0 == 81 && slice_index bytes 1 == 78 && slice_index bytes 2 == 5

-- a request of the node's own host that it is to leave: `QN`, kind 12, and one byte more
abbrev pub is_request : List ℕ → Bool
is_request bytes = length bytes == 4 && slice_index bytes 0 == 81 && slice_index bytes 1 == 78 && slice_index bytes 2 == 12

-- what the node's own host says of it: `QN`, kind 13, and two bytes more
abbrev pub is_word : List ℕ → Bool
is_word bytes = length bytes == 5 && slice_index bytes 0 == 81 && slice_index bytes 1 == 78 && slice_index bytes 2 == 13

-- what a node takes of its own host alone
abbrev pub is_of_host : List ℕ → Bool
is_of_host bytes = is_vote bytes || is_request bytes || is_word bytes

-- a reply of the arbiter: `QN`, kind 7, and 26 bytes more
abbrev pub is_reply : List ℕ → Bool
is_reply bytes = length bytes == 29 && slice_index bytes 0 == 81 && slice_index bytes 1 == 78 && slice_index bytes 2 == 7

-- a sealed packet names another sender than that seat
abbrev pub names_other : List ℕ → ℕ → Bool
names_other bytes sender = nat_lt 4 (length bytes) && not (slice_index bytes 4 == sender)

-- a datagram without a seal that is not that sender's: of a node what is of this host alone, or a reply; of the arbiter whatever is no reply
abbrev pub is_strange : Sender → List ℕ → Bool
is_strange (Rank rank ring) bytes = is_of_host bytes || is_reply bytes
is_strange Arbiter bytes = not (is_reply bytes)

-- a datagram of that sender that is not its own: without a seal a strange one, or one that another has sealed
abbrev pub is_foreign : Option Receiver → Sender → List ℕ → Bool
is_foreign None sender bytes = is_strange sender bytes
is_foreign (Some receiver) sender bytes = names_other bytes (seat_of sender)

-- the address and the port are those of a sender whose own the datagram is
pub record IsOwn (admission : Admission) (bytes : List ℕ) (ip : IpAddr) (port : ℕ) : Type 0 where
  pub sender : Sender
  pub its : IsOf admission sender ip port
  pub own : is_foreign admission.receiver sender bytes ≡ false

-- what is handed on: the bytes as they stand, or what the receiver of seals takes of them
abbrev pub IsOpened : Option Receiver → ℕ → List ℕ → List ℕ → Type 0
IsOpened None tick bytes inner = inner ≡ bytes
IsOpened (Some receiver) tick bytes inner =
    judged receiver tick (opened_by receiver.keys receiver.texts bytes) ≡ Ok inner

-- 127.0.0.1, which packets of this host alone come from
abbrev pub IsHere : IpAddr → Type 0
IsHere ip = IsV4And ip (λ four. ipv4_octets four ≡ 127 ∷ 0 ∷ 0 ∷ 1 ∷ [])

-- a vote of a quorum device of this host, where these are taken
pub record IsVoteHere (admission : Admission) (ip : IpAddr) (bytes : List ℕ) : Type 0 where
  pub taken : admission.takes_votes ≡ true
  pub here : IsHere ip
  pub vote : is_vote bytes ≡ true

-- the first 129 bytes, or all where these are fewer
abbrev pub front_of : List ℕ → List ℕ
front_of bytes = take (min 129 (length bytes)) bytes

-- the packet that is handed on: the front of that
pub record IsHanded (receiver : Option Receiver) (tick : ℕ) (bytes packet : List ℕ) : Type 0 where
  pub inner : List ℕ
  pub opened : IsOpened receiver tick bytes inner
  pub front : packet ≡ front_of inner

-- the receiver of seals, where there is one, once it took that datagram
abbrev pub receiver_after_taking : Option Receiver → ℕ → List ℕ → Option Receiver
receiver_after_taking None tick bytes = None
receiver_after_taking (Some receiver) tick bytes =
    Some (receiver_after receiver tick (opened_by receiver.keys receiver.texts bytes))

-- the receiver of seals does not take it, for that reason
abbrev pub IsSealRefused : Option Receiver → ℕ → List ℕ → Reason → Type 0
IsSealRefused None tick bytes why = ⊥
IsSealRefused (Some receiver) tick bytes Elsewhere = ⊥
IsSealRefused (Some receiver) tick bytes (Sealed why) =
    judged receiver tick (opened_by receiver.keys receiver.texts bytes) ≡ Err why

-- why a datagram is not handed on: whichever sender has that address and port, it is foreign to it; or the receiver of seals says so
abbrev pub IsRefused : Admission → ℕ → IpAddr → ℕ → List ℕ → Reason → Type 0
IsRefused admission tick ip port bytes Elsewhere =
    (sender : Sender) → IsOf admission sender ip port → is_foreign admission.receiver sender bytes ≡ true
IsRefused admission tick ip port bytes (Sealed why) = IsSealRefused admission.receiver tick bytes (Sealed why)

-- a packet of a node was taken before, or is too far behind what was
abbrev pub is_behind : Option Sender → Reason → Bool
is_behind None why = false
is_behind (Some Arbiter) why = false
is_behind (Some (Rank rank ring)) Elsewhere = false
is_behind (Some (Rank rank ring)) (Sealed Unsealed) = false
is_behind (Some (Rank rank ring)) (Sealed Astray) = false
is_behind (Some (Rank rank ring)) (Sealed Old) = true

-- what is not handed on came before over the other of two networks, or may have
abbrev pub is_double : Peers → Option Sender → Reason → Bool
is_double peers sender why = is_some peers.networks.second && is_behind sender why
