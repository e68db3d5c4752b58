-- Which of two networks is down, and where, by the words of live nodes. This project's profile.
use Rattle.std.specs.Prelude.{ℕ, Bool, true, false, not, ◌==◌, ◌&&◌, ◌||◌, List}
use Rattle.std.specs.List.{list_any}
use Rattle.std.specs.Option.{option_map_or}
use Rattle.qn_base.specs.declared.ids.NodeId.{NodeId}
use Rattle.qn_shown.specs.declared.shown.Peer.{Peer}
use Rattle.qn_shown.specs.declared.shown.Shown.{Shown}
use Rattle.qn_verdict.specs.Voices.{is_heard, is_live}

-- that peer is heard, and this network to it is down
abbrev pub is_down_to : ℕ → Shown → ℕ → Peer → Bool
is_down_to now file network peer = is_heard now file peer && option_map_or (λ down. down == network) peer.network_down false

-- the live node of the first id says so of the node of the second one
abbrev pub says_down : ℕ → List Shown → ℕ → NodeId → NodeId → Bool
says_down now files network id other =
    list_any (λ file. is_live now file && (file.id.0 == id.0)
    && list_any (λ peer. (peer.id.0 == other.0) && is_down_to now file network peer) file.peers.items) files

-- the network between two nodes is down: one of them says so
abbrev pub is_down_between : ℕ → List Shown → ℕ → NodeId → NodeId → Bool
is_down_between now files network id other = says_down now files network id other || says_down now files network other id

-- a node and a peer that it hears are the ends of a link; the network is down there, or is not
abbrev pub is_link : ℕ → List Shown → ℕ → Bool → Shown → Peer → Bool
is_link now files network true file peer = is_heard now file peer && is_down_between now files network file.id peer.id
is_link now files network false file peer = is_heard now file peer && not (is_down_between now files network file.id peer.id)

-- the node is an end of a link
abbrev pub is_end : NodeId → Shown → Peer → Bool
is_end id file peer = (file.id.0 == id.0) || (peer.id.0 == id.0)

-- a live node has such a link
abbrev pub has_link : ℕ → List Shown → ℕ → Bool → Bool
has_link now files network down = list_any (λ file. is_live now file && list_any (is_link now files network down file) file.peers.items) files

-- a live node has such a link, of which that node is an end
abbrev pub has_link_of : ℕ → List Shown → ℕ → Bool → NodeId → Bool
has_link_of now files network down id =
    list_any (λ file. is_live now file
    && list_any (λ peer. is_end id file peer && is_link now files network down file peer) file.peers.items) files

-- the network to a node is down: it is down on a link of it, and on each
abbrev pub is_cut_off : ℕ → List Shown → ℕ → NodeId → Bool
is_cut_off now files network id = has_link_of now files network true id && not (has_link_of now files network false id)

-- the network is down: it is down on a link, and on each
abbrev pub is_network_down : ℕ → List Shown → ℕ → Bool
is_network_down now files network = has_link now files network true && not (has_link now files network false)
