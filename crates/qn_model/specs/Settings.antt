use Rattle.std.specs.Prelude.{◌≡◌, ◌≢◌, ◌≤◌, ◌<◌, ℕ, List, length, map, sum_by, All, AllPairs, IsTrue, IfSome, IsNone, IsSome, false}
use Rattle.std.specs.List.Sorted.{IsStrictlyIncreasing}
use Rattle.qn_base.specs.declared.ids.Rank.{Rank}
use Rattle.qn_base.specs.declared.limits.TheConstants.{LONGEST_PERIOD}
use Rattle.qn_model.specs.declared.nodelist.NodeEntry.{NodeEntry}
use Rattle.qn_model.specs.declared.configuration.Settings.{Settings}

-- the ids of the nodes, by rank
abbrev pub ids : List NodeEntry → List ℕ
ids nodes = map (λ n. n.id.0) nodes

-- the votes of the nodes, by rank
abbrev pub node_votes : List NodeEntry → List ℕ
node_votes nodes = map (λ n. n.votes) nodes

-- the votes of all nodes together
abbrev pub all_votes : List NodeEntry → ℕ
all_votes nodes = sum_by (λ n. n.votes) nodes

-- a time in milliseconds that a settings text may give: up to one hour
abbrev pub IsPeriod : ℕ → Type 0
IsPeriod time = (1 ≤ time) × (time ≤ LONGEST_PERIOD)

-- every node has exactly one vote
abbrev pub HasOneVoteEach : List NodeEntry → Type 0
HasOneVoteEach nodes = All (λ n. n.votes ≡ 1) nodes

-- votequorum(5), `auto_tie_breaker_node`: at least one configured node, and none twice
pub record IsOrder (nodes : List NodeEntry) (order : List Rank) : Type 0 where
  pub some_rank : 1 ≤ length order
  pub configured : All (λ rank. rank.0 < length nodes) order
  pub none_twice : AllPairs (λ first second. first.0 ≢ second.0) order

-- Valid settings: corosync.conf(5), `nodelist` and `quorum`; votequorum(5), `two_node`, `last_man_standing` and
-- `auto_tie_breaker`; the bounds, the limit of 32 nodes, the fence delays, and that a tie order stands without two_node
-- and without a device are this project's profile.
pub record IsValid (s : Settings) : Type 0 where
  pub some_node : 1 ≤ length s.nodes
  pub few_nodes : length s.nodes ≤ 32
  pub ids_from_one : All (λ n. 1 ≤ n.id.0) s.nodes
  pub ids_fit : All (λ n. n.id.0 ≤ 4294967295) s.nodes
  pub ids_ascend : IsStrictlyIncreasing (ids s.nodes)
  pub votes_fit : All (λ n. n.votes ≤ 65535) s.nodes
  pub some_vote : 1 ≤ all_votes s.nodes
  pub some_expected : 1 ≤ s.expected
  pub window : IsPeriod s.window
  pub timeout : IfSome s.device (λ d. IsPeriod d.timeout)
  pub two_nodes : IsTrue s.two_node → length s.nodes ≡ 2
  pub two_votes : IsTrue s.two_node → HasOneVoteEach s.nodes
  pub two_alone : IsTrue s.two_node → IsNone s.device
  pub last_man_votes : IsTrue s.last_man_standing → HasOneVoteEach s.nodes
  pub delays_fit : All (λ n. n.fence_delay ≤ LONGEST_PERIOD) s.nodes
  pub tie_order : IfSome s.tie (IsOrder s.nodes)
  pub tie_alone : IsSome s.tie → (s.two_node ≡ false) × IsNone s.device
