-- The settings of a tree: corosync.conf(5), votequorum(5). This project's profile are the default of the device's votes,
-- that last man standing leaves the device out of the expected votes, the ranges, and the order of the faults.
use Rattle.std.specs.Prelude.{ℕ, ◌+◌, ◌-◌, ◌==◌, ◌&&◌, not, Bool, if◌then◌else◌, List, [], ◌∷◌, ◌++◌, Option, Some, None, Result, Ok, Err, length, find, is_some, is_none, option_map, unwrap_or}
use Rattle.std.specs.Option.{option_map_or}
use Rattle.std.specs.List.{list_all}
use Rattle.qn_conf.specs.declared.tree.Item.{Item}
use Rattle.qn_model.specs.declared.nodelist.NodeEntry.{NodeEntry}
use Rattle.qn_model.specs.declared.configuration.Device.{Device}
use Rattle.qn_model.specs.declared.configuration.Settings.{Settings}
use Rattle.qn_model.specs.Settings.{all_votes}
use Rattle.qn_settings.specs.declared.key.Key.TheVariants as keys
use Rattle.qn_settings.specs.declared.entries.Entry.{Entry}
use Rattle.qn_settings.specs.declared.faults.SettingsFault.{SettingsFault}
use Rattle.qn_settings.specs.declared.faults.SettingsFault.TheVariants.{BadTieNode, ExpectedZero, LmsVotes, TieDevice, TieTwoNode, TwoNodeCount, TwoNodeDevice, TwoNodeVotes}
use Rattle.qn_settings.specs.Entries.{entries_of}
use Rattle.qn_settings.specs.Nodes.{node_faults, nodes_of}
use Rattle.qn_settings.specs.TieOrder.{tie_of}
use Rattle.qn_settings.specs.Values.{bad_number, first_some, flag, has_device, number, unsupported, wrong_provider}

-- votequorum(5), wait_for_all: as written, and else on with two_node
abbrev pub wait_for_all_of : List Entry → Bool
wait_for_all_of entries = option_map_or (λ n. n == 1) (number keys.WaitForAll entries) (flag keys.TwoNode entries)

-- corosync.conf(5), device: one vote less than the nodes have where no votes are written (this project's profile)
abbrev pub device_of : ℕ → List Entry → Option Device
device_of node_votes entries =
    if has_device entries
    then Some (record {
      votes = unwrap_or (number keys.Votes entries) (node_votes - 1);
      timeout = unwrap_or (number keys.Timeout entries) 10000;
    })
    else None

-- the votes of the device that count at the start: none with last man standing (this project's profile)
abbrev pub device_votes : Bool → Option Device → ℕ
device_votes last_man_standing device = if last_man_standing then 0 else option_map_or (λ d. d.votes) device 0

-- the settings of entries whose nodes are these
abbrev pub filled : List NodeEntry → List Entry → Settings
filled nodes entries =
    let device = device_of (all_votes nodes) entries
    in let last_man_standing = flag keys.LastManStanding entries
    in record {
      nodes = nodes;
      two_node = flag keys.TwoNode entries;
      wait_for_all = wait_for_all_of entries;
      last_man_standing = last_man_standing;
      window = unwrap_or (number keys.LastManStandingWindow entries) 10000;
      device = device;
      expected = unwrap_or (number keys.ExpectedVotes entries) (all_votes nodes + device_votes last_man_standing device);
      tie = tie_of nodes entries;
    }

-- the settings of a tree: each key as its last pair, and what is absent filled in
unfoldable pub settings_of : List Item → Settings
settings_of tree = filled (nodes_of (entries_of tree)) (entries_of tree)

-- the faults of the words and numbers, in the order in which they are tried
abbrev pub value_faults : List Entry → List (Option SettingsFault)
value_faults entries =
    wrong_provider entries ∷ unsupported keys.AllowDownscale entries ∷ bad_number entries ∷ []

abbrev pub expected_zero : List Entry → Option SettingsFault
expected_zero entries = option_map_or (λ n. if n == 0 then Some ExpectedZero else None) (number keys.ExpectedVotes entries) None

-- whether a node has exactly one vote
abbrev pub has_one_vote : NodeEntry → Bool
has_one_vote node = node.votes == 1

-- votequorum(5), two_node: exactly two nodes of one vote each, and no device
abbrev pub two_node_count : Settings → Option SettingsFault
two_node_count s = if s.two_node && not (length s.nodes == 2) then Some TwoNodeCount else None

abbrev pub two_node_votes : Settings → Option SettingsFault
two_node_votes s = if s.two_node && not (list_all has_one_vote s.nodes) then Some TwoNodeVotes else None

abbrev pub two_node_device : Settings → Option SettingsFault
two_node_device s = if s.two_node && is_some s.device then Some TwoNodeDevice else None

-- votequorum(5), last_man_standing: one vote a node; the node of the least id that has another count
abbrev pub last_man_votes : Settings → Option SettingsFault
last_man_votes s =
    if s.last_man_standing
    then option_map (λ node. LmsVotes node.id) (find (λ node. not (has_one_vote node)) s.nodes)
    else None

-- the breaker stands without a device (this project's profile)
abbrev pub tie_device : Settings → List Entry → Option SettingsFault
tie_device s entries = if flag keys.AutoTieBreaker entries && is_some s.device then Some TieDevice else None

-- the breaker stands without two_node (this project's profile)
abbrev pub tie_two_node : Settings → List Entry → Option SettingsFault
tie_two_node s entries = if flag keys.AutoTieBreaker entries && s.two_node then Some TieTwoNode else None

-- votequorum(5), auto_tie_breaker_node: one of the three forms, of configured nodes, each once
abbrev pub bad_tie_node : Settings → List Entry → Option SettingsFault
bad_tie_node s entries = if flag keys.AutoTieBreaker entries && is_none s.tie then Some BadTieNode else None

-- the faults of settings as a whole, in the order in which they are tried
abbrev pub vote_faults : Settings → List Entry → List (Option SettingsFault)
vote_faults s entries =
    expected_zero entries ∷ two_node_count s ∷ two_node_votes s ∷ two_node_device s ∷ last_man_votes s
    ∷ tie_device s entries ∷ tie_two_node s entries ∷ bad_tie_node s entries ∷ []

-- the first fault of entries whose nodes and settings are these
abbrev pub fault_in : List Entry → Option SettingsFault
fault_in entries =
    first_some (value_faults entries ++ node_faults entries ++ vote_faults (filled (nodes_of entries) entries) entries)

-- the first fault of a tree, in the order in which they are tried
unfoldable pub fault_of : List Item → Option SettingsFault
fault_of tree = fault_in (entries_of tree)

-- the settings of a tree, or its first fault
abbrev pub answer_of : List Item → Result Settings SettingsFault
answer_of tree = option_map_or Err (fault_of tree) (Ok (settings_of tree))
