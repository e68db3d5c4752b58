-- The nodes of the settings: corosync.conf(5), `nodelist`, `node`; the limit of 32 and the fence delay are this
-- project's profile.
use Rattle.std.specs.Prelude.{◌==◌, Bool, false, if◌then◌else◌, List, [], ◌∷◌, Option, Some, None, length, map, fold, insert, is_none, nat_lt, option_map, position, unwrap_or}
use Rattle.std.specs.List.{position_from}
use Rattle.qn_base.specs.declared.ids.NodeId.{NodeId}
use Rattle.qn_model.specs.declared.nodelist.NodeEntry.{NodeEntry}
use Rattle.qn_model.specs.Settings.{all_votes}
use Rattle.qn_settings.specs.declared.key.Key.TheVariants as keys
use Rattle.qn_settings.specs.declared.entries.Entry.{Entry}
use Rattle.qn_settings.specs.declared.entries.Entry.TheVariants.{NodeBegins, Written}
use Rattle.qn_settings.specs.declared.faults.SettingsFault.{SettingsFault}
use Rattle.qn_settings.specs.declared.faults.SettingsFault.TheVariants.{NoId, NoNodes, NoVotes, RepeatedId, TooManyNodes}
use Rattle.qn_settings.specs.Values.{last_value, number}

-- the entries of one node section: those before the next node section begins
abbrev pub own_entries : List Entry → List Entry
own_entries [] = []
own_entries (NodeBegins ∷ entries) = []
own_entries (Written key value ∷ entries) = Written key value ∷ own_entries entries

-- the entries of each node section, in text order
abbrev pub sections : List Entry → List (List Entry)
sections [] = []
sections (NodeBegins ∷ entries) = own_entries entries ∷ sections entries
sections (Written key value ∷ entries) = sections entries

-- the node of a section, with 1 vote and no fence delay where none is written
abbrev pub node_of : List Entry → NodeEntry
node_of section =
    record {
      id = record { 0 = unwrap_or (number keys.NodeId section) 0 };
      votes = unwrap_or (number keys.QuorumVotes section) 1;
      fence_delay = unwrap_or (number keys.FenceDelay section) 0;
    }

-- the nodes with one more, before the first of a greater id
abbrev pub put_by_id : List NodeEntry → NodeEntry → List NodeEntry
put_by_id nodes node =
    insert nodes (unwrap_or (position (λ other. nat_lt node.id.0 other.id.0) nodes) (length nodes)) node

-- the nodes in ascending id
abbrev pub nodes_of : List Entry → List NodeEntry
nodes_of entries = fold put_by_id [] (map node_of (sections entries))

-- a node section without an id
abbrev pub lacks_id : List Entry → Bool
lacks_id section = is_none (last_value keys.NodeId section)

-- the first node section without an id, by its place from 1
abbrev pub no_id : List Entry → Option SettingsFault
no_id entries = option_map (λ place. NoId place) (position_from lacks_id 1 (sections entries))

abbrev pub no_nodes : List Entry → Option SettingsFault
no_nodes entries = if length (sections entries) == 0 then Some NoNodes else None

abbrev pub too_many_nodes : List Entry → Option SettingsFault
too_many_nodes entries = if nat_lt 32 (length (sections entries)) then Some TooManyNodes else None

-- whether the first node has this id
abbrev pub begins_with_id : NodeId → List NodeEntry → Bool
begins_with_id id [] = false
begins_with_id id (node ∷ nodes) = id.0 == node.id.0

-- the least id that two nodes have: in ascending order they are neighbours
abbrev pub repeated_in : List NodeEntry → Option NodeId
repeated_in [] = None
repeated_in (node ∷ nodes) = if begins_with_id node.id nodes then Some node.id else repeated_in nodes

abbrev pub repeated_id : List NodeEntry → Option SettingsFault
repeated_id nodes = option_map (λ id. RepeatedId id) (repeated_in nodes)

abbrev pub no_votes : List NodeEntry → Option SettingsFault
no_votes nodes = if all_votes nodes == 0 then Some NoVotes else None

-- the faults of the nodes, in the order in which they are tried
abbrev pub node_faults : List Entry → List (Option SettingsFault)
node_faults entries =
    no_id entries ∷ no_nodes entries ∷ too_many_nodes entries ∷ repeated_id (nodes_of entries) ∷ no_votes (nodes_of entries) ∷ []
