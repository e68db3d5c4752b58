-- The order in which nodes break a tie: votequorum(5), `auto_tie_breaker_node`. That a list names the nodes in order of
-- preference, and each at most once, is this project's profile.
use Rattle.std.specs.Prelude.{◌==◌, ◌&&◌, ◌||◌, not, Bool, false, if◌then◌else◌, ℕ, List, [], ◌∷◌, Option, Some, None, codes, filter, length, map, option_and_then, option_map, position, reverse}
use Rattle.std.specs.List.{list_any, range_with_len, slice_split}
use Rattle.std.specs.Option.{option_map_or}
use Rattle.std.specs.Str.{bytes_eq}
use Rattle.qn_base.specs.Decimal.{number_of}
use Rattle.qn_base.specs.declared.ids.Rank.{Rank}
use Rattle.qn_conf.specs.Line.{is_blank}
use Rattle.qn_model.specs.declared.nodelist.NodeEntry.{NodeEntry}
use Rattle.qn_model.specs.Wanted.{rank_of}
use Rattle.qn_settings.specs.declared.key.Key.TheVariants as keys
use Rattle.qn_settings.specs.declared.entries.Entry.{Entry}
use Rattle.qn_settings.specs.Values.{flag, last_value}

-- every node, in ascending id
abbrev pub lowest : List NodeEntry → List Rank
lowest nodes = map rank_of (range_with_len 0 (length nodes))

-- every node, in descending id
abbrev pub highest : List NodeEntry → List Rank
highest nodes = reverse (lowest nodes)

-- the words of a text, separated by blanks
abbrev pub words_of : List ℕ → List (List ℕ)
words_of text = filter (λ word. not (length word == 0)) (slice_split is_blank text)

-- the node of an id
abbrev pub with_id : List NodeEntry → ℕ → Option Rank
with_id nodes id = option_map rank_of (position (λ node. node.id.0 == id) nodes)

-- the configured node that a word names by its id
abbrev pub named : List NodeEntry → List ℕ → Option Rank
named nodes word = option_and_then (with_id nodes) (number_of word)

-- the nodes that words name, where each word names one
abbrev pub all_named : List NodeEntry → List (List ℕ) → Option (List Rank)
all_named nodes [] = Some []
all_named nodes (word ∷ words) =
    option_and_then (λ rank. option_map (λ ranks. rank ∷ ranks) (all_named nodes words)) (named nodes word)

-- whether a node stands twice
abbrev pub has_twice : List Rank → Bool
has_twice [] = false
has_twice (rank ∷ ranks) = list_any (λ other. rank.0 == other.0) ranks || has_twice ranks

-- these nodes as an order of preference: at least one, and none twice
abbrev pub as_order : List Rank → Option (List Rank)
as_order ranks = if not (length ranks == 0) && not (has_twice ranks) then Some ranks else None

-- the nodes that a text lists by their ids
abbrev pub listed : List NodeEntry → List ℕ → Option (List Rank)
listed nodes text = option_and_then as_order (all_named nodes (words_of text))

-- the order that a text says, in one of the three forms
abbrev pub order_in : List NodeEntry → List ℕ → Option (List Rank)
order_in nodes text =
    if bytes_eq text (codes "lowest") then Some (lowest nodes)
    else if bytes_eq text (codes "highest") then Some (highest nodes)
    else listed nodes text

-- the order of preference where the breaker is on: `lowest` where none is written
abbrev pub tie_of : List NodeEntry → List Entry → Option (List Rank)
tie_of nodes entries =
    if flag keys.AutoTieBreaker entries
    then option_map_or (order_in nodes) (last_value keys.AutoTieBreakerNode entries) (Some (lowest nodes))
    else None
