-- What a tree says of the keys that are read: each pair of them, and where each node section begins, in text order.
use Rattle.std.specs.Prelude.{List, [], ◌∷◌, ◌++◌, Option, Some, None, drop, option_map, option_to_list}
use Rattle.qn_conf.specs.declared.tree.Item.{Item}
use Rattle.qn_conf.specs.declared.tree.Item.TheVariants.{Enter, Exit, Pair}
use Rattle.qn_settings.specs.declared.section.Section.{Section}
use Rattle.qn_settings.specs.declared.section.Section.TheVariants.{Outside, NodeList, Node, Quorum, Device, Other}
use Rattle.qn_settings.specs.declared.entries.Entry.{Entry}
use Rattle.qn_settings.specs.declared.entries.Entry.TheVariants.{NodeBegins, Written}
use Rattle.qn_settings.specs.Sections.{innermost, inside, key_in}

-- the sections that stand open after an item, innermost first
abbrev pub open_after : List Section → Item → List Section
open_after open_sections (Enter name) = inside (innermost open_sections) name ∷ open_sections
open_after open_sections Exit = drop 1 open_sections
open_after open_sections (Pair name value) = open_sections

-- the mark of a node section
abbrev pub mark_of : Section → Option Entry
mark_of Node = Some NodeBegins
mark_of Outside = None
mark_of NodeList = None
mark_of Quorum = None
mark_of Device = None
mark_of Other = None

-- the entry of an item
abbrev pub entry_of : List Section → Item → Option Entry
entry_of open_sections (Enter name) = mark_of (inside (innermost open_sections) name)
entry_of open_sections Exit = None
entry_of open_sections (Pair name value) =
    option_map (λ key. Written key value) (key_in (innermost open_sections) name)

-- the entries of items, inside these sections
abbrev pub entries_from : List Section → List Item → List Entry
entries_from open_sections [] = []
entries_from open_sections (item ∷ items) =
    option_to_list (entry_of open_sections item) ++ entries_from (open_after open_sections item) items

-- the entries of a tree
unfoldable pub entries_of : List Item → List Entry
entries_of items = entries_from [] items
