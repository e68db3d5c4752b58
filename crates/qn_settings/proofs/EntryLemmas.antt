-- How many entries and node sections there are.
use Rattle.std.proofs.Common.{◌≤◌, List, [], ◌∷◌, length, Option, Some, None, arith, length-append}
use Rattle.std.specs.Prelude.{option_to_list}
use Rattle.qn_conf.specs.declared.tree.Item.{Item}
use Rattle.qn_settings.specs.declared.section.Section.{Section}
use Rattle.qn_settings.specs.declared.entries.Entry.{Entry}
use Rattle.qn_settings.specs.declared.entries.Entry.TheVariants.{NodeBegins, Written}
use Rattle.qn_settings.specs.Entries.{entries_from, entry_of, open_after}
use Rattle.qn_settings.specs.Nodes.{sections}

one_at_most : (o : Option Entry) → length (option_to_list o) ≤ 1
one_at_most None = omega arith
one_at_most (Some entry) = omega arith

-- each item has one entry at most
pub length-entries_from : (open_sections : List Section) (items : List Item) → length (entries_from open_sections items) ≤ length items
length-entries_from open_sections [] = omega arith
length-entries_from open_sections (item ∷ items) =
    omega (arith, length-append (option_to_list (entry_of open_sections item)) (entries_from (open_after open_sections item) items), one_at_most (entry_of open_sections item), length-entries_from (open_after open_sections item) items)

-- each node section begins with an entry
pub length-sections : (entries : List Entry) → length (sections entries) ≤ length entries
length-sections [] = omega arith
length-sections (NodeBegins ∷ entries) = omega (arith, length-sections entries)
length-sections (Written key value ∷ entries) = omega (arith, length-sections entries)
