use Rattle.std.proofs.Common.{◌≡◌, ◌≤◌, drop, length}
use Rattle.json.specs.Value.{items_view}
use Rattle.qn_shown.specs.Kinds.{id_in}
use Rattle.qn_shown.specs.Reading.{all_in}
use Rattle.qn_shown.proofs.ListsRead.{rest_in}
use Rattle.qn_shown.proofs.lists.ids_of.Given as goal

abbrev pub invariant-items : goal.invariant-items
invariant-items l = (rest_in id_in l.ids.items (drop l.item-index l.items) ≡ all_in id_in (items_view l.items)) × (length l.ids.items ≤ 32)
