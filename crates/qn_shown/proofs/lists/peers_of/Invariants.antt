use Rattle.std.proofs.Common.{◌≡◌, ◌≤◌, drop, length}
use Rattle.json.specs.Value.{items_view}
use Rattle.qn_shown.specs.Reading.{peer_in}
use Rattle.qn_shown.specs.Reading.{all_in}
use Rattle.qn_shown.proofs.ListsRead.{rest_in}
use Rattle.qn_shown.proofs.lists.peers_of.Given as goal

abbrev pub invariant-items : goal.invariant-items
invariant-items l = (rest_in peer_in l.peers.items (drop l.item-index l.items) ≡ all_in peer_in (items_view l.items)) × (length l.peers.items ≤ 32)
