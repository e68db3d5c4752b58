-- The nodes are looked at one after the other.
use Rattle.std.proofs.Common.{◌≡◌, ◌+◌, ◌<◌, ℕ, List, drop, get_or, length}
use Rattle.std.proofs.lemmas.List.{at_drop_more}
use Rattle.qn_model.specs.declared.nodelist.NodeEntry.{NodeEntry}
use Rattle.qn_told.specs.Telling.{Told, missed_from, peer_missed}
use Rattle.qn_told.specs.declared.around.Around.{Around}

-- the next node, and then the others
pub missed_more : (around : Around) (nodes : List NodeEntry) (rank : ℕ) (d : NodeEntry) → rank < length nodes → (told : Told)
    → missed_from around rank (drop rank nodes) told
    ≡ missed_from around (rank + 1) (drop (rank + 1) nodes) (peer_missed around rank (get_or nodes rank d).id told)
unfolding missed_from
missed_more around nodes rank d inside told = at_drop_more (λ (rest : List NodeEntry). missed_from around rank rest told) nodes rank d inside
