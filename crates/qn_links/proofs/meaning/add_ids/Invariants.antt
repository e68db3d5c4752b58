use Rattle.std.proofs.Common.{◌≡◌, ◌+◌, ◌*◌, ◌++◌, length, drop}
use Rattle.qn_links.specs.Meaning.{ids_bytes}
use Rattle.qn_links.proofs.meaning.add_ids.Given as goal

-- the ids of the ranks so far were added
abbrev pub invariant-loop-rank : goal.invariant-loop-rank
invariant-loop-rank l =
    (length l.into.items ≡ length l.initial.into.items + 4 * l.rank-index)
    × (l.initial.into.items ++ ids_bytes l.nodes l.ranks ≡ l.into.items ++ ids_bytes l.nodes (drop l.rank-index l.ranks))
