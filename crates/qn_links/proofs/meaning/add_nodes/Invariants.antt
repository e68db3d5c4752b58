use Rattle.std.proofs.Common.{◌≡◌, ◌+◌, ◌*◌, ◌++◌, length, drop}
use Rattle.qn_links.specs.Meaning.{nodes_bytes}
use Rattle.qn_links.proofs.meaning.add_nodes.Given as goal

-- the nodes of the ranks so far were added
abbrev pub invariant-loop-rank : goal.invariant-loop-rank
invariant-loop-rank l =
    (length l.into.items ≡ length l.initial.into.items + 33 * l.rank)
    × (l.initial.into.items ++ nodes_bytes l.nodes l.links ≡ l.into.items ++ nodes_bytes (drop l.rank l.nodes) (drop l.rank l.links))
