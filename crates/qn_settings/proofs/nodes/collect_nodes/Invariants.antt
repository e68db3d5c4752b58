use Rattle.std.proofs.Common.{◌≡◌, ◌+◌, ◌≤◌, length, map, fold}
use Rattle.arrayvec.specs.ArrayVec.{array_vec_len}
use Rattle.qn_settings.specs.Entries.{entries_of}
use Rattle.qn_settings.specs.Nodes.{node_of, nodes_of, put_by_id, sections}
use Rattle.qn_settings.proofs.nodes.collect_nodes.Given as goal

abbrev pub invariant-loop-entries : goal.invariant-loop-entries
invariant-loop-entries l =
    (fold put_by_id l.nodes.items (map node_of (sections l.entries)) ≡ nodes_of (entries_of l.fn.tree))
    × (array_vec_len l.nodes + length (sections l.entries) ≤ 32)

abbrev pub decreases-loop-entries : goal.decreases-loop-entries
decreases-loop-entries l = length (sections l.entries)
