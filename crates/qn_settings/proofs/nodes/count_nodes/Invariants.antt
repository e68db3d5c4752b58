use Rattle.std.proofs.Common.{◌≡◌, ◌+◌, length}
use Rattle.std.specs.List.{position_from}
use Rattle.qn_settings.specs.Entries.{entries_of}
use Rattle.qn_settings.specs.Nodes.{lacks_id, sections}
use Rattle.qn_settings.proofs.nodes.count_nodes.Given as goal

abbrev pub invariant-loop-entries : goal.invariant-loop-entries
invariant-loop-entries l =
    (position_from lacks_id (l.node + 1) (sections l.entries) ≡ position_from lacks_id 1 (sections (entries_of l.fn.tree)))
    × (l.node + length (sections l.entries) ≡ length (sections (entries_of l.fn.tree)))

abbrev pub decreases-loop-entries : goal.decreases-loop-entries
decreases-loop-entries l = length (sections l.entries)
