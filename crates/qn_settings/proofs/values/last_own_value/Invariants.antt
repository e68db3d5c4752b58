use Rattle.std.proofs.Common.{◌≡◌}
use Rattle.qn_settings.specs.Nodes.{own_entries}
use Rattle.qn_settings.specs.Values.{last_value, or_else}
use Rattle.qn_settings.proofs.values.last_own_value.Given as goal

abbrev pub invariant-loop-entry : goal.invariant-loop-entry
invariant-loop-entry l =
    or_else (last_value l.key (own_entries l.entry-iterator)) l.last ≡ last_value l.key (own_entries l.fn.entries)
