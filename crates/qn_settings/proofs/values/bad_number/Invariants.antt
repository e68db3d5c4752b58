use Rattle.std.proofs.Common.{◌≡◌, map}
use Rattle.qn_settings.specs.Entries.{entries_of}
use Rattle.qn_settings.specs.Values.{bad_number_in, first_some}
use Rattle.qn_settings.proofs.values.bad_number.Given as goal

abbrev pub invariant-loop-entry : goal.invariant-loop-entry
invariant-loop-entry l =
    first_some (map (bad_number_in l.device) l.entry-iterator) ≡ first_some (map (bad_number_in l.device) (entries_of l.fn.tree))
