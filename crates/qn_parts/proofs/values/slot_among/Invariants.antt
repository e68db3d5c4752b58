use Rattle.std.proofs.Common.{◌≡◌, drop}
use Rattle.qn_parts.proofs.ValueSteps.{seen_with}
use Rattle.qn_parts.proofs.values.slot_among.Given as goal
use Rattle.qn_safety.specs.TripleWorld.{slot_among, slots_among}

abbrev pub invariant-loop-value : goal.invariant-loop-value
invariant-loop-value l = seen_with l.best (slots_among (drop l.value-index l.values)) ≡ slot_among (slots_among l.values)
