use Rattle.std.proofs.Common.{◌≡◌, ◌∷◌, drop}
use Rattle.qn_parts.proofs.values.message_among.Given as goal
use Rattle.qn_safety.specs.TripleWorld.{message_among, messages_among}

abbrev pub invariant-loop-value : goal.invariant-loop-value
invariant-loop-value l = message_among (l.told ∷ messages_among (drop l.value-index l.values)) ≡ message_among (messages_among l.values)
