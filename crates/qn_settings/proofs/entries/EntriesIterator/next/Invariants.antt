use Rattle.std.proofs.Common.{◌≡◌, ◌+◌, ◌<◌, ◌^◌, length}
use Rattle.qn_settings.specs.Entries.{entries_from}
use Rattle.qn_settings.proofs.entries.EntriesIterator.next.Given as goal

abbrev pub invariant-loop-self : goal.invariant-loop-self
invariant-loop-self l =
    (entries_from l.self-inside.sections l.self-inside.items.now ≡ l.fn.self)
    × (length l.self-inside.sections + length l.self-inside.items.now < 2 ^ 64)

abbrev pub decreases-loop-self : goal.decreases-loop-self
decreases-loop-self l = length l.self-inside.items.now
