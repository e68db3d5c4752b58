use Rattle.std.proofs.Common.{◌≡◌, ◌-◌, ◌≤◌, length}
use Rattle.std.specs.Io.KnownBytes.{prepend_known}
use Rattle.qn_commands.proofs.settings_text.read_text.Given as goal

-- all that was taken of the input is the text so far
abbrev pub invariant-pieces : goal.invariant-pieces
invariant-pieces g l =
    (g.I.Source.left l.fn.input ≡ prepend_known l.bytes.items (g.I.Source.left l.input))
    × (g.I.Source.faults l.fn.input ≤ g.I.Source.faults l.input)
    × (length l.bytes.items ≤ 1048576)

abbrev pub decreases-pieces : goal.decreases-pieces
decreases-pieces g l = 1048577 - length l.bytes.items
