use Rattle.std.proofs.Common.{◌≡◌, ◌≤◌, ◌-◌, length}
use Rattle.std.specs.Io.KnownBytes.{prepend_known}
use Rattle.qn_io.specs.Lines.{HasNoLineFeed}
use Rattle.qn_io.proofs.lines.read_line.Given as goal

-- what was to come is the line so far and then what is to come, and the line has not ended
abbrev pub invariant-line : goal.invariant-line
invariant-line g l = record {
  unended : HasNoLineFeed l.line.items;
  takes : prepend_known l.fn.pieces (g.I.Source.left l.fn.input) ≡ prepend_known l.line.items (prepend_known l.pieces (g.I.Source.left l.input));
  never_falls : g.I.Source.faults l.fn.input ≤ g.I.Source.faults l.input;
}

abbrev pub decreases-line : goal.decreases-line
decreases-line g l = 4096 - length l.line.items
