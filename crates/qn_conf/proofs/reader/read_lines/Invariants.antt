use Rattle.std.proofs.Common.{length}
use Rattle.qn_conf.specs.Conf.{lines}
use Rattle.qn_conf.proofs.Reading.{HasReached}
use Rattle.qn_conf.proofs.reader.read_lines.Given as goal

abbrev pub invariant-loop-line : goal.invariant-loop-line
invariant-loop-line l =
    (goal.iterator-loop-line).can_next l.line-iterator
    × (goal.iterator-loop-line).is_finite l.line-iterator
    × HasReached (length l.yielded) (lines l.text) l.reader.items.items l.reader.depth l.reader.lines
