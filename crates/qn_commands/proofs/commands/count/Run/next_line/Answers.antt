use Rattle.std.proofs.Common.{[], ◌∷◌, ◌++◌, sym, ap, ◌∙◌, subst}
use Rattle.std.specs.Io.KnownBytes.{prepend_known}
use Rattle.qn_io.specs.Lines.{HasNoLineFeed}
use Rattle.qn_io.specs.Outside.{left_at_end}
use Rattle.qn_commands.proofs.Turned.{turn_failed, turn_line, turn_rest, turn_too_long}
use Rattle.qn_commands.proofs.commands.count.Run.next_line.Goals as goal

pub returns-in-Line-clause-turns : goal.returns-in-Line-clause-turns
returns-in-Line-clause-turns g c =
    let same = sym c.as_slice-line.ensures.value in
    turn_line _ _ _ c.take_line.result _ c.as_slice-line.result.now
    (subst HasNoLineFeed same c.in-Line.ensures.unended)
    c.as_slice-line.ensures.fits
    (c.in-Line.ensures.reads ∙ ap (λ xs. prepend_known (xs ++ 10 ∷ []) (prepend_known c.read_line-read.new.pieces (g.I.Source.left c.read_line-read.new.input))) same)
    c.take_line.ensures.judges

pub returns-in-Rest-clause-turns : goal.returns-in-Rest-clause-turns
returns-in-Rest-clause-turns g c =
    let same = sym c.as_slice-line.ensures.value in
    turn_rest _ _ _ _ _ c.as_slice-line.result.now
    (subst HasNoLineFeed same c.in-Rest.ensures.unended)
    c.as_slice-line.ensures.fits
    (c.in-Rest.ensures.reads.0 ∙ ap (λ xs. prepend_known xs (prepend_known c.read_line-read.new.pieces (g.I.Source.left c.read_line-read.new.input))) same)
    (c.in-Rest.ensures.drained, left_at_end c.read_line-read.new.pieces _ c.in-Rest.ensures.drained c.in-Rest.ensures.reads.1)
    c.end.ensures.answers

pub returns-in-TooLong-clause-turns : goal.returns-in-TooLong-clause-turns
returns-in-TooLong-clause-turns g c =
    turn_too_long _ _ _ _ _ c.read_line-read.new.line.items
    c.in-TooLong.ensures.unended
    c.in-TooLong.ensures.reads
    c.end_at_fault.ensures.answers

pub returns-in-Failed-clause-turns : goal.returns-in-Failed-clause-turns
returns-in-Failed-clause-turns g c =
    let same = sym c.as_slice-line.ensures.value in
    turn_failed _ _ _ _ _ c.as_slice-line.result.now
    (subst HasNoLineFeed same c.in-Failed.ensures.unended)
    c.as_slice-line.ensures.fits
    (c.in-Failed.ensures.reads ∙ ap (λ xs. prepend_known xs (prepend_known c.read_line-read.new.pieces (g.I.Source.left c.read_line-read.new.input))) same)
    (c.in-Failed.ensures.drained, c.in-Failed.ensures.cause)
    c.end_unread.ensures.answers
