use Rattle.std.proofs.Common.{◌≡◌, ◌≤◌, [], length, arith, subst}
use Rattle.std.proofs.lemmas.List.Elements.{All-nil}
use Rattle.std.specs.Prelude.{◌==◌, false}
use Rattle.std.specs.Io.KnownBytes.{prepend_known}
use Rattle.qn_base.specs.Plans.{left}
use Rattle.qn_base.specs.Rising.{HasRisen-within}
use Rattle.qn_io.specs.declared.lines.LineRead.{LineRead}
use Rattle.qn_io.specs.declared.lines.LineRead.TheVariants as read
use Rattle.qn_io.specs.Lines.{OnFailedLine, ReadsLine}
use Rattle.qn_io.specs.Outside.{HasRisen}
use Rattle.qn_model.specs.LineLaws.{IsPartOfLine}
use Rattle.qn_audit.specs.Auditing.{LogEnds, at_first}
use Rattle.qn_audit.specs.Taking.{standing}
use Rattle.qn_audit.proofs.LogSteps.{leads_on, next_read, open_inside, still_drained, stops_here}
use Rattle.qn_audit.proofs.Steps.{leads_nowhere, leads_then, stops_then, stops_wider}
use Rattle.qn_audit.proofs.log.audit_log.Goals as goal

pub lines-init : goal.lines-init
lines-init g c =
    let to_come = prepend_known c.args.pieces.now (g.I.Source.left c.args.input.now) in
    record {
      judging = c.requires.judging;
      led = λ plan stands. (
        plan,
        stands,
        rw (c.new-place.ensures.head, c.new-place.ensures.lines, c.new-place.ensures.turns)
            (leads_nowhere (LogEnds (at_first plan c.args.head)) to_come (open_inside (at_first plan c.args.head) [] (All-nil (λ byte. (byte == 10) ≡ false)) (omega arith))),
      );
      source = omega arith;
    }

pub returns-in-Err-clause-ends : goal.returns-in-Err-clause-ends
returns-in-Err-clause-ends g c = λ plan stands.
    let led = c.lines.invariant.led plan stands in
    let next = c.read_next-next in
    let left = g.I.Source.left next.new.input in
    let line = c.text.result.now in
    let what = c.read.result in
    let before = prepend_known c.lines.pieces (g.I.Source.left c.lines.input) in
    let here = g.I.Source.faults c.lines.input in
    let after = g.I.Source.faults next.new.input in
    let inside : IsPartOfLine line = rw c.text.ensures next.ensures.unended in
    let short : length line ≤ 4096 = rw c.text.ensures next.ensures.short in
    let cause : OnFailedLine what (HasRisen here after) = rw c.read.ensures next.ensures.cause in
    stops_then led.2
    (stops_wider (λ fails. (fails.0, HasRisen-within _ here after after c.lines.invariant.source next.ensures.never_falls (omega arith) fails.1))
    (stops_here (standing c.lines.place led.0) line inside short what c.pass_over.new.self left before c.in-Err.end
    (next_read next.result what line next.new.pieces next.new.line.items c.pass_over.new.self c.own_count.result before left
    c.read.ensures c.text.ensures c.own_count.ensures c.pass_over.ensures next.ensures.reads)
    (still_drained next.result what next.new.pieces c.pass_over.new.self c.own_count.result c.read.ensures c.own_count.ensures c.pass_over.ensures next.ensures.drained)
    cause (c.in-Err.ensures.end led.0 led.1)))

pub lines-preserved : goal.lines-preserved
lines-preserved g c =
    let took = c.in_default.ensures.takes in
    let next = c.read_next-next in
    let left_of = g.I.Source.left next.new.input in
    let to_come = prepend_known c.pass_over.new.self left_of in
    let before = prepend_known c.lines.pieces (g.I.Source.left c.lines.input) in
    let line = c.text.result.now in
    let reads : ReadsLine read.Line line before to_come =
    subst (λ (what : LineRead). ReadsLine what line before to_come) took.0
    (next_read next.result c.read.result line next.new.pieces next.new.line.items c.pass_over.new.self c.own_count.result before left_of
    c.read.ensures c.text.ensures c.own_count.ensures c.pass_over.ensures next.ensures.reads) in
    let inside : IsPartOfLine line = rw c.text.ensures next.ensures.unended in
    let short : length line ≤ 4096 = rw c.text.ensures next.ensures.short in
    let judging = c.lines.invariant.judging in
    record {
      judging = (left judging.0 took.1.call, took.1.stands judging.0 judging.1);
      led = λ plan stands.
          let led = c.lines.invariant.led plan stands in (
            left led.0 took.1.call,
            took.1.stands led.0 led.1,
            rw (took.1.head, took.1.lines, took.1.turns)
                (leads_then led.2 (leads_on (standing c.lines.place led.0) line inside short took.1.call reads took.1.says (took.1.next led.0 led.1))),
          );
      source = omega (arith, c.lines.invariant.source, next.ensures.never_falls);
    }
