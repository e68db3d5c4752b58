use Rattle.std.proofs.Common.{◌++◌, List, ℕ, Option, arith, ap, subst, sym, refl, ◌∙◌}
use Rattle.std.specs.Io.KnownBytes.{prepend_known}
use Rattle.qn_base.specs.Rising.{HasRisen-within}
use Rattle.qn_io.specs.NextLines.{text_of}
use Rattle.qn_io.specs.Outside.{HasRisen}
use Rattle.qn_io.specs.Writes.{AppendsFront}
use Rattle.qn_playback.specs.RunLaws.{runs_complete}
use Rattle.qn_playback.specs.Runs.{Finishes}
use Rattle.qn_playback.specs.Writing.{GivesOut}
use Rattle.qn_playback.specs.Steps.{stops_wider}
use Rattle.qn_playback.proofs.Running.{IsRunning, begins, drained_passed, failed_passed, finishes, goes_at, reads_passed, stops_here, takes_on, unwritten, unwritten_at, within_passed, writes_on}
use Rattle.qn_playback.proofs.run.play.Goals as goal

pub lines-init : goal.lines-init
lines-init g c =
    let left = prepend_known c.args.pieces (g.I.Source.left c.args.input.now) in
    record {
      running =
          subst (λ (to_come : Option (List ℕ)). IsRunning (g.W.Plays.play c.args.world.now) (g.W.Plays.stands c.args.world.now c.args.world.now) c.args.head 0 left to_come (g.O.Sink.written c.args.out.now) (g.O.Sink.written c.args.out.now) c.new-lines.result.output)
          (ap (λ (p : List ℕ). prepend_known p (g.I.Source.left c.args.input.now)) (sym c.new-lines.ensures.pieces))
          (begins (g.W.Plays.play c.args.world.now) (g.W.Plays.stands c.args.world.now c.args.world.now) c.args.head left (g.O.Sink.written c.args.out.now) c.new-lines.result.output c.requires.stands
          (c.new-lines.ensures.output ∙ c.requires.nothing_waits));
      head = refl;
      source = omega arith;
      sink = omega arith;
    }

pub returns-in_default-clause-runs : goal.returns-in_default-clause-runs
returns-in_default-clause-runs g c =
    unwritten c.lines.invariant.running c.next.new.self.pieces c.next.ensures.within (sym c.in_default.ensures.kept)
    (HasRisen-within _ _ _ _ c.lines.invariant.sink c.next.ensures.sink_faults (omega arith) c.in_default.ensures.write_failed)
    c.in_default.ensures.prefix

pub returns-in-Err-clause-runs : goal.returns-in-Err-clause-runs
returns-in-Err-clause-runs g c =
    let run = c.lines.invariant.running in
    let next = c.in-Ok.next in
    let found = c.next.new.self in
    let text = text_of next found.pieces found.line.items in
    let pieces = c.pass_over.new.self.pieces in
    let sink = c.lines.invariant.sink in
    let wrote = c.next.ensures.sink_faults in
    finishes (writes_on run c.in-Ok.ensures.given)
    pieces c.in-Err.end c.finish.result (within_passed next found.pieces pieces c.pass_over.ensures.passed c.next.ensures.within)
    (c.in-Err.ensures.kept c.args.world.now run.after.earlier run.after.stands)
    (λ rose. HasRisen-within _ _ _ _ (omega (arith, sink, wrote)) c.finish.ensures.never_falls (omega arith) rose)
    (stops_wider (λ fails. (fails.0, HasRisen-within _ _ _ _ c.lines.invariant.source c.next.ensures.source_faults (omega arith) fails.1))
    (stops_here run c.lines.invariant.head c.read.result c.text.result.now c.text.ensures.value c.in-Ok.ensures.unended c.text.ensures.fits
    pieces (g.I.Source.left c.next.new.input) c.in-Err.end
    (reads_passed next c.read.result c.read.ensures found.pieces pieces c.pass_over.ensures.passed
    (prepend_known c.lines.lines.pieces (g.I.Source.left c.lines.input)) (g.I.Source.left c.next.new.input) text c.in-Ok.ensures.reads)
    (drained_passed next c.read.result c.read.ensures found.pieces pieces c.pass_over.ensures.passed c.in-Ok.ensures.drained)
    (failed_passed next c.read.result c.read.ensures found.pieces pieces c.pass_over.ensures.passed (HasRisen (g.I.Source.faults c.lines.input) (g.I.Source.faults c.next.new.input)) c.in-Ok.ensures.read_failed)
    (c.in-Err.ensures.end c.args.world.now)))
    (subst (λ (w : List ℕ). Finishes c.in-Err.end w (g.O.Sink.written c.next.new.out) (g.O.Sink.written c.finish.new.out)
    (HasRisen (g.O.Sink.faults c.next.new.out) (g.O.Sink.faults c.finish.new.out)) c.finish.result)
    c.pass_over.ensures.output c.finish.ensures.finishes)

pub returns-in-Err-clause-complete : goal.returns-in-Err-clause-complete
returns-in-Err-clause-complete g c = λ read_well wrote_well memory. runs_complete _ _ (returns-in-Err-clause-runs g c) read_well wrote_well memory

pub lines-preserved : goal.lines-preserved
lines-preserved g c =
    let run = c.lines.invariant.running in
    let next = c.in-Ok.next in
    let found = c.next.new.self in
    let line = c.text.result.now in
    let pieces = c.pass_over-in-lines.new.self.pieces in
    let sink = c.lines.invariant.sink in
    let source = c.lines.invariant.source in
    let read = c.next.ensures.source_faults in
    let wrote = c.next.ensures.sink_faults in
    let wrote_text = c.put.ensures.never_falls in
    record {
      running =
          takes_on (writes_on run c.in-Ok.ensures.given) {after = prepend_known pieces (g.I.Source.left c.next.new.input)} line c.judge.new.text.items c.judge.new.self.events (c.in_default-judge.ensures.stands c.args.world.now run.after.earlier run.after.stands)
          c.in_default-judge.ensures.few c.in_default-judge.ensures.counted
          (goes_at run c.lines.invariant.head c.read.result line c.text.ensures.value c.in-Ok.ensures.unended c.text.ensures.fits
          c.judge.new.text.items
          (reads_passed next c.read.result c.read.ensures found.pieces pieces c.pass_over-in-lines.ensures.passed
          (prepend_known c.lines.lines.pieces (g.I.Source.left c.lines.input)) (g.I.Source.left c.next.new.input) (text_of next found.pieces found.line.items) c.in-Ok.ensures.reads)
          (c.in_default-judge.ensures.text c.args.world.now))
          (subst (λ (t : List ℕ). GivesOut (g.O.Sink.written c.next.new.out) (g.O.Sink.written c.put.new.out) c.put.new.self (found.output ++ t)) c.as_slice.ensures.value
          (subst (λ (w : List ℕ). GivesOut (g.O.Sink.written c.next.new.out) (g.O.Sink.written c.put.new.out) c.put.new.self (w ++ c.as_slice.result.now)) c.pass_over-in-lines.ensures.output c.in-Ok-put.ensures.given));
      head = c.judge.ensures.head ∙ c.lines.invariant.head;
      source = omega (arith, source, read);
      sink = omega (arith, sink, wrote, wrote_text);
    }

pub returns-in_default-put-clause-runs : goal.returns-in_default-put-clause-runs
returns-in_default-put-clause-runs g c =
    let run = c.lines.invariant.running in
    let next = c.in-Ok.next in
    let found = c.next.new.self in
    let line = c.text.result.now in
    let pieces = c.pass_over-in-lines.new.self.pieces in
    let sink = c.lines.invariant.sink in
    let wrote = c.next.ensures.sink_faults in
    unwritten_at (writes_on run c.in-Ok.ensures.given) pieces line c.judge.new.text.items (within_passed next found.pieces pieces c.pass_over-in-lines.ensures.passed c.next.ensures.within)
    (goes_at run c.lines.invariant.head c.read.result line c.text.ensures.value c.in-Ok.ensures.unended c.text.ensures.fits
    c.judge.new.text.items
    (reads_passed next c.read.result c.read.ensures found.pieces pieces c.pass_over-in-lines.ensures.passed
    (prepend_known c.lines.lines.pieces (g.I.Source.left c.lines.input)) (g.I.Source.left c.next.new.input) (text_of next found.pieces found.line.items) c.in-Ok.ensures.reads)
    (c.in_default-judge.ensures.text c.args.world.now))
    (HasRisen-within _ _ _ _ (omega (arith, sink, wrote)) c.put.ensures.never_falls (omega arith) c.in_default-put.ensures.cause)
    (subst (λ (t : List ℕ). AppendsFront (g.O.Sink.written c.next.new.out) (g.O.Sink.written c.put.new.out) (found.output ++ t)) c.as_slice.ensures.value
    (subst (λ (w : List ℕ). AppendsFront (g.O.Sink.written c.next.new.out) (g.O.Sink.written c.put.new.out) (w ++ c.as_slice.result.now)) c.pass_over-in-lines.ensures.output c.in_default-put.ensures.prefix))
