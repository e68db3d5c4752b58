use Rattle.std.proofs.Common.{◌≡◌, ◌-◌, ◌≤◌}
use Rattle.std.specs.Io.KnownBytes.{prepend_known}
use Rattle.qn_playback.proofs.Running.{IsRunning}
use Rattle.qn_playback.proofs.run.play.Given as goal

abbrev pub invariant-lines : goal.invariant-lines
invariant-lines g l = record {
  running : IsRunning (g.W.Plays.play l.fn.world) (g.W.Plays.stands l.fn.world l.world) l.fn.head l.place.events
      (prepend_known l.fn.pieces (g.I.Source.left l.fn.input)) (prepend_known l.lines.pieces (g.I.Source.left l.input))
      (g.O.Sink.written l.fn.out) (g.O.Sink.written l.out) l.lines.output;
  head : l.place.head ≡ l.fn.head;
  source : g.I.Source.faults l.fn.input ≤ g.I.Source.faults l.input;
  sink : g.O.Sink.faults l.fn.out ≤ g.O.Sink.faults l.out;
}

abbrev pub decreases-lines : goal.decreases-lines
decreases-lines g l = 200001 - l.place.events
