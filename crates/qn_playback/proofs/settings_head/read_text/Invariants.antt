use Rattle.std.proofs.Common.{◌-◌, ◌≤◌, length}
use Rattle.std.specs.Io.KnownBytes.{prepend_known}
use Rattle.qn_playback.specs.Texts.{bytes_of}
use Rattle.qn_playback.proofs.TextSteps.{IsReading}
use Rattle.qn_playback.proofs.settings_head.read_text.Given as goal

-- the text may go on, and what the whole input gives is what the rest gives after it
abbrev pub invariant-bytes : goal.invariant-bytes
invariant-bytes g l = record {
  reads : IsReading l.text (prepend_known l.fn.pieces (g.I.Source.left l.fn.input)) (prepend_known l.pieces (g.I.Source.left l.input));
  never_falls : g.I.Source.faults l.fn.input ≤ g.I.Source.faults l.input;
}

abbrev pub decreases-bytes : goal.decreases-bytes
decreases-bytes g l = 1048581 - length (bytes_of l.text)
