-- What was added are the words of the first phases.
use Rattle.std.proofs.Common.{◌≡◌, ◌≤◌, ◌+◌, ◌*◌, ◌++◌, length, take}
use Rattle.std.specs.Prelude.{codes, flat_map}
use Rattle.qn_supervisor.specs.Replies.{phase_text}
use Rattle.qn_supervisor.proofs.reply.phases_line.Given as goal

abbrev pub invariant-loop-phase : goal.invariant-loop-phase
invariant-loop-phase l = record {
  text : l.line ≡ codes "phases" ++ flat_map phase_text (take l.phase-index l.first);
  len : length l.line ≤ 6 + 12 * l.phase-index;
}
