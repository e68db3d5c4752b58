use Rattle.std.proofs.Common.{◌≡◌, ℕ, ◌≤◌, take}
use Rattle.std.specs.Prelude.{All}
use Rattle.qn_model.specs.NodeOutputs.{log_of, outs_of}
use Rattle.qn_plain.specs.Past.{PastFor, ResetsBy}
use Rattle.qn_plain.proofs.evaluation.evaluate.Given as goal

abbrev pub invariant-loop-index : goal.invariant-loop-index
invariant-loop-index l = record {
  stands : PastFor l.settings l.past (log_of l.settings l.me.0 (take l.index l.history));
  outs : l.outs ≡ outs_of l.settings l.me.0 (take l.index l.history);
  resets : (tick : ℕ) → All (λ entry. entry.tick ≤ tick) l.history → ResetsBy l.past tick;
}
