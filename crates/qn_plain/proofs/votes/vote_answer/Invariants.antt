use Rattle.std.proofs.Common.{◌≡◌, take}
use Rattle.std.specs.Prelude.{reverse}
use Rattle.qn_plain.specs.Tally.{tally_of}
use Rattle.qn_plain.proofs.votes.vote_answer.Given as goal

abbrev pub invariant-loop-entry : goal.invariant-loop-entry
invariant-loop-entry l = l.tally ≡ tally_of l.settings (reverse (take l.entry-index l.votes))
