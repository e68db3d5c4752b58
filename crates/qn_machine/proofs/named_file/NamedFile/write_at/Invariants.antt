use Rattle.std.proofs.Common.{◌≤◌, ◌-◌, length}
use Rattle.qn_machine.proofs.named_file.NamedFile.write_at.Given as goal

abbrev pub invariant-parts : goal.invariant-parts
invariant-parts l = l.at ≤ length l.from

abbrev pub decreases-parts : goal.decreases-parts
decreases-parts l = length l.from - l.at
