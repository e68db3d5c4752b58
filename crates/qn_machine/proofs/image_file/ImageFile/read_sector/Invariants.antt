use Rattle.std.proofs.Common.{◌≤◌, ◌-◌}
use Rattle.qn_machine.proofs.image_file.ImageFile.read_sector.Given as goal

abbrev pub invariant-parts : goal.invariant-parts
invariant-parts l = l.at ≤ 512

abbrev pub decreases-parts : goal.decreases-parts
decreases-parts l = 512 - l.at
