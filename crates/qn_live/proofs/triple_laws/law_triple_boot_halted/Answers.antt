use Rattle.qn_live.proofs.Halted.{boot_halted}
use Rattle.qn_live.proofs.triple_laws.law_triple_boot_halted.Goals as goal

pub returns : goal.returns
returns c = boot_halted
