use Rattle.std.proofs.Common.{arith}
use Rattle.qn_base.proofs.MaskBits.{beyond_bits}
use Rattle.qn_base.proofs.ids.Mask.has.Goals as goal

pub returns-else-rank-lt32 : goal.returns-else-rank-lt32
returns-else-rank-lt32 c = beyond_bits c.args.self.0 c.args.rank.0 (omega arith) (omega arith)
