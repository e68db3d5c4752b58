use Rattle.std.proofs.Common.{arith}
use Rattle.qn_base.proofs.MaskBits.{bit_outside}
use Rattle.qn_base.proofs.ids.Mask.outside.Goals as goal

pub returns : goal.returns
returns c = λ j below. bit_outside c.args.self.0 j (omega arith) below
