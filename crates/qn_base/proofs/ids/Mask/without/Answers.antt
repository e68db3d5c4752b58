use Rattle.qn_base.proofs.MaskBits.{bit_without}
use Rattle.qn_base.proofs.ids.Mask.without.Goals as goal

pub returns : goal.returns
returns c = bit_without c.args.self.0 c.args.other.0
