use Rattle.qn_base.proofs.MaskBits.{bit_both}
use Rattle.qn_base.proofs.ids.Mask.both.Goals as goal

pub returns : goal.returns
returns c = bit_both c.args.self.0 c.args.other.0
