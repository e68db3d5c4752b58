use Rattle.qn_base.proofs.MaskBits.{bit_with}
use Rattle.qn_base.proofs.ids.Mask.with.Goals as goal

pub returns-then-rank-lt32 : goal.returns-then-rank-lt32
returns-then-rank-lt32 c = λ j below. bit_with c.args.self.0 c.args.rank.0 j c.if-rank-lt32.true
