use Rattle.std.proofs.Common.{◌+◌, ◌*◌, ap}
use Rattle.qn_candidate.proofs.number.under_name.Goals as goal

pub returns : goal.returns
returns c = ap (λ low. c.args.high * 72057594037927936 + low) c.min.ensures
