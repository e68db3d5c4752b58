use Rattle.std.proofs.Common.{◌≡◌, ap, ◌∙◌, arith}
use Rattle.std.specs.Prelude.{decimal}
use Rattle.qn_base.specs.Decimal.{number_of}
use Rattle.qn_base.proofs.decimal.write_decimal.Goals as goal
use Rattle.qn_base.specs.lemmas.Decimals.{number_of-decimal}

pub returns-clause-reads_back : goal.returns-clause-reads_back
returns-clause-reads_back c =
    let written : c.try_extend_from_slice.new.self.items ≡ decimal c.args.n = grind arith in
    ap number_of written ∙ number_of-decimal c.args.n (omega arith)
