use Rattle.std.proofs.Common.{◌≤◌, ◌++◌, ap, ◌∙◌, arith}
use Rattle.std.proofs.lemmas.List.{take-replicate}
use Rattle.qn_sector.proofs.fields.add_zeros.Goals as goal

pub returns : goal.returns
returns c =
    let small : c.args.count ≤ 512 = omega arith in
    c.add.ensures.text ∙ ap (λ x. c.args.sector.now.items ++ x) (c.split_at.ensures.front ∙ take-replicate c.args.count 512 0 small)
