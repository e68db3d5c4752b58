use Rattle.std.proofs.Common.{Some, ap, sym, ◌∙◌}
use Rattle.std.proofs.lemmas.Option.{same_Some}
use Rattle.qn_verdict.proofs.TextsRead.{judged}
use Rattle.qn_verdict.proofs.VerdictLaws.{all_fresh, healthy_parts, two_holders}
use Rattle.qn_verdict.specs.Verdicts.{judge}
use Rattle.qn_verdict.specs.declared.verdict.Verdict.TheVariants.{Healthy}
use Rattle.qn_verdict.proofs.laws.law_verdict.Goals as goal

pub returns-clause-two_holders : goal.returns-clause-two_holders
returns-clause-two_holders c = λ now nodes fit two. judged c.law_shown_read_back.ensures now nodes fit ∙ ap (λ v. Some v) (two_holders now nodes two)

pub returns-clause-one_holder : goal.returns-clause-one_holder
returns-clause-one_holder c = λ now nodes fit healthy.
    let parts = healthy_parts now nodes (same_Some (judge now nodes) Healthy (sym (judged c.law_shown_read_back.ensures now nodes fit) ∙ healthy)) in
    (parts.held, parts.once)

pub returns-clause-fresh : goal.returns-clause-fresh
returns-clause-fresh c = λ now nodes fit healthy.
    all_fresh now nodes (healthy_parts now nodes (same_Some (judge now nodes) Healthy (sym (judged c.law_shown_read_back.ensures now nodes fit) ∙ healthy))).well
