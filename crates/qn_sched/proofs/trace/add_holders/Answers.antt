use Rattle.std.proofs.Common.{◌≡◌, ◌++◌, ◌∙◌, List, ℕ, ap, arith, length, map, sym}
use Rattle.std.specs.Prelude.{decimal, not}
use Rattle.std.proofs.lemmas.List.{length-map}
use Rattle.qn_base.specs.lemmas.Options.{if_none}
use Rattle.qn_model.specs.declared.nodelist.NodeEntry.{NodeEntry}
use Rattle.qn_model.specs.Settings.{ids}
use Rattle.qn_sched.specs.TraceLines.{joined_or_dash}
use Rattle.qn_sched.proofs.Joining.{ids_from-none}
use Rattle.qn_sched.proofs.trace.add_holders.Goals as goal

pub returns-then-is_none-clause-text : goal.returns-then-is_none-clause-text
returns-then-is_none-clause-text c =
    let nodes = c.args.nodes.now in
    let many : length (ids nodes) ≡ length nodes = length-map nodes (λ (n : NodeEntry). n.id.0) in
    let nobody = if_none c.first.result _ (c.is_none.ensures ∙ ap not c.if-is_none.true) c.first.ensures.none in
    c.add.ensures.text
    ∙ ap (λ (list : List ℕ). c.args.into.now.items ++ joined_or_dash 43 (map decimal list))
    (sym (ids_from-none 0 (ids nodes) c.args.holders (λ rank above low. nobody rank (omega arith))))
