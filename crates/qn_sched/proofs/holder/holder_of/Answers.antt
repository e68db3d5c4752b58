use Rattle.std.proofs.Common.{◌≡◌, List, ℕ, ap, arith, length, map}
use Rattle.std.specs.Prelude.{decimal}
use Rattle.std.proofs.lemmas.List.{length-map}
use Rattle.qn_model.specs.declared.nodelist.NodeEntry.{NodeEntry}
use Rattle.qn_model.specs.Settings.{ids}
use Rattle.qn_sched.specs.TraceLines.{joined_or_dash}
use Rattle.qn_sched.proofs.Joining.{ids_from-none}
use Rattle.qn_sched.proofs.holder.holder_of.Goals as goal

pub returns-in-None : goal.returns-in-None
returns-in-None c =
    let nodes = c.args.nodes.now in
    let many : length (ids nodes) ≡ length nodes = length-map nodes (λ (n : NodeEntry). n.id.0) in
    let count = c.len.ensures.value in
    let few = c.len.ensures.fits in
    ap (λ (list : List ℕ). joined_or_dash 43 (map decimal list))
    (ids_from-none 0 (ids nodes) c.args.holders (λ rank above low. c.in-None.ensures.none rank (omega arith)))
