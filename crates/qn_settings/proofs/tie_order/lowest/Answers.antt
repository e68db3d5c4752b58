use Rattle.std.proofs.Common.{arith, [], ◌∷◌, ◌++◌, ap, sym, ◌∙◌}
use Rattle.qn_model.specs.Wanted.{rank_of}
use Rattle.qn_settings.proofs.TieLemmas.{lowest-all, lowest-more}
use Rattle.qn_settings.proofs.tie_order.lowest.Goals as goal

pub loop-place-preserved : goal.loop-place-preserved
loop-place-preserved c =
    c.push.ensures
    ∙ ap (λ order. order ++ rank_of (c.loop-place.place) ∷ []) c.loop-place.invariant
    ∙ sym (lowest-more c.args.nodes.now c.loop-place.place (omega (arith, c.len-place-end.ensures.value)))

pub returns : goal.returns
returns c = c.loop-place.invariant ∙ lowest-all c.args.nodes.now c.loop-place.place (omega (arith, c.len-place-end.ensures.value))
