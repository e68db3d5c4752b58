use Rattle.std.proofs.Common.{arith, ◌-◌, [], ◌∷◌, ◌++◌, length, ap, sym, ◌∙◌}
use Rattle.qn_model.specs.Wanted.{rank_of}
use Rattle.qn_settings.proofs.TieLemmas.{highest-all, highest-more}
use Rattle.qn_settings.proofs.tie_order.highest.Goals as goal

pub loop-place-preserved : goal.loop-place-preserved
loop-place-preserved c =
    c.push.ensures
    ∙ ap (λ count. c.loop-place.order ++ rank_of (count - 1 - c.loop-place.place) ∷ []) c.len.ensures.value
    ∙ ap (λ order. order ++ rank_of (length c.args.nodes.now - 1 - c.loop-place.place) ∷ []) c.loop-place.invariant
    ∙ sym (highest-more c.args.nodes.now c.loop-place.place (omega (arith, c.len-place-end.ensures.value)))

pub returns : goal.returns
returns c = c.loop-place.invariant ∙ highest-all c.args.nodes.now c.loop-place.place (omega (arith, c.len-place-end.ensures.value))
