use Rattle.std.proofs.Common.{◌∷◌, ap, sym, subst, ◌∙◌}
use Rattle.qn_fence.specs.Fence.{IsOutside, want_of}
use Rattle.qn_node.proofs.live.Live.give.Goals as goal

pub returns-clause-fences : goal.returns-clause-fences
returns-clause-fences c = λ s log line outs h later none given outside.
    c.issued.ensures s log line outs h later none (c.of.ensures ∙ ap want_of (sym given)) (subst (IsOutside (line ∷ log)) (sym given) outside)
