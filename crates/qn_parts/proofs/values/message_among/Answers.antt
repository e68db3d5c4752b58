use Rattle.std.proofs.Common.{◌≡◌, ◌∷◌, ◌+◌, drop, subst, sym, ◌∙◌}
use Rattle.std.proofs.lemmas.Option.{slice_get-get_or}
use Rattle.qn_parts.proofs.ValueSteps.{message_more, message_same}
use Rattle.qn_safety.specs.TripleWorld.{message_among, messages_among}
use Rattle.qn_parts.proofs.values.message_among.Goals as goal
use Rattle.qn_parts.proofs.values.message_among.Goals.{in-Some, in_default}

pub loop-value-preserved : goal.loop-value-preserved
loop-value-preserved c =
    let values = c.args.values.now in
    let k = c.loop-value.value-index in
    let here = slice_get-get_or values k _ c.loop-value-test.true in
    elim c.match-message_in.branch [
      | in-Some b ↦ subst (λ told. message_among (told ∷ messages_among (drop (k + 1) values)) ≡ message_among (messages_among values)) (sym (b.told-is ∙ b.stronger-told.ensures))
          (message_more values k _ c.loop-value.told b.in-Some.found _ here (sym c.message_in.ensures ∙ b.in-Some.is) c.loop-value.invariant)
      | in_default b ↦ subst (λ told. message_among (told ∷ messages_among (drop (k + 1) values)) ≡ message_among (messages_among values)) (sym b.told-is)
          (message_same values k _ c.loop-value.told _ here (sym c.message_in.ensures ∙ b.in_default.is) c.loop-value.invariant)
    ]
