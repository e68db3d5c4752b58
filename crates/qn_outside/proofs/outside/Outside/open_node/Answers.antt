use Rattle.std.proofs.Common.{◌≡◌, ◌≤◌, [], ◌∷◌, ◌++◌, refl, sym, ap, subst, ◌∙◌}
use Rattle.std.specs.Prelude.{is_ok}
use Rattle.qn_base.specs.Faults.{HasRisen}
use Rattle.qn_io.specs.Openings.{node_opening}
use Rattle.qn_outside.specs.Deeds.{calls_of, Opened}
use Rattle.qn_outside.proofs.Telling.{calls_of-append, does_both, failed_as, told}
use Rattle.qn_outside.proofs.outside.Outside.open_node.Goals as goal

pub returns-clause-made : goal.returns-clause-made
returns-clause-made g c =
    let parts = c.open_parts-done.ensures.silent in
    let opening = c.args.opening.now in
    let is : calls_of (parts.deeds ++ Opened opening c.is_ok-ok.result ∷ []) ≡ node_opening opening (is_ok c.open_parts-done.result) ∷ [] =
    calls_of-append parts.deeds (Opened opening c.is_ok-ok.result ∷ [])
    ∙ ap (λ l. l ++ node_opening opening c.is_ok-ok.result ∷ []) parts.none
    ∙ ap (λ b. node_opening opening b ∷ []) c.is_ok-ok.ensures.value in
    told _ _ _ _ _ _ (does_both _ _ _ _ _ parts.did c.say_opening.ensures) is
    (subst (λ f. f ≤ c.counted-self.result) c.open_parts-done.ensures.faults c.counted-self.ensures.never_falls)
    (failed_as _ _ c.is_ok-ok.ensures.value (λ no. subst (λ f. HasRisen f c.counted-self.result) c.open_parts-done.ensures.faults (c.counted-self.ensures.cause no)))
