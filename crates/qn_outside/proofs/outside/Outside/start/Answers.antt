use Rattle.std.proofs.Common.{[], ◌∷◌, sym, ap}
use Rattle.qn_base.specs.declared.calls.Call.TheVariants.{Start}
use Rattle.qn_outside.proofs.Telling.{failed_as, told}
use Rattle.qn_outside.proofs.outside.Outside.start.Goals as goal

pub returns-clause-made : goal.returns-clause-made
returns-clause-made g c =
    told _ _ _ _ _ _ c.order-answer.ensures.did (ap (λ b. Start b ∷ []) (sym c.settled-done.ensures)) c.counted-self.ensures.never_falls
    (failed_as _ _ c.is_ok.ensures.value c.counted-self.ensures.cause)
