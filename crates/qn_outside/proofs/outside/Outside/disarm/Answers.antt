use Rattle.std.proofs.Common.{◌≡◌, [], ◌∷◌, ◌++◌, refl, sym, ap, ◌∙◌}
use Rattle.qn_outside.proofs.Telling.{calls_of-append, does_both, failed_as, told}
use Rattle.qn_outside.proofs.outside.Outside.disarm.Goals as goal

pub returns-clause-made : goal.returns-clause-made
returns-clause-made g c =
    told _ _ _ _ _ _ c.disarm-done.ensures refl c.counted-self.ensures.never_falls (failed_as _ _ c.is_ok.ensures.value c.counted-self.ensures.cause)
