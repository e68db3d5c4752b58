use Rattle.std.proofs.Common.{◌≡◌, true, false, refl}
use Rattle.qn_outside.proofs.Telling.{none_failed, told}
use Rattle.qn_outside.proofs.outside.Outside.now.Goals as goal

pub returns-then-ok-clause-made : goal.returns-then-ok-clause-made
returns-then-ok-clause-made g c = told _ _ _ _ _ _ c.tick-tick.ensures.did refl c.counted-self.ensures.never_falls none_failed

pub returns-else-ok-clause-made : goal.returns-else-ok-clause-made
returns-else-ok-clause-made g c = told _ _ _ _ _ _ c.tick-tick.ensures.did refl c.counted-self.ensures.never_falls none_failed
