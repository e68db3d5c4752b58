use Rattle.std.proofs.Common.{refl}
use Rattle.qn_outside.proofs.Telling.{does_both, silent_one, silent_step}
use Rattle.qn_outside.proofs.outside.Outside.open_parts.Goals as goal

pub returns-in_err-open_images-clause-silent : goal.returns-in_err-open_images-clause-silent
returns-in_err-open_images-clause-silent g c =
    silent_step _ _ _ _ (silent_one _ _ _ c.in_ok-listen.ensures refl) c.in_err-open_images.ensures refl

pub returns-in_err-times-clause-silent : goal.returns-in_err-times-clause-silent
returns-in_err-times-clause-silent g c =
    silent_step _ _ _ _ (silent_step _ _ _ _ (silent_one _ _ _ c.in_ok-listen.ensures refl) c.in_ok-open_images.ensures refl)
    c.in_err-times.ensures.failed refl

pub returns-in_err-stop_first-clause-silent : goal.returns-in_err-stop_first-clause-silent
returns-in_err-stop_first-clause-silent g c =
    silent_step _ _ _ _
    (silent_step _ _ _ _ (silent_step _ _ _ _ (silent_one _ _ _ c.in_ok-listen.ensures refl) c.in_ok-open_images.ensures refl) c.in_ok-times.ensures.ok refl)
    c.in_err-stop_first.ensures.did refl

pub returns-in_err-look-clause-silent : goal.returns-in_err-look-clause-silent
returns-in_err-look-clause-silent g c =
    silent_step _ _ _ _
    (silent_step _ _ _ _
    (silent_step _ _ _ _ (silent_step _ _ _ _ (silent_one _ _ _ c.in_ok-listen.ensures refl) c.in_ok-open_images.ensures refl) c.in_ok-times.ensures.ok refl)
    c.in_ok-stop_first.ensures.did refl)
    c.in_err-look.ensures refl

pub returns-in_err-arm-clause-silent : goal.returns-in_err-arm-clause-silent
returns-in_err-arm-clause-silent g c =
    silent_step _ _ _ _
    (silent_step _ _ _ _
    (silent_step _ _ _ _
    (silent_step _ _ _ _ (silent_step _ _ _ _ (silent_one _ _ _ c.in_ok-listen.ensures refl) c.in_ok-open_images.ensures refl) c.in_ok-times.ensures.ok refl)
    c.in_ok-stop_first.ensures.did refl)
    c.in_ok-look.ensures refl)
    c.in_err-arm.ensures refl

pub returns-clause-parts : goal.returns-clause-parts
returns-clause-parts g c =
    record {
      watchdog = c.in_ok-times.times.watchdog;
      did =
          does_both _ _ _ _ _ c.in_ok-listen.ensures
          (does_both _ _ _ _ _ c.in_ok-open_images.ensures
          (does_both _ _ _ _ _ c.in_ok-times.ensures.ok
          (does_both _ _ _ _ _ c.in_ok-stop_first.ensures.did (does_both _ _ _ _ _ c.in_ok-look.ensures c.in_ok-arm.ensures))));
    }

pub returns-clause-silent : goal.returns-clause-silent
returns-clause-silent g c =
    silent_step _ _ _ _
    (silent_step _ _ _ _
    (silent_step _ _ _ _
    (silent_step _ _ _ _ (silent_step _ _ _ _ (silent_one _ _ _ c.in_ok-listen.ensures refl) c.in_ok-open_images.ensures refl) c.in_ok-times.ensures.ok refl)
    c.in_ok-stop_first.ensures.did refl)
    c.in_ok-look.ensures refl)
    c.in_ok-arm.ensures refl
