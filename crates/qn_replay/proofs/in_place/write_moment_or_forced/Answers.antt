use Rattle.std.proofs.Common.{ap, ◌∙◌, sym}
use Rattle.qn_model.specs.Rules.{refusal}
use Rattle.qn_replay.specs.Generator.{soak_settings, soak_timing}
use Rattle.qn_replay.proofs.Forced.{along, forced_allowed, moment_stays, moment_refused, refused_as}
use Rattle.qn_replay.proofs.in_place.write_moment_or_forced.Goals as goal

pub returns-in-Ok-clause-drawn : goal.returns-in-Ok-clause-drawn
returns-in-Ok-clause-drawn c =
    λ d stands.
    c.write_moment.ensures.event
    ∙ moment_stays d (along d _ c.write_moment.new.into (sym c.write_moment.ensures.event) (ap (λ e. refusal soak_settings soak_timing e d) (sym c.event.ensures) ∙ refused_as c.event.result.now d c.requires.settings c.requires.timing (c.in-Ok.ensures d stands)))

pub returns-in-Err-clause-drawn : goal.returns-in-Err-clause-drawn
returns-in-Err-clause-drawn c =
    λ d stands.
    c.write_forced.ensures.drawn d stands
    ∙ moment_refused d _ (ap (λ e. refusal soak_settings soak_timing e d) (sym c.write_moment.ensures.event ∙ sym c.event.ensures)
    ∙ refused_as c.event.result.now d c.requires.settings c.requires.timing (c.in-Err.ensures d stands))

pub returns-in-Err-clause-allowed : goal.returns-in-Err-clause-allowed
returns-in-Err-clause-allowed c = λ d stands. along d c.write_forced.new.into _ (c.write_forced.ensures.drawn d stands) (forced_allowed d)
