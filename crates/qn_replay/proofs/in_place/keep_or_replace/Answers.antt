use Rattle.std.proofs.Common.{ap, ◌∙◌, sym}
use Rattle.qn_model.specs.Rules.{refusal}
use Rattle.qn_replay.specs.Generator.{soak_settings, soak_timing}
use Rattle.qn_replay.proofs.Forced.{in_place_allowed, in_place_refused, refused_as}
use Rattle.qn_replay.proofs.in_place.keep_or_replace.Goals as goal

pub returns-in-Ok-clause-drawn : goal.returns-in-Ok-clause-drawn
returns-in-Ok-clause-drawn c =
    λ d stands. in_place_allowed c.args.event.now d (ap (λ e. refusal soak_settings soak_timing e d) (sym c.event.ensures) ∙ (refused_as c.event.result.now d c.requires.settings c.requires.timing (c.in-Ok.ensures d stands)))

pub returns-in-Err-clause-drawn : goal.returns-in-Err-clause-drawn
returns-in-Err-clause-drawn c =
    λ d stands.
    in_place_refused c.args.event.now c.write_moment_or_forced.new.into d _ (ap (λ e. refusal soak_settings soak_timing e d) (sym c.event.ensures) ∙ (refused_as c.event.result.now d c.requires.settings c.requires.timing (c.in-Err.ensures d stands)))
    (c.write_moment_or_forced.ensures.drawn d stands)
