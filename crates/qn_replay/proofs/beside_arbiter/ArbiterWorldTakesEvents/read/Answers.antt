use Rattle.std.proofs.Common.{◌≡◌, ◌∙◌, true, ap, subst}
use Rattle.qn_arbiter.specs.EventReading.{arbiter_event_of}
use Rattle.qn_safety.specs.ArbiterRules.{is_well_formed_beside}
use Rattle.qn_model.specs.declared.configuration.Settings.{Settings}
use Rattle.qn_model.specs.Settings.{ids}
use Rattle.qn_replay.proofs.Worlds.{read_is, read_ok}
use Rattle.qn_replay.proofs.beside_arbiter.ArbiterWorldTakesEvents.read.Goals as goal

pub returns-clause-said : goal.returns-clause-said
returns-clause-said c =
    read_is c.read_arbiter_line_into.result c.read_arbiter_line_into.new.into ∙ c.read_arbiter_line_into.ensures.first_fault
    ∙ ap (λ (s : Settings). arbiter_event_of (ids s.nodes) c.args.line.now) c.settings.ensures.same

pub returns-clause-formed : goal.returns-clause-formed
returns-clause-formed c =
    read_ok c.read_arbiter_line_into.result c.read_arbiter_line_into.new.into (λ event. is_well_formed_beside c.args.self.now.settings event ≡ true)
    (λ event is. subst (λ (s : Settings). is_well_formed_beside s event ≡ true) c.settings.ensures.same ((c.read_arbiter_line_into.ensures.spelled event).0 is).0)
