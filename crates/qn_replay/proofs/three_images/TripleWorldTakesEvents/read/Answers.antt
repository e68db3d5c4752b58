use Rattle.std.proofs.Common.{◌≡◌, ◌∙◌, true, ap, sym}
use Rattle.qn_model.specs.declared.configuration.Settings.{Settings}
use Rattle.qn_model.specs.Settings.{ids}
use Rattle.qn_safety.specs.TripleRules.{is_well_formed_triple}
use Rattle.qn_triple.specs.TripleReading.{triple_event_of}
use Rattle.qn_replay.proofs.Worlds.{read_is, read_ok}
use Rattle.qn_replay.proofs.three_images.TripleWorldTakesEvents.read.Goals as goal

pub returns-clause-said : goal.returns-clause-said
returns-clause-said c =
    read_is c.read_triple_line_into.result c.read_triple_line_into.new.into ∙ c.read_triple_line_into.ensures.first_fault
    ∙ ap (λ (s : Settings). triple_event_of (ids s.nodes) c.args.line.now) c.settings.ensures.same

pub returns-clause-formed : goal.returns-clause-formed
returns-clause-formed c =
    read_ok c.read_triple_line_into.result c.read_triple_line_into.new.into (λ event. is_well_formed_triple c.args.self.now.settings event ≡ true)
    (λ event is. c.law_triple_lines.ensures c.args.self.now.settings c.args.line.now event c.settings.ensures.valid
    (ap (λ (s : Settings). triple_event_of (ids s.nodes) c.args.line.now) (sym c.settings.ensures.same) ∙ sym c.read_triple_line_into.ensures.first_fault ∙ is))
