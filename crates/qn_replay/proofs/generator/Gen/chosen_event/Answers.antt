use Rattle.std.proofs.Common.{ap, ◌∙◌}
use Rattle.qn_model.specs.Rules.{is_well_formed}
use Rattle.qn_replay.specs.Generator.{soak_settings, undrawn}
use Rattle.qn_replay.proofs.Choices.{step_drawn, pass_chosen, view_drawn, delivery_drawn, device_drawn, incident_drawn, device_formed}
use Rattle.qn_replay.proofs.generator.Gen.chosen_event.Goals as goal

pub returns-in-Step-clause-drawn : goal.returns-in-Step-clause-drawn
returns-in-Step-clause-drawn c =
    λ d stands.
    step_drawn d c.args.choice c.args.rank c.args.self.now _ c.pending.result c.time.result c.in-Step.is c.requires.settings (c.pending.ensures d stands)
    (c.time.ensures ∙ stands.cluster.times) c.next_step.ensures.drawn

pub returns-in-Pass-clause-drawn : goal.returns-in-Pass-clause-drawn
returns-in-Pass-clause-drawn c =
    λ d stands. pass_chosen d c.args.choice c.args.rank c.args.self.now _ c.in-Pass.is (c.pass_of.ensures.drawn d stands)

pub returns-in-View-clause-drawn : goal.returns-in-View-clause-drawn
returns-in-View-clause-drawn c = λ d stands. view_drawn d c.args.choice c.args.rank c.args.self.now _ c.in-View.is c.view.ensures.drawn

pub returns-in-Delivery-clause-drawn : goal.returns-in-Delivery-clause-drawn
returns-in-Delivery-clause-drawn c =
    λ d stands. delivery_drawn d c.args.choice c.args.rank c.args.self.now _ c.in-Delivery.is (c.delivery.ensures.drawn d stands)

pub returns-in-Device-clause-drawn : goal.returns-in-Device-clause-drawn
returns-in-Device-clause-drawn c =
    λ d stands. ap (λ e. undrawn e c.args.self.now) c.set_device.ensures ∙ device_drawn d c.args.choice c.args.rank c.args.self.now c.in-Device.is

pub returns-in-Device-clause-formed : goal.returns-in-Device-clause-formed
returns-in-Device-clause-formed c = ap (λ e. is_well_formed soak_settings e) c.set_device.ensures ∙ device_formed c.args.rank c.requires.rank

pub returns-in-Incident-clause-drawn : goal.returns-in-Incident-clause-drawn
returns-in-Incident-clause-drawn c =
    λ d stands.
    incident_drawn d c.args.choice c.args.rank c.args.self.now c.draw.new.self c.draw.result c.write_incident.new.into c.in-Incident.is c.draw.ensures.state
    c.draw.ensures.value c.write_incident.ensures.event
