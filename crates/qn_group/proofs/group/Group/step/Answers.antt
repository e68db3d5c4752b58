-- Each event by what its part ensures; the stop's arm needs no answer.
use Rattle.std.proofs.Common.{None, false, refl, sym, subst, ◌∙◌}
use Rattle.qn_group.specs.declared.group.Event.{Event}
use Rattle.qn_group.specs.declared.group.Event.TheVariants as event
use Rattle.qn_group.specs.Steps.{Step}
use Rattle.qn_group.proofs.Stages.{Moved-from_Acted}
use Rattle.qn_group.proofs.Stepping.{Moved-ended, Step-unstopped}
use Rattle.qn_group.proofs.group.Group.step.Goals as goal

pub returns-in-Tick : goal.returns-in-Tick
returns-in-Tick c =
    let after = λ (happened : Event). Step c.args.self.now happened (record { answer = None; act = c.tick.result; is_counted = false }) c.tick.new.self in
    subst after (sym c.in-Tick.is) (
    Step-unstopped _ (event.Tick c.in-Tick.tick) _ _ refl c.tick.ensures.started (λ yes. sym c.tick.ensures.held ∙ yes) (λ at. Moved-from_Acted _ _ _ at c.tick.ensures.acted)
    )

pub returns-in-Start : goal.returns-in-Start
returns-in-Start c =
    let after = λ (happened : Event). Step c.args.self.now happened c.start.result c.start.new.self in
    subst after (sym c.in-Start.is) (
    Step-unstopped _ event.Start _ _ c.start.ensures.not_stopped (λ yes. c.start.ensures.held) (λ yes. refl) (λ at. Moved-from_Acted _ _ _ at c.start.ensures.acted)
    )

pub returns-in-Move : goal.returns-in-Move
returns-in-Move c =
    let after = λ (happened : Event). Step c.args.self.now happened c.move_away.result c.move_away.new.self in
    subst after (sym c.in-Move.is) (
    Step-unstopped _ event.Move _ _ c.move_away.ensures.not_stopped c.move_away.ensures.started (λ yes. sym c.move_away.ensures.held ∙ yes) (
    λ at. Moved-from_Acted _ _ _ at c.move_away.ensures.acted
    )
    )

pub returns-in-Maintenance : goal.returns-in-Maintenance
returns-in-Maintenance c =
    let after = λ (happened : Event). Step c.args.self.now happened (record { answer = None; act = c.drive.result; is_counted = false }) c.drive.new.self in
    subst after (sym c.in-Maintenance.is) (
    Step-unstopped _ (event.Maintenance c.in-Maintenance.on) _ _ refl c.drive.ensures.started (λ yes. sym c.drive.ensures.held ∙ yes) (
    λ at. Moved-from_Acted _ _ _ at c.drive.ensures.acted
    )
    )

pub returns-in-Ended : goal.returns-in-Ended
returns-in-Ended c =
    let after = λ (happened : Event). Step c.args.self.now happened (record { answer = None; act = c.drive-in-Ended.result; is_counted = c.ended-is_counted.result }) c.drive-in-Ended.new.self in
    subst after (sym c.in-Ended.is) (
    Step-unstopped _ (event.Ended c.in-Ended.at c.in-Ended.verb c.in-Ended.outcome) _ _ refl c.drive-in-Ended.ensures.started (
    λ yes. sym (c.drive-in-Ended.ensures.held ∙ c.ended-is_counted.ensures.held) ∙ yes
    ) (
    Moved-ended c.args.self.now c.ended-is_counted.new.self c.drive-in-Ended.new.self.phases c.in-Ended.at c.in-Ended.verb c.in-Ended.outcome c.drive-in-Ended.result c.ended-is_counted.ensures.here c.ended-is_counted.ensures.others c.drive-in-Ended.ensures.acted
    )
    )
