use Rattle.std.proofs.Common.{Ok, Err, Result, refl, sym, ap, ◌∙◌}
use Rattle.qn_model.specs.declared.reports.Refused.{Refused}
use Rattle.qn_playback.specs.WorldLaws.{refuses_event, refuses_fault, said_as}
use Rattle.qn_replay.specs.Playing.{place_at}
use Rattle.qn_replay.proofs.Playbacks.{refuses_if, takes_event}
use Rattle.qn_replay.proofs.playback.Playback.happen.Goals as goal

abbrev refused_by : Refused → Result (Unit {0}) Refused
refused_by why = Err why

pub returns-in-Err-clause-end : goal.returns-in-Err-clause-end
returns-in-Err-clause-end g c = λ world stands.
    let kind = g.W.TakesEvents.world in
    let old = c.args.self.now in
    let rules = kind.rules old.world in
    refuses_if rules old.traced (place_at kind old) c.args.line.now c.bad_line.result world
    (refuses_fault rules (place_at kind old) world c.args.line.now c.in-Err.fault c.bad_line.result refl
    (sym c.in-Err.ensures.said) c.bad_line.ensures)

pub returns-in-Err-applied-clause-end : goal.returns-in-Err-applied-clause-end
returns-in-Err-applied-clause-end g c = λ world stands.
    let kind = g.W.TakesEvents.world in
    let old = c.args.self.now in
    let rules = kind.rules old.world in
    let event = c.read.new.into in
    refuses_if rules old.traced (place_at kind old) c.args.line.now c.refusal.result world
    (refuses_event rules (place_at kind old) c.args.line.now event world c.in-Err-applied.refused c.refusal.result
    (said_as rules (place_at kind old) world c.args.line.now (Ok event) refl (sym c.in_default.ensures.said))
    (c.in-Err-applied.ensures.refused world stands)
    (λ none. c.apply-applied.ensures.memory (c.in-Err-applied.is ∙ ap refused_by none) world stands) c.refusal.ensures)

pub returns-clause-event : goal.returns-clause-event
returns-clause-event g c = λ world stands.
    let happened = c.in_default-applied.ensures in
    takes_event g.W.TakesEvents.world c.args.self.now c.apply-applied.new.self c.read.new.into c.apply-applied.new.into c.args.line.now world c.requires.going c.requires.few
    (sym c.in_default.ensures.said) (happened.allowed world stands) (happened.stands world stands) (λ kept. happened.report kept world stands) happened.steps (happened.time world stands)
    c.apply-applied.ensures.settings c.apply-applied.ensures.timing
