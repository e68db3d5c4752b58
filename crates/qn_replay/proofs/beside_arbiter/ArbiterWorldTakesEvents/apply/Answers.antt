use Rattle.std.proofs.Common.{ap}
use Rattle.qn_arbiter.specs.TraceLines.{arbiter_trace_line}
use Rattle.qn_arbiter.specs.Standing.{ArbiterFor}
use Rattle.qn_safety.specs.ArbiterRules.{refusal_beside}
use Rattle.qn_model.specs.Settings.{ids}
use Rattle.qn_replay.specs.BesideReplay.{beside_rules}
use Rattle.qn_replay.proofs.ArbiterTimes.{arbiter_steps_later}
use Rattle.qn_replay.proofs.Worlds.{on_ok, refused_by}
use Rattle.qn_replay.proofs.beside_arbiter.ArbiterWorldTakesEvents.apply.Goals as goal

pub returns-clause-report : goal.returns-clause-report
returns-clause-report c =
    on_ok c.apply_into.result (λ reported asked d stands number. ap (arbiter_trace_line (ids c.args.self.now.settings.nodes) number c.args.event.now) (reported d stands)) c.apply_into.ensures.report

pub returns-clause-time : goal.returns-clause-time
returns-clause-time c =
    let old = c.args.self.now in
    on_ok c.apply_into.result (λ stood d stands. arbiter_steps_later old c.apply_into.new.self old.settings old.timing old.lease c.args.event.now d c.requires.formed stands (stood d stands)) c.apply_into.ensures.stands

pub returns-clause-refused : goal.returns-clause-refused
returns-clause-refused c =
    let old = c.args.self.now in
    refused_by c.apply_into.result (ArbiterFor old) (λ d. refusal_beside old.settings old.timing c.args.event.now d) c.apply_into.ensures.refused

pub returns-clause-rules : goal.returns-clause-rules
returns-clause-rules c = ap beside_rules c.apply_into.ensures.lease
