use Rattle.std.proofs.Common.{◌≡◌, [], List, ℕ, Option, refl, sym, subst, arith}
use Rattle.std.specs.Io.KnownBytes.{IsAtEnd, prepend_known}
use Rattle.qn_base.specs.Rising.{HasRisen-within}
use Rattle.qn_playback.specs.Faults.{end_of}
use Rattle.qn_playback.specs.Heads.{settings_part}
use Rattle.qn_playback.specs.Parts.{Gives, Refuses}
use Rattle.qn_io.specs.Outside.{HasRisen}
use Rattle.qn_audit.specs.declared.audit_end.AuditEnd.{AuditEnd}
use Rattle.qn_audit.specs.Inputs.{AuditedRun, JudgesInput, input_at, plan_of}
use Rattle.qn_audit.proofs.HeadSteps.{judges_head, judges_log, judges_unknown, leads_to_log, nothing_waits, rank_found}
use Rattle.qn_audit.proofs.Steps.{stops_then, stops_wider}
use Rattle.qn_audit.proofs.audit_input.audit.Goals as goal

pub returns-in-Err-clause-judges : goal.returns-in-Err-clause-judges
returns-in-Err-clause-judges g c =
    let run : AuditedRun = record { images = c.args.images; id = c.args.id; clean = c.args.clean; leave = c.args.leave_at; polls = c.args.polls; turns = c.args.turns } in
    let before = input_at g.I.Source.left g.I.Source.faults c.args.input.now in
    let after = input_at g.I.Source.left g.I.Source.faults c.read_settings.new.input in
    let waiting = c.read_settings.new.pieces in
    let at_end = (waiting ≡ []) × IsAtEnd after.left in
    let failed = (waiting ≡ []) × HasRisen before.faults after.faults in
    subst (λ (end : AuditEnd). JudgesInput run before after end) (sym c.from.ensures)
    (judges_head run before after waiting c.in-Err.fault c.read_settings.ensures.within
    (subst (λ (old : Option (List ℕ)). Refuses settings_part old (prepend_known waiting after.left) at_end failed (end_of c.in-Err.fault))
    (nothing_waits c.new-pieces.result _ c.new-pieces.ensures) c.in-Err.ensures.fault))

pub returns-in_default-clause-judges : goal.returns-in_default-clause-judges
returns-in_default-clause-judges g c =
    let run : AuditedRun = record { images = c.args.images; id = c.args.id; clean = c.args.clean; leave = c.args.leave_at; polls = c.args.polls; turns = c.args.turns } in
    let before = input_at g.I.Source.left g.I.Source.faults c.args.input.now in
    let after = input_at g.I.Source.left g.I.Source.faults c.read_settings.new.input in
    judges_unknown run c.in-Ok.head c.in-Ok.ensures.settings before after c.read_settings.new.pieces
    (nothing_waits c.new-pieces.result _ c.new-pieces.ensures) refl c.read_settings.ensures.within (rank_found run c.in-Ok.head.settings _ _ c.from-number.ensures c.in_default.ensures.unnamed)

pub returns-clause-judges : goal.returns-clause-judges
returns-clause-judges g c =
    let run : AuditedRun = record { images = c.args.images; id = c.args.id; clean = c.args.clean; leave = c.args.leave_at; polls = c.args.polls; turns = c.args.turns } in
    let before = input_at g.I.Source.left g.I.Source.faults c.args.input.now in
    let after = input_at g.I.Source.left g.I.Source.faults c.audit_log.new.input in
    let middle = prepend_known c.read_settings.new.pieces (g.I.Source.left c.read_settings.new.input) in
    let given : Gives settings_part c.in-Ok.head before.left middle =
    subst (λ (old : Option (List ℕ)). Gives settings_part c.in-Ok.head old middle) (nothing_waits c.new-pieces.result _ c.new-pieces.ensures) c.in-Ok.ensures.settings in
    judges_log run before after c.audit_log.new.pieces c.audit_log.ensures.within
    (stops_then (leads_to_log run c.in-Ok.head given c.in-Some.me.0 (rank_found run c.in-Ok.head.settings _ _ c.from-number.ensures c.in-Some.ensures.named))
    (stops_wider (λ fails. (fails.0, HasRisen-within _ _ _ _ c.in-Ok.ensures.never_falls c.audit_log.ensures.never_falls (omega arith) fails.1))
    (c.audit_log.ensures.ends (plan_of run c.in-Ok.head.settings c.in-Some.me.0) c.new-auditor.ensures)))
