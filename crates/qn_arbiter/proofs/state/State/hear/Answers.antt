use Rattle.std.proofs.Common.{◌≡◌, ◌∙◌, ap, arith, length, sym}
use Rattle.std.proofs.lemmas.Result.{err_from_is_err_and}
use Rattle.qn_safety.specs.declared.arbiter_reports.Said.TheVariants.{Answered}
use Rattle.qn_arbiter.specs.Whole.{Kept}
use Rattle.qn_arbiter.proofs.Quiet.{HearsAt, hear_few, hear_made, hear_standing, hear_starved, hears_some}
use Rattle.qn_arbiter.proofs.state.State.hear.Goals as goal

pub send_reply-requires : goal.send_reply-requires
send_reply-requires c =
    record {
      few = hear_few c.args.self.now c.args.number c.in-Some.poll c.in-Some.reply c.requires.standing (λ d is. sym (c.answer.ensures d is) ∙ c.in-Some.is);
    }

pub returns-in_err-send_reply-in-Some-clause-err : goal.returns-in_err-send_reply-in-Some-clause-err
returns-in_err-send_reply-in-Some-clause-err c =
    let exit = err_from_is_err_and c.from_residual.result c.from_residual.ensures.1 in
    let e = c.in_err-send_reply-in-Some.ensures in
    rw (exit.1, exit.2)
    (hear_starved c.args.self.now c.send_reply.new.self c.args.number c.in-Some.poll c.in-Some.reply c.in_err-send_reply-in-Some.field-0.0 c.requires
    (λ d is. sym (c.answer.ensures d is) ∙ c.in-Some.is) e.err e.memory)

pub returns-in_ok-send_reply-in-Some-clause-ok : goal.returns-in_ok-send_reply-in-Some-clause-ok
returns-in_ok-send_reply-in-Some-clause-ok c =
    let k = c.args.self.now in
    let new = c.send_reply.new.self in
    let poll = c.in-Some.poll in
    let reply = c.in-Some.reply in
    let sent = c.in_ok-send_reply-in-Some.ensures.ok in
    let hears : HearsAt k c.args.number poll reply = λ d is. sym (c.answer.ensures d is) ∙ c.in-Some.is in
    let standing = hear_standing k new c.args.number poll reply c.requires.standing hears sent in
    let e = c.report_quiet.ensures in
    let counted = c.len-number.ensures in
    let number : c.len-number.result ≡ length c.self.inside.replies.items = omega arith in
    hear_made k new c.args.number poll reply c.report_quiet.new.into c.requires hears sent
    (record {
      sent = e.said ∙ ap (λ number. Answered number reply.agrees) (number ∙ ap (λ (k : Kept). length k.replies) c.self.view_is);
      outs = e.outs standing;
      exact = e.exact;
      one_holder = e.one_holder standing;
    })

pub returns-in-None-clause-ok : goal.returns-in-None-clause-ok
returns-in-None-clause-ok c = absurd (hears_some c.args.self.now c.args.number c.requires (λ d is. sym (c.answer.ensures d is) ∙ c.in-None.is))
