use Rattle.std.proofs.Common.{◌<◌, ◌∙◌, ap, length, subst, sym}
use Rattle.std.specs.Option.{option_map}
use Rattle.std.proofs.lemmas.Result.{err_from_is_err_and}
use Rattle.qn_polls.specs.Poller.{standing_of}
use Rattle.qn_safety.specs.declared.arbiter_reports.Said.TheVariants.{Polled}
use Rattle.qn_model.specs.declared.configuration.Settings.{Settings}
use Rattle.qn_arbiter.proofs.Quiet.{StandsAt, poll_made, poll_rank, poll_standing, poll_starved, poll_stands_so, polls_frame}
use Rattle.qn_arbiter.proofs.state.State.poll.Goals as goal

pub standing-requires : goal.standing-requires
standing-requires c = poll_rank c.args.self.now.world.settings c.args.i c.requires.formed

pub returns-in_err-number-in-Some-clause-err : goal.returns-in_err-number-in-Some-clause-err
returns-in_err-number-in-Some-clause-err c =
    let exit = err_from_is_err_and c.from_residual.result c.from_residual.ensures.1 in
    let e = c.in_err-number-in-Some.ensures in
    rw (exit.1, exit.2)
    (poll_starved c.args.self.now c.send_poll.new.self c.args.i (standing_of c.in-Some.at) c.in_err-number-in-Some.field-0.0 c.requires
    (λ d is. sym (c.standing.ensures d is) ∙ ap (option_map standing_of) c.in-Some.is) e.err e.memory)

pub report_quiet-requires : goal.report_quiet-requires
report_quiet-requires c =
    let sent = c.in_ok-number-in-Some.ensures.ok in
    subst (λ (s : Settings). c.args.i.0 < length s.nodes) (sym (polls_frame c.args.self.now c.send_poll.new.self c.args.i (standing_of c.in-Some.at) sent).settings)
    (poll_rank c.args.self.now.world.settings c.args.i c.requires.formed)

pub returns-in_ok-number-in-Some-clause-ok : goal.returns-in_ok-number-in-Some-clause-ok
returns-in_ok-number-in-Some-clause-ok c =
    let k = c.args.self.now in
    let new = c.send_poll.new.self in
    let at = standing_of c.in-Some.at in
    let sent = c.in_ok-number-in-Some.ensures.ok in
    let configured = poll_rank k.world.settings c.args.i c.requires.formed in
    let stands : StandsAt k c.args.i at = λ d is. sym (c.standing.ensures d is) ∙ ap (option_map standing_of) c.in-Some.is in
    let standing = poll_standing k new c.args.i at c.requires.standing configured sent stands in
    let e = c.report_quiet.ensures in
    poll_made k new c.args.i at c.report_quiet.new.into c.requires configured sent stands
    (record { sent = e.said ∙ ap Polled c.in_ok-number-in-Some.ensures.number; outs = e.outs standing; exact = e.exact; one_holder = e.one_holder standing })

pub returns-in-None-clause-ok : goal.returns-in-None-clause-ok
returns-in-None-clause-ok c =
    absurd (poll_stands_so c.args.self.now c.args.i c.requires (λ d is. sym (c.standing.ensures d is) ∙ ap (option_map standing_of) c.in-None.is))
