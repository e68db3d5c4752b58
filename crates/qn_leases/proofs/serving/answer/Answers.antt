-- The bytes that are sent are those of the reply of the plan.
use Rattle.std.proofs.Common.{◌≡◌, ℕ, List, is_ok, true, refl, ap, ◌∙◌}
use Rattle.qn_base.specs.declared.calls.Call.TheVariants as call
use Rattle.qn_base.specs.PlanSteps.{did_call}
use Rattle.qn_polls.specs.Polls.{reply_bytes}
use Rattle.qn_leases.specs.Serving.{answer_plan, reply_at}
use Rattle.qn_leases.proofs.serving.answer.Goals as goal

pub returns-clause-says : goal.returns-clause-says
returns-clause-says g c = c.poll-agrees.ensures.says

pub returns-clause-sends : goal.returns-clause-sends
unfolding answer_plan
returns-clause-sends g c = λ memory stands.
    let reply = c.reply_to.ensures memory c.args.tick (c.poll-agrees.ensures.says memory stands) in
    let spelled : c.as_slice.result.now ≡ reply_bytes (reply_at c.args.tick c.args.poll.now memory) =
    c.as_slice.ensures.value ∙ c.put_reply.ensures.spelling ∙ ap reply_bytes reply in
    let sent = call.Send c.args.poll.now.from c.as_slice.result.now (is_ok c.send.result) in
    (c.poll-agrees.ensures.stands memory stands, did_call _ sent _ _ c.send.ensures.made (ap (λ (bytes : List ℕ). call.Send c.args.poll.now.from bytes true) spelled) (refl, refl))
