use Rattle.std.proofs.Common.{◌<◌, ◌∙◌, ap, length, sym}
use Rattle.std.specs.Prelude.{slice_get}
use Rattle.qn_safety.specs.declared.polls.Reply.{Reply}
use Rattle.qn_arbiter.specs.Whole.{Kept}
use Rattle.qn_arbiter.proofs.RuleTests.{if_some}
use Rattle.qn_arbiter.proofs.state.State.reply_at.Goals as goal

pub returns-clause-configured : goal.returns-clause-configured
returns-clause-configured c = λ d is.
    if_some c.item_at.result (λ (reply : Reply). reply.to.0 < length c.args.self.now.world.settings.nodes) (λ reply there.
    is.receivers c.args.number reply
    (ap (λ replies. slice_get replies c.args.number) (sym (c.as_slice.ensures.value ∙ (ap (λ (k : Kept). k.replies) c.self.view_is ∙ is.replies)))
    ∙ (sym c.item_at.ensures ∙ there)))
