use Rattle.std.proofs.Common.{◌<◌, ◌∙◌, ap, arith, sym}
use Rattle.std.specs.Prelude.{slice_get}
use Rattle.qn_safety.specs.declared.polls.Poll.{Poll}
use Rattle.qn_arbiter.specs.Whole.{Kept}
use Rattle.qn_arbiter.proofs.RuleTests.{if_some}
use Rattle.qn_arbiter.proofs.state.State.poll_at.Goals as goal

pub returns-clause-few : goal.returns-clause-few
returns-clause-few c = λ d is.
    if_some c.item_at.result (λ (poll : Poll). poll.from.0 < 32) (λ poll there.
    let below = is.senders c.args.number poll
    (ap (λ polls. slice_get polls c.args.number) (sym (c.as_slice.ensures.value ∙ (ap (λ (k : Kept). k.polls) c.self.view_is ∙ is.polls)))
    ∙ (sym c.item_at.ensures ∙ there)) in
    let most = is.world.cluster.valid.few_nodes in
    omega arith)
