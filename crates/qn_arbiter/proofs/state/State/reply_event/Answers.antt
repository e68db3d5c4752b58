use Rattle.std.proofs.Common.{◌≡◌, ◌∙◌, Some, ap, subst, sym}
use Rattle.std.specs.Option.{option_map}
use Rattle.qn_safety.specs.ArbiterSteps.{device_event, played, reply_event}
use Rattle.qn_safety.specs.Poller.{answer_taken}
use Rattle.qn_model.specs.World.{World, node_at}
use Rattle.qn_world.specs.Seen.{tick_now}
use Rattle.qn_world.specs.Standing.{WorldFor}
use Rattle.qn_arbiter.specs.Standing.{PollersFor}
use Rattle.qn_arbiter.specs.Whole.{Kept}
use Rattle.qn_arbiter.proofs.RuleTests.{tick_is}
use Rattle.qn_arbiter.proofs.state.State.reply_event.Goals as goal

pub returns : goal.returns
unfolding played
returns c = λ d is may.
    let s = c.args.self.now.world.settings in
    let reply = c.in_ok-reply.reply in
    let told = subst (λ (k : Kept). (d : World) → WorldFor k.world d → Some c.in_ok-tick.tick ≡ tick_now (node_at k.world.settings reply.to.0 d)) c.self.view_is
    c.in_ok-tick.ensures d.world is.world in
    let tick = tick_is (node_at s reply.to.0 d.world) c.in_ok-tick.tick told in
    let answer = c.answer-answer.ensures d.pollers (subst (λ (k : Kept). PollersFor k.pollers d.pollers) (sym c.self.view_is) is.pollers)
    ∙ ap (λ tick. answer_taken tick reply (d.pollers reply.to.0)) tick in
    ap Some (c.device_event.ensures ∙ ap (device_event reply.to) answer)
    ∙ ap (option_map (reply_event s d)) (c.in_ok-reply.ensures.exact d is)
