use Rattle.std.proofs.Common.{◌∙◌, ap, subst}
use Rattle.qn_polls.specs.Arbiter.{ArbiterFor}
use Rattle.qn_safety.specs.Arbiter.{with_poll}
use Rattle.qn_model.specs.Moments.{tick_of}
use Rattle.qn_arbiter.proofs.running.RunningArbiter.hear.Goals as goal

pub returns : goal.returns
returns c = λ arbiter h.
    record {
      clock = h.clock;
      memory =
          subst (λ tick. ArbiterFor c.poll.new.self (with_poll tick c.args.poll.now arbiter.memory)) (c.tick-tick.ensures ∙ ap tick_of h.clock)
          (c.poll.ensures.stands arbiter.memory h.memory);
    }
