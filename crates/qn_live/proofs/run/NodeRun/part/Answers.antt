use Rattle.std.proofs.Common.{ap, ◌∙◌}
use Rattle.qn_live.specs.Machine.{parting}
use Rattle.qn_live.specs.Greetings.{greeting_packet, to_each}
use Rattle.qn_live.specs.declared.place.Greeting.TheVariants as greeting
use Rattle.qn_live.proofs.Joining.{parted_all}
use Rattle.qn_live.proofs.run.NodeRun.part.Goals as goal

pub returns-in-Some-clause-runs : goal.returns-in-Some-clause-runs
returns-in-Some-clause-runs c = λ log stands.
    let run = c.args.self.now in
    record {
      log = log;
      stands = stands;
      more = (c.in-Some.ensures.within, c.in-Some.ensures.other);
      is_left =
          ap (λ ranks. parting run log (to_each (greeting_packet run.me.0 (greeting.Announce c.args.view)) ranks)) c.in-Some.ensures.same;
    }

pub returns-in-None-clause-runs : goal.returns-in-None-clause-runs
returns-in-None-clause-runs c = λ log stands.
    let run = c.args.self.now in
    record {
      log = log;
      stands = stands;
      more = tt;
      is_left =
          ap (λ ranks. parting run log (to_each (greeting_packet run.me.0 (greeting.Announce c.args.view)) ranks)) c.in-None.ensures.none
          ∙ parted_all run log;
    }
