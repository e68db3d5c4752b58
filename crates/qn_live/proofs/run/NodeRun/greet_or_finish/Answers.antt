use Rattle.std.proofs.Common.{Option, [], sym, ap, ◌∙◌}
use Rattle.std.specs.Option.{option_map_or}
use Rattle.qn_live.specs.declared.place.Greeting.{Greeting}
use Rattle.qn_live.specs.Greetings.{to_send}
use Rattle.qn_live.specs.Machine.{saying}
use Rattle.qn_live.proofs.Joining.{said_all, stands_too}
use Rattle.qn_live.proofs.run.NodeRun.greet_or_finish.Goals as goal

pub returns-in-Some-clause-runs : goal.returns-in-Some-clause-runs
returns-in-Some-clause-runs c = λ log stands.
    let run = c.args.self.now in
    stands_too
    (ap (λ (found : Option Greeting). saying run log (option_map_or (λ first. to_send run.settings run.me.0 run.member first 0) found []))
    (sym c.first_greeting.ensures ∙ c.in-Some.is))
    (c.greet.ensures.runs log stands)

pub returns-in-None-clause-runs : goal.returns-in-None-clause-runs
returns-in-None-clause-runs c = λ log stands.
    let run = c.args.self.now in
    stands_too
    (ap (λ (found : Option Greeting). saying run log (option_map_or (λ first. to_send run.settings run.me.0 run.member first 0) found []))
    (sym c.first_greeting.ensures ∙ c.in-None.is)
    ∙ said_all run log)
    (c.finish.ensures.runs log stands)
