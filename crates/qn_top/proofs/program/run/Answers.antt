use Rattle.std.proofs.Common.{None, Some, refl, sym}
use Rattle.qn_commands.specs.Seen.{outside, source}
use Rattle.qn_top.proofs.Branches.{of_words}
use Rattle.qn_top.proofs.LastTexts.{refuses_words}
use Rattle.qn_top.proofs.program.run.Goals as goal

pub returns-in-None : goal.returns-in-None
returns-in-None g c =
    of_words _ None (sym c.in-None.ensures.command)
    (record {
      does = refuses_words (source g.I.Source.left g.I.Source.faults c.args.input.now) _ _ (outside g.E.Env.calls g.E.Env.faults c.args.env.now) _ c.refuse.ensures.sink_faults c.refuse.ensures.refuses;
      unread = λ no. refl;
      uncalled = λ no. refl;
      one_holder = tt;
    })

pub returns-in-Some : goal.returns-in-Some
returns-in-Some g c = of_words _ (Some c.in-Some.command) (sym c.in-Some.ensures.command) c.run_command.ensures
