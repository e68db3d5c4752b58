use Rattle.qn_progress.proofs.Below.{Below}
use Rattle.qn_progress.proofs.Over.{least_member, sole_member}
use Rattle.qn_progress.proofs.laws.law_chosen_member_holds.Goals as goal

pub returns-clause-heard : goal.returns-clause-heard
returns-clause-heard c = λ s t pace rank old mid new timed quiet taken. least_member below timed quiet.fast quiet.first quiet.since quiet.over quiet.heard taken.late taken.behind
  where
    below : Below
    below = record { times = c.law_up_nodes.ensures.times; cleared = c.law_up_nodes.ensures.cleared; slow = c.law_clocks.ensures.slow }

pub returns-clause-alone : goal.returns-clause-alone
returns-clause-alone c = λ s t pace rank old new timed fast since over alone late. sole_member below timed fast since alone over late
  where
    below : Below
    below = record { times = c.law_up_nodes.ensures.times; cleared = c.law_up_nodes.ensures.cleared; slow = c.law_clocks.ensures.slow }
