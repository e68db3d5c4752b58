use Rattle.qn_progress.proofs.Below.{Below}
use Rattle.qn_progress.proofs.Over.{least_member_in_time}
use Rattle.qn_progress.proofs.laws.law_take_over.Goals as goal

pub returns-clause-timed : goal.returns-clause-timed
returns-clause-timed c = λ s t pace rank old mid new timed quiet taken.
    least_member_in_time below timed quiet.fast quiet.first quiet.since quiet.over quiet.heard taken.late taken.behind
  where
    below : Below
    below = record { times = c.law_up_nodes.ensures.times; cleared = c.law_up_nodes.ensures.cleared; slow = c.law_clocks.ensures.slow }

pub returns-clause-world : goal.returns-clause-world
returns-clause-world c = λ s t pace rank events old mid allowed quiet taken.
    least_member_in_time below (c.law_runs_are_timed.ensures s t events allowed) quiet.fast quiet.first quiet.since quiet.over quiet.heard taken.late taken.behind
  where
    below : Below
    below = record { times = c.law_up_nodes.ensures.times; cleared = c.law_up_nodes.ensures.cleared; slow = c.law_clocks.ensures.slow }

pub returns-clause-three_images : goal.returns-clause-three_images
returns-clause-three_images c = λ s t pace rank events old mid allowed quiet taken.
    least_member_in_time below (c.law_triple_runs_are_timed.ensures s t events allowed) quiet.fast quiet.first quiet.since quiet.over quiet.heard taken.late taken.behind
  where
    below : Below
    below = record { times = c.law_up_nodes.ensures.times; cleared = c.law_up_nodes.ensures.cleared; slow = c.law_clocks.ensures.slow }

pub returns-clause-beside : goal.returns-clause-beside
returns-clause-beside c = λ s t pace rank times events old mid allowed quiet taken.
    least_member_in_time below (c.law_runs_beside_are_timed.ensures s t times events allowed) quiet.fast quiet.first quiet.since quiet.over quiet.heard taken.late taken.behind
  where
    below : Below
    below = record { times = c.law_up_nodes.ensures.times; cleared = c.law_up_nodes.ensures.cleared; slow = c.law_clocks.ensures.slow }
