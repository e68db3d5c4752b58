use Rattle.qn_model.specs.Moments.{Itself}
use Rattle.qn_progress.proofs.Below.{Below, Boots}
use Rattle.qn_progress.proofs.Hearing.{is_heard, some_member}
use Rattle.qn_progress.proofs.laws.law_members_are_heard.Goals as goal

pub returns-clause-each : goal.returns-clause-each
returns-clause-each c = λ s t pace rank post present other old new timed quiet. is_heard present other below boots timed Itself quiet
  where
    below : Below
    below = record { times = c.law_up_nodes.ensures.times; cleared = c.law_up_nodes.ensures.cleared; slow = c.law_clocks.ensures.slow }

    boots : Boots
    boots = record { named = c.law_boots.ensures.incarnation }

pub returns-clause-some : goal.returns-clause-some
returns-clause-some c = λ s t pace rank post present old mid new timed quiet taken. some_member present below boots timed quiet taken
  where
    below : Below
    below = record { times = c.law_up_nodes.ensures.times; cleared = c.law_up_nodes.ensures.cleared; slow = c.law_clocks.ensures.slow }

    boots : Boots
    boots = record { named = c.law_boots.ensures.incarnation }
