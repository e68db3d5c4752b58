use Rattle.qn_safety.specs.Earlier.{before_then}
use Rattle.qn_progress.specs.Hearing.{HasHeld}
use Rattle.qn_progress.proofs.Below.{Below, Boots}
use Rattle.qn_progress.proofs.Hearing.{some_member}
use Rattle.qn_progress.proofs.Keeping.{by_member, holder_holds}
use Rattle.qn_progress.proofs.Over.{since_before}
use Rattle.qn_progress.proofs.laws.law_some_node_holds.Goals as goal

pub returns : goal.returns
returns c = λ s t pace rank post present old mid new timed quiet taken keeps. by_member s rank old mid new (λ other held.
    let more : HasHeld s other old new = record { at = held.at; after = held.after; back = before_then held.back (since_before quiet.since); holds = held.holds } in
    holder_holds (keeps other held) more) (some_member present below boots timed quiet taken)
  where
    below : Below
    below = record { times = c.law_up_nodes.ensures.times; cleared = c.law_up_nodes.ensures.cleared; slow = c.law_clocks.ensures.slow }

    boots : Boots
    boots = record { named = c.law_boots.ensures.incarnation }
