use Rattle.qn_service.proofs.KnownLooks.{followers_keep}
use Rattle.qn_service.proofs.JointClocks.{ClockLaws}
use Rattle.qn_service.proofs.hellos.law_followers_keep.Goals as goal

pub returns : goal.returns
returns c = λ s t. followers_keep s t (c.law_worlds.ensures s t) (c.law_each_is_one_event.ensures.one s t) c.law_read_back.ensures.header laws (c.law_looks_know_views.ensures s t)
  where
    laws : ClockLaws
    laws = record { timed = c.law_any_runs_are_timed.ensures; slow = c.law_clocks.ensures.slow; fast = c.law_clocks.ensures.fast }
