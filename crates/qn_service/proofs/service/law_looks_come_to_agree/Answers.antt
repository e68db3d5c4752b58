use Rattle.qn_service.proofs.FollowingLooks.{looks_come_to_agree}
use Rattle.qn_service.proofs.JointClocks.{ClockLaws}
use Rattle.qn_service.proofs.service.law_looks_come_to_agree.Goals as goal

pub returns : goal.returns
returns c = λ s t. looks_come_to_agree s t (c.law_worlds.ensures s t) (c.law_each_is_one_event.ensures.one s t) c.law_read_back.ensures.header laws
  where
    laws : ClockLaws
    laws = record { timed = c.law_any_runs_are_timed.ensures; slow = c.law_clocks.ensures.slow; fast = c.law_clocks.ensures.fast }
