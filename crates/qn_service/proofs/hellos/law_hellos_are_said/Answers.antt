use Rattle.qn_service.proofs.JointClocks.{ClockLaws}
use Rattle.qn_service.proofs.NearHellos.{hellos_are_said}
use Rattle.qn_service.proofs.hellos.law_hellos_are_said.Goals as goal

pub returns : goal.returns
returns c = λ s t. hellos_are_said s t (c.law_worlds.ensures s t) (c.law_each_is_one_event.ensures.one s t) c.law_read_back.ensures.header laws
  where
    laws : ClockLaws
    laws = record { timed = c.law_any_runs_are_timed.ensures; slow = c.law_clocks.ensures.slow; fast = c.law_clocks.ensures.fast }
