use Rattle.qn_service.proofs.Between.{moments_are_of_joints}
use Rattle.qn_service.proofs.owners.law_moments_are_of_joints.Goals as goal

pub returns : goal.returns
returns c = λ s t. moments_are_of_joints s t (c.law_each_is_one_event.ensures.one s t)
