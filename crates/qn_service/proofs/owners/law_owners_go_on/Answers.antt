use Rattle.qn_service.proofs.GoingOn.{owners_go_on}
use Rattle.qn_service.proofs.owners.law_owners_go_on.Goals as goal

pub returns : goal.returns
returns c = λ s t.
    owners_go_on s t (c.law_worlds.ensures s t) (c.law_moments_are_of_joints.ensures s t) (c.law_owned.ensures s t) c.law_holder_holds.ensures c.law_keeper_is_calm.ensures (c.law_holders_run.ensures s t)
