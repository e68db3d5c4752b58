use Rattle.qn_world.proofs.steps.StateSteps.law_one_holds.Goals as goal

pub returns : goal.returns
returns c = c.law_no_two_holders.ensures.reported
