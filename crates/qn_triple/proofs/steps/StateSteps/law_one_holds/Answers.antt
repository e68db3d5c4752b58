use Rattle.qn_triple.proofs.steps.StateSteps.law_one_holds.Goals as goal

pub returns : goal.returns
returns c = c.law_triple_no_two_holders.ensures.reported
