use Rattle.qn_arbitrating.proofs.ArbiterRuns.{works_deviceless, works_with}
use Rattle.qn_arbitrating.proofs.command.open_and_serve.Goals as goal

pub returns-in-None-clause-works : goal.returns-in-None-clause-works
returns-in-None-clause-works g c = λ input.
    works_deviceless c.args.words c.args.settings.now input _ _ _ _ c.in-None.is c.refuse.ensures.refuses

pub returns-in-Some-clause-works : goal.returns-in-Some-clause-works
returns-in-Some-clause-works g c = λ input.
    works_with c.args.words c.args.settings.now c.in-Some.device _ _ _ c.in-Some.is (c.listen_and_serve.ensures.works input)
