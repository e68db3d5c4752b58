use Rattle.std.proofs.Common.{arith}
use Rattle.qn_live.proofs.Steps.{OperationLaw, passed_over}
use Rattle.qn_live.proofs.Turning.{stands_too}
use Rattle.qn_live.proofs.triple_run.TripleRun.pass_over.Goals as goal

pub images-init : goal.images-init
images-init c = record { stands = λ plan h. h; work = omega arith }

pub unread-requires : goal.unread-requires
unread-requires c =
    let here = c.images.invariant.stands c.requires.standing.0 c.requires.standing.1 in
    record { under_way = (here.one, here.runs) }

pub read-requires-clause-under_way : goal.read-requires-clause-under_way
read-requires-clause-under_way c =
    let here = c.images.invariant.stands c.requires.standing.0 c.requires.standing.1 in
    (here.one, here.runs)

pub read-requires-clause-valid : goal.read-requires-clause-valid
read-requires-clause-valid c =
    let here = c.images.invariant.stands c.requires.standing.0 c.requires.standing.1 in
    c.law_operation.ensures.valid _ here.one here.runs

pub read-requires-clause-rank : goal.read-requires-clause-rank
read-requires-clause-rank c =
    let here = c.images.invariant.stands c.requires.standing.0 c.requires.standing.1 in
    c.law_operation.ensures.fits _ here.one c.in-Some.op here.runs c.in-Some.ensures.operation

pub images-preserved : goal.images-preserved
images-preserved c =
    let law : OperationLaw = (record { asked = c.law_operation.ensures.asked; fits = c.law_operation.ensures.fits; none = c.law_operation.ensures.none; valid = c.law_operation.ensures.valid }) in
    let op = c.in-Some.op in
    record {
      stands = λ plan h.
          let here = c.images.invariant.stands plan h in
          stands_too (passed_over law _ plan here op c.in-Some.ensures.operation c.in-Some.ensures.reads c.in-Some.ensures.passed)
          (c.read.ensures.stands here.one here.runs (here.told op c.in-Some.ensures.operation c.in-Some.ensures.reads) tt);
      work = let before = c.images.invariant.work in let falls = c.read.ensures.work in omega (arith, before, falls);
    }

pub returns-in-None-clause-settled : goal.returns-in-None-clause-settled
returns-in-None-clause-settled c = λ plan h. record { stands = c.images.invariant.stands plan h; settled = c.in-None.ensures.none }

pub returns-in-None-clause-work : goal.returns-in-None-clause-work
returns-in-None-clause-work c = c.images.invariant.work
