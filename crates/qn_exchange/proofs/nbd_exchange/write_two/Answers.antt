use Rattle.qn_exchange.proofs.Answering.{at_err, front_after, front_of_two}
use Rattle.qn_exchange.proofs.nbd_exchange.write_two.Goals as goal

pub returns-in_err-write_whole-clause-front : goal.returns-in_err-write_whole-clause-front
returns-in_err-write_whole-clause-front g c =
    at_err _ c.from_residual.result (front_of_two _ _ c.args.first.now c.args.second.now c.in_err-write_whole.ensures.front)

pub returns-clause-front : goal.returns-clause-front
returns-clause-front g c =
    front_after _ _ _ c.args.first.now c.args.second.now c.write_whole-2.result c.in_ok-write_whole.ensures.whole c.write_whole-2.ensures.front
