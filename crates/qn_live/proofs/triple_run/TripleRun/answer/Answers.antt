use Rattle.qn_base.specs.Plans.{left}
use Rattle.qn_live.proofs.triple_run.TripleRun.answer.Goals as goal

pub pass_over-requires : goal.pass_over-requires
pass_over-requires c =
    let a = c.requires.answered in
    record { standing = (left a.0 a.2, c.take-decoded.ensures.stands a.0 a.2 a.1 a.3 a.4) }
