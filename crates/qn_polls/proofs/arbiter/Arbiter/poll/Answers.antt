use Rattle.qn_polls.proofs.Remembering.{remembers}
use Rattle.qn_polls.proofs.arbiter.Arbiter.poll.Goals as goal

pub returns-clause-stands : goal.returns-clause-stands
returns-clause-stands c = λ memory h.
    remembers c.args.self.now c.remember.new.self memory c.args.tick c.args.poll.now c.would_agree-agrees.result h c.requires
    (c.would_agree-agrees.ensures memory h) c.remember.ensures
