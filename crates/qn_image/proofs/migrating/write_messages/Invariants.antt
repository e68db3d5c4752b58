use Rattle.std.proofs.Common.{Ok, take}
use Rattle.qn_base.specs.Plans.{Did}
use Rattle.qn_image.specs.Migration.{mail_writes}
use Rattle.qn_image.specs.Writes.{writes_plan}
use Rattle.qn_image.proofs.migrating.write_messages.Given as goal

abbrev pub invariant-loop-rank : goal.invariant-loop-rank
invariant-loop-rank g l =
    Did (g.E.Env.faults l.fn.env) (g.E.Env.faults l.env) (g.E.Env.calls l.fn.env) (g.E.Env.calls l.env) (writes_plan (mail_writes 0 (take l.rank l.messages))) (Ok tt)
