use Rattle.std.proofs.Common.{ap, ◌∙◌}
use Rattle.qn_watch.specs.Watch.{feeds_by, leaves_by}
use Rattle.qn_watch.proofs.MailReads.{judged, verdict_on-feeds, verdict_on-leaves}
use Rattle.qn_watch.proofs.mailbox.Watch.read.Goals as goal

pub returns-in-Read-clause-exact : goal.returns-in-Read-clause-exact
returns-in-Read-clause-exact c = judged c.args.self.now c.args.tick c.args.seen c.in-Read.message c.judge.result c.in-Read.is c.judge.ensures

pub returns-in-Read-clause-feeds : goal.returns-in-Read-clause-feeds
returns-in-Read-clause-feeds c = λ log stands out.
    ap feeds_by (returns-in-Read-clause-exact c log stands out) ∙ verdict_on-feeds c.args.tick log c.args.seen

pub returns-in-Read-clause-leaves : goal.returns-in-Read-clause-leaves
returns-in-Read-clause-leaves c = λ log stands out.
    ap leaves_by (returns-in-Read-clause-exact c log stands out) ∙ verdict_on-leaves c.args.tick log c.args.seen
