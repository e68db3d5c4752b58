use Rattle.std.proofs.Common.{subst, sym}
use Rattle.qn_journal.specs.Hearing.{HearsCall}
use Rattle.qn_told.specs.Telling.{Told}
use Rattle.qn_journal.proofs.journal.JournalNotices.made.Goals as goal

pub returns-clause-call : goal.returns-clause-call
returns-clause-call g c =
    subst (λ (after : Told). HearsCall c.args.run.now c.args.decoded c.args.self.now.teller after c.args.asked c.args.given) (sym c.show.ensures) c.hear.ensures

pub returns-clause-hears : goal.returns-clause-hears
returns-clause-hears g c = (c.args.run.now, c.args.decoded, returns-clause-call g c)
