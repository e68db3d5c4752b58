use Rattle.qn_model.specs.Log.{timing}
use Rattle.qn_model.specs.Wanted.{mail_tick}
use Rattle.qn_watch.proofs.mailbox.Watch.issued.Goals as goal

pub returns : goal.returns
unfolding timing mail_tick
returns c = λ log line stands plain at asks. record { has_times = cc; last_asked = cc }
