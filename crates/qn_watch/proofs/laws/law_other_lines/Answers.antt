use Rattle.qn_model.specs.Log.{timing}
use Rattle.qn_model.specs.Wanted.{mail_tick}
use Rattle.qn_watch.proofs.laws.law_other_lines.Goals as goal

pub returns : goal.returns
unfolding timing mail_tick
returns c = λ watch log line stands plain quiet. record { has_times = cc; last_asked = cc }
