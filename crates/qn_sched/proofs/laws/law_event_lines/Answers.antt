use Rattle.qn_sched.proofs.EventSpelling.{event_spelled}
use Rattle.qn_sched.proofs.RankSpelling.{length-ids, valid_ids}
use Rattle.qn_sched.proofs.laws.law_event_lines.Goals as goal

pub returns : goal.returns
returns c = λ s line event valid. event_spelled s (valid_ids s valid) (length-ids s.nodes) valid.few_nodes line event
