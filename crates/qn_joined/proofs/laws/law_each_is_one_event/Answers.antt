use Rattle.qn_joined.proofs.Worlds.{each_is_one_event, first_is_world}
use Rattle.qn_joined.proofs.laws.law_each_is_one_event.Goals as goal

pub returns-clause-first : goal.returns-clause-first
returns-clause-first c = first_is_world

pub returns-clause-one : goal.returns-clause-one
returns-clause-one c = λ s t.
    each_is_one_event s t (c.law_takes_alike.ensures s t) (c.law_node_logs.ensures s t)
    c.law_packets_read_back.ensures c.law_mails_read_back.ensures
