use Rattle.qn_joined.proofs.Worlds.{worlds_grow}
use Rattle.qn_joined.proofs.laws.law_worlds_grow.Goals as goal

pub returns : goal.returns
returns c = λ s t.
    worlds_grow s t (c.law_takes_alike.ensures s t) (c.law_node_logs.ensures s t)
    c.law_packets_read_back.ensures c.law_mails_read_back.ensures
