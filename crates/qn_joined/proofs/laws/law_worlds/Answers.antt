use Rattle.qn_joined.proofs.Worlds.{every_joint_has_a_world}
use Rattle.qn_joined.proofs.laws.law_worlds.Goals as goal

pub returns : goal.returns
returns c = λ s t.
    every_joint_has_a_world s t (c.law_takes_alike.ensures s t) (c.law_node_logs.ensures s t)
    c.law_packets_read_back.ensures c.law_mails_read_back.ensures
