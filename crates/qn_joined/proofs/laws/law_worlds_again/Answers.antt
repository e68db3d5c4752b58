use Rattle.qn_joined.proofs.AnyImage.{every_joint_again}
use Rattle.qn_joined.proofs.laws.law_worlds_again.Goals as goal

pub returns : goal.returns
returns c = λ s t safe.
    every_joint_again s t safe (c.law_takes_alike.ensures s t) (c.law_node_logs.ensures s t)
    c.law_packets_read_back.ensures c.law_mails_read_back.ensures
