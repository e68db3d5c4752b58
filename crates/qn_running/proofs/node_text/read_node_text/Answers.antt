use Rattle.std.proofs.Common.{ℕ, List, subst}
use Rattle.qn_running.specs.Polls.{PollsBy}
use Rattle.qn_running.proofs.PolledTexts.{reads_node}
use Rattle.qn_running.proofs.node_text.read_node_text.Goals as goal

pub returns-in-Ok-polls_of-clause-good : goal.returns-in-Ok-polls_of-clause-good
returns-in-Ok-polls_of-clause-good g c =
    reads_node c.in-Ok.ensures.good
    (subst (λ (text : List ℕ). PollsBy text c.in-Ok.good.settings c.in-Ok-polls_of.polls) c.as_slice.ensures c.in-Ok-polls_of.ensures)
