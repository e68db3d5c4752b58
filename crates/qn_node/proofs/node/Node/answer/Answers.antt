use Rattle.std.proofs.Common.{◌≡◌, sym, subst}
use Rattle.qn_model.specs.NodeVotes.{answer_with_tie, votes}
use Rattle.qn_node.specs.Tally.{TallyFor}
use Rattle.qn_node.proofs.node.Node.answer.Goals as goal

pub returns : goal.returns
returns c = λ s me log h.
    let counts = subst (λ x. TallyFor c.args.self.now.tally x (votes log)) (sym h.has_settings) h.counts in
    subst (λ x. c.answer.result ≡ answer_with_tie x log c.args.tick) h.has_settings (c.answer.ensures (votes log) counts)
