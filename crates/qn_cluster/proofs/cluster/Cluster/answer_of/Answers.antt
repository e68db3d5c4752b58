use Rattle.std.proofs.Common.{ap, ◌∙◌, sym}
use Rattle.qn_cluster.specs.Seen.{answer_shown}
use Rattle.qn_cluster.proofs.cluster.Cluster.answer_of.Goals as goal

pub returns-in-Some : goal.returns-in-Some
returns-in-Some c = λ d is.
    c.answer.ensures d.moments is ∙ ap (λ who. answer_shown c.args.self.now.settings who d.moments) (sym c.in-Some.is)
