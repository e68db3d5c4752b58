use Rattle.std.proofs.Common.{ap, ◌∙◌, sym}
use Rattle.qn_cluster.specs.Seen.{answer_shown, why_shown}
use Rattle.qn_cluster.proofs.cluster.Cluster.why_of.Goals as goal

pub returns-in-Some : goal.returns-in-Some
returns-in-Some c = λ d is counts.
    c.why.ensures d.moments is (counts ∙ ap (λ who. answer_shown c.args.self.now.settings who d.moments) c.in-Some.is)
    ∙ ap (λ who. why_shown c.args.self.now.settings who d.moments) (sym c.in-Some.is)
