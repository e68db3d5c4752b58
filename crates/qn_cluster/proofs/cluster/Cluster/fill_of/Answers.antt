use Rattle.std.proofs.Common.{ap, ◌∙◌}
use Rattle.qn_cluster.proofs.Looks.{report_parts}
use Rattle.qn_cluster.proofs.cluster.Cluster.fill_of.Goals as goal

pub returns : goal.returns
returns c = λ d is.
    report_parts c.args.self.now.settings d c.self.inside.time c.args.touched c.args.into.now.outs c.holders-into.result c.answer_of-into.result c.why_of-into.result
    (ap (λ w. w.time) c.self.view_is ∙ is.times) (c.holders-into.ensures d is) (c.answer_of-into.ensures d is) (c.why_of-into.ensures d is (c.answer_of-into.ensures d is))
