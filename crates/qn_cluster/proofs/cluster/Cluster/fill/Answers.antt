use Rattle.std.proofs.Common.{◌∙◌}
use Rattle.qn_cluster.proofs.Looks.{touched_configured, report_of_event}
use Rattle.qn_cluster.proofs.cluster.Cluster.fill.Goals as goal

pub fill_of-requires-clause-configured : goal.fill_of-requires-clause-configured
fill_of-requires-clause-configured c =
    touched_configured c.args.self.now.settings c.args.event.now c.touched.result c.requires.formed c.touched.ensures

pub returns : goal.returns
returns c = λ d is gives.
    c.fill_of.ensures d is ∙ report_of_event c.args.self.now.settings c.args.event.now d c.touched.result c.args.into.now.outs c.touched.ensures gives
