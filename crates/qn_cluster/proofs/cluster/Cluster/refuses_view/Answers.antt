use Rattle.std.proofs.Common.{◌∙◌, ap}
use Rattle.qn_base.specs.Members.{is_member}
use Rattle.qn_model.specs.Rules.{unless}
use Rattle.qn_cluster.proofs.cluster.Cluster.refuses_view.Goals as goal

pub returns : goal.returns
returns c d is =
    c.unless_running.ensures d (unless (is_member c.args.view.members c.args.i.0) 7) is
    (λ on. c.unless.ensures ∙ ap (λ member. unless member 7) c.has.ensures)
