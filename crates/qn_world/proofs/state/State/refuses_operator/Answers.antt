use Rattle.std.proofs.Common.{◌≡◌, ◌∙◌, ap, subst}
use Rattle.qn_cluster.specs.Standing.{ClusterFor}
use Rattle.qn_model.specs.Rules.{is_on, unless}
use Rattle.qn_model.specs.World.{World}
use Rattle.qn_world.specs.Whole.{cluster_of}
use Rattle.qn_world.proofs.RuleSteps.{operator_rule}
use Rattle.qn_world.proofs.state.State.refuses_operator.Goals as goal

pub returns : goal.returns
returns c d is =
    let runs = subst (λ n. (d : World) → ClusterFor n d.moments → c.is_on.result ≡ is_on n.settings c.args.i.0 d) (ap cluster_of c.self.view_is) c.is_on.ensures.exact d is.cluster in
    let may = operator_rule c.args.self.now d c.args.i.0 c.args.message c.mailbox.result c.is_on.result (c.mailbox.ensures d is) runs in
    c.unless.ensures ∙ ap (λ b. unless b 10) (c.may_operate.ensures ∙ may)
