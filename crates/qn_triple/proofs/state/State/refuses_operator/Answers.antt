use Rattle.std.proofs.Common.{◌≡◌, ◌∙◌, ◌||◌, not, ap, subst}
use Rattle.qn_cluster.specs.Standing.{ClusterFor}
use Rattle.qn_model.specs.Rules.{is_on, unless}
use Rattle.qn_model.specs.Sectors.{is_deadly}
use Rattle.qn_model.specs.World.{World}
use Rattle.qn_safety.specs.TripleWorld.{nodes_of}
use Rattle.qn_triple.specs.Whole.{cluster_of}
use Rattle.qn_triple.proofs.state.State.refuses_operator.Goals as goal

pub returns : goal.returns
returns c = λ d is.
    let runs = subst (λ n. (d : World) → ClusterFor n d.moments → c.is_on.result ≡ is_on n.settings c.args.i.0 d) (ap cluster_of c.self.view_is) c.is_on.ensures.exact (nodes_of d) is.cluster in
    c.unless.ensures
    ∙ ap (λ b. unless b 10) (c.may_operate.ensures
    ∙ (ap (λ there. is_deadly c.args.message || not (is_deadly there) || not c.is_on.result) (c.mailbox-there.ensures d is)
    ∙ ap (λ on. is_deadly c.args.message || not (is_deadly (d.mailboxes c.args.i.0 c.args.image)) || not on) runs))
