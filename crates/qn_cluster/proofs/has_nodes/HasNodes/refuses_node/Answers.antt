use Rattle.std.proofs.Common.{◌≡◌, ◌≤◌, ◌∙◌, true, ap, subst, sym}
use Rattle.qn_base.specs.declared.limits.TheConstants.{LATEST_TIME}
use Rattle.qn_cluster.specs.Standing.{ClusterFor, IsStanding}
use Rattle.qn_model.specs.Rules.{is_well_formed, refusal}
use Rattle.qn_model.specs.Timing.{is_safe}
use Rattle.qn_cluster.proofs.has_nodes.HasNodes.refuses_node.Goals as goal

pub refusal-requires : goal.refusal-requires
refusal-requires g c =
    let kind = g.Self.HasNodes.kind in
    let lawful = g.met.Self.HasNodes.is_lawful in
    let d = c.requires.standing.0 in
    let nodes = sym c.cluster.ensures in
    record {
      formed = subst (λ n. is_well_formed n.settings c.args.event.now ≡ true) nodes c.requires.formed;
      standing = subst IsStanding nodes ((kind.nodes_of d).moments, lawful.cluster c.args.self.now d c.requires.standing.1);
      safe = subst (λ t. is_safe t ≡ true) (sym c.timing.ensures) (lawful.safe c.args.self.now d c.requires.standing.1);
      early = subst (λ n. n.time ≤ LATEST_TIME) nodes c.requires.early;
      nodes = c.requires.nodes;
    }

pub returns : goal.returns
returns g c = λ d is.
    let kind = g.Self.HasNodes.kind in
    let one = kind.nodes_of d in
    c.refusal.ensures one (subst (λ n. ClusterFor n one.moments) (sym c.cluster.ensures) (g.met.Self.HasNodes.is_lawful.cluster c.args.self.now d is))
    ∙ (ap (λ n. refusal n.settings c.timing.result.now c.args.event.now one) c.cluster.ensures
    ∙ ap (λ t. refusal (kind.nodes c.args.self.now).settings t c.args.event.now one) c.timing.ensures)
