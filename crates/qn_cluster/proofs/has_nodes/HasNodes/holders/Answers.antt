use Rattle.std.proofs.Common.{◌≡◌, ◌≤◌, length, subst, sym}
use Rattle.qn_cluster.specs.Standing.{ClusterFor}
use Rattle.qn_model.specs.Steps.{holders}
use Rattle.qn_model.specs.World.{World}
use Rattle.qn_cluster.proofs.has_nodes.HasNodes.holders.Goals as goal

pub holders-requires : goal.holders-requires
holders-requires g c =
    let is = g.met.Self.HasNodes.is_lawful.cluster c.args.self.now c.requires.0 c.requires.1 in
    subst (λ n. length n.seats ≤ 32) (sym c.cluster.ensures) (subst (λ count. count ≤ 32) (sym is.count) is.valid.few_nodes)

pub returns : goal.returns
returns g c = λ d is.
    subst (λ n. (d : World) → ClusterFor n d.moments → c.holders.result ≡ holders n.settings d) c.cluster.ensures c.holders.ensures
    (g.Self.HasNodes.kind.nodes_of d) (g.met.Self.HasNodes.is_lawful.cluster c.args.self.now d is)
