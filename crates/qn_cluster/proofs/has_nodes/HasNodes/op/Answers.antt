use Rattle.std.proofs.Common.{◌≡◌, ◌<◌, List, true, length, subst, sym}
use Rattle.qn_cluster.specs.Standing.{ClusterFor, IsOpWithin}
use Rattle.qn_model.specs.Log.{op_out}
use Rattle.qn_model.specs.Moments.{Moment, node}
use Rattle.qn_cluster.proofs.has_nodes.HasNodes.op.Goals as goal

pub op-requires : goal.op-requires
op-requires g c = subst (λ n. c.args.i.0 < length n.seats) (sym c.cluster.ensures) c.requires

pub returns-clause-exact : goal.returns-clause-exact
returns-clause-exact g c d is on =
    subst (λ n. (moments : List Moment) → ClusterFor n moments → (node n.settings c.args.i.0 moments).on ≡ true → c.op.result ≡ op_out (node n.settings c.args.i.0 moments).log)
    c.cluster.ensures c.op.ensures.exact (g.Self.HasNodes.kind.nodes_of d).moments (g.met.Self.HasNodes.is_lawful.cluster c.args.self.now d is) on

pub returns-clause-within : goal.returns-clause-within
returns-clause-within g c d is =
    subst (λ n. (moments : List Moment) → ClusterFor n moments → IsOpWithin (length n.settings.nodes) c.op.result)
    c.cluster.ensures c.op.ensures.within (g.Self.HasNodes.kind.nodes_of d).moments (g.met.Self.HasNodes.is_lawful.cluster c.args.self.now d is)
