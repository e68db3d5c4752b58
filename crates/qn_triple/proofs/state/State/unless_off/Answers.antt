use Rattle.std.proofs.Common.{◌≡◌, ℕ, true, ap, subst}
use Rattle.std.specs.Prelude.{Option}
use Rattle.qn_cluster.specs.Standing.{ClusterFor}
use Rattle.qn_model.specs.Rules.{is_on, unless_running}
use Rattle.qn_model.specs.World.{World}
use Rattle.qn_safety.specs.TripleWorld.{nodes_of}
use Rattle.qn_triple.specs.Whole.{cluster_of}
use Rattle.qn_triple.proofs.state.State.unless_off.Goals as goal

pub returns : goal.returns
returns c = λ d theirs is same.
    subst (λ n. (d : World) (theirs : Option ℕ) → ClusterFor n d.moments → (is_on n.settings c.args.i.0 d ≡ true → c.args.other ≡ theirs)
    → c.unless_running.result ≡ unless_running n.settings c.args.i.0 d theirs)
    (ap cluster_of c.self.view_is) c.unless_running.ensures (nodes_of d) theirs is.cluster same
