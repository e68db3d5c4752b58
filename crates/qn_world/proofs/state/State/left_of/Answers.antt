use Rattle.std.proofs.Common.{ap, length, subst, sym}
use Rattle.qn_cluster.specs.DiskStanding.{LeftFor}
use Rattle.qn_world.specs.Standing.{on_first}
use Rattle.qn_world.proofs.state.State.left_of.Goals as goal

pub returns : goal.returns
returns c = λ d is.
    c.count_of.ensures (length c.args.self.now.settings.nodes) (on_first d.left) (subst (λ items. LeftFor (length c.args.self.now.settings.nodes) items (on_first d.left)) (sym (ap (λ w. w.left) c.self.view_is)) is.lefts)
