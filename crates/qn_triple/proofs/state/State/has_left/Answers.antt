use Rattle.std.proofs.Common.{ap, length, subst, sym}
use Rattle.qn_cluster.specs.DiskStanding.{LeftFor}
use Rattle.qn_triple.proofs.state.State.has_left.Goals as goal

pub returns : goal.returns
returns c = λ d is.
    c.has.ensures (length c.args.self.now.settings.nodes) d.left (subst (λ items. LeftFor (length c.args.self.now.settings.nodes) items d.left) (sym (ap (λ w. w.left) c.self.view_is)) is.lefts)
