use Rattle.std.proofs.Common.{ap, length, subst, sym}
use Rattle.qn_cluster.specs.DiskStanding.{LeftFor}
use Rattle.qn_model.specs.World.{put}
use Rattle.qn_safety.specs.TripleWorld.{none_left}
use Rattle.qn_triple.specs.Whole.{Whole}
use Rattle.qn_triple.proofs.DiskSteps.{left_turned}
use Rattle.qn_triple.proofs.state.State.drop_left.Goals as goal

pub returns : goal.returns
returns c =
    left_turned c.args.self.now _ c.drop_of.new.self (λ left. put left c.args.i.0 none_left) (ap (λ (w : Whole). record w { left = c.drop_of.new.self }) c.self.view_is)
    (λ d is lefts. c.drop_of.ensures (length c.args.self.now.settings.nodes) d.left
    (subst (λ items. LeftFor (length c.args.self.now.settings.nodes) items d.left) (sym (ap (λ w. w.left) c.self.view_is)) lefts))
