use Rattle.std.proofs.Common.{ℕ, [], ap, length, subst, sym}
use Rattle.qn_cluster.specs.DiskStanding.{LeftFor}
use Rattle.qn_model.specs.World.{put}
use Rattle.qn_world.specs.Standing.{on_first}
use Rattle.qn_world.specs.Whole.{Whole}
use Rattle.qn_world.proofs.DiskSteps.{dropped_first, left_turned}
use Rattle.qn_world.proofs.state.State.drop_left.Goals as goal

pub returns : goal.returns
returns c =
    left_turned c.args.self.now _ c.drop_of.new.self (λ d. put (on_first d.left) c.args.i.0 (λ (image : ℕ). [])) (λ d. put d.left c.args.i.0 [])
    (ap (λ (w : Whole). record w { left = c.drop_of.new.self }) c.self.view_is)
    (λ d lefts. c.drop_of.ensures (length c.args.self.now.settings.nodes) (on_first d.left) (subst (λ items. LeftFor (length c.args.self.now.settings.nodes) items (on_first d.left)) (sym (ap (λ w. w.left) c.self.view_is)) lefts))
    (λ d. dropped_first d.left c.args.i.0)
