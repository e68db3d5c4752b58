use Rattle.std.proofs.Common.{◌≡◌, ap, subst, sym, true}
use Rattle.qn_cluster.specs.Standing.{ClusterFor, IsStanding}
use Rattle.qn_model.specs.Rules.{is_well_formed}
use Rattle.qn_model.specs.Steps.{outs_after, report}
use Rattle.qn_model.specs.World.{World}
use Rattle.qn_world.specs.Whole.{cluster_of}
use Rattle.qn_world.proofs.steps.StateSteps.fill.Goals as goal

pub fill-requires : goal.fill-requires
fill-requires c =
    record {
      formed = subst (λ n. is_well_formed n.settings c.args.event.now ≡ true) (sym (ap cluster_of c.self.view_is)) c.requires.formed;
      standing = subst IsStanding (sym (ap cluster_of c.self.view_is)) (c.requires.standing.0.moments, c.requires.standing.1.cluster);
    }

pub returns : goal.returns
returns c = λ d is gives.
    subst (λ n. (d : World) → ClusterFor n d.moments → c.args.into.now.outs ≡ outs_after n.settings c.args.event.now d → c.fill.new.into ≡ report n.settings c.args.event.now d)
    (ap cluster_of c.self.view_is) c.fill.ensures d is.cluster gives
