use Rattle.std.proofs.Common.{◌≡◌, refl, true}
use Rattle.std.specs.Prelude.{replicate}
use Rattle.qn_parts.specs.Parts.{is_good_on}
use Rattle.qn_safety.specs.TripleWorld.{all_good}
use Rattle.qn_triple.proofs.DiskSteps.{good_turned}
use Rattle.qn_cluster.specs.ListLaws.{by_image}
use Rattle.qn_triple.proofs.state.State.trust_all.Goals as goal

pub returns : goal.returns
returns c =
    good_turned c.args.self.now c.set_good.new.self c.args.i.0 (replicate 3 true) all_good c.requires c.set_good.ensures
    (by_image (λ image. is_good_on (replicate 3 true) image ≡ all_good image) refl refl refl)
