use Rattle.std.proofs.Common.{◌≡◌, refl}
use Rattle.std.specs.Prelude.{replicate}
use Rattle.qn_parts.specs.Parts.{part_on}
use Rattle.qn_safety.specs.declared.part.Part.TheVariants.{Pending}
use Rattle.qn_safety.specs.TripleWorld.{all_pending}
use Rattle.qn_triple.proofs.DiskSteps.{parts_turned}
use Rattle.qn_cluster.specs.ListLaws.{by_image}
use Rattle.qn_triple.proofs.state.State.forget_parts.Goals as goal

pub returns : goal.returns
returns c =
    parts_turned c.args.self.now c.set_parts.new.self c.args.i.0 (replicate 3 Pending) all_pending c.requires c.set_parts.ensures
    (by_image (λ image. part_on (replicate 3 Pending) image ≡ all_pending image) refl refl refl)
