use Rattle.std.proofs.Common.{◌≡◌, refl, true}
use Rattle.std.specs.Prelude.{replicate}
use Rattle.qn_cluster.specs.ListLaws.{by_image}
use Rattle.qn_parts.specs.Parts.{is_good_on, part_on}
use Rattle.qn_safety.specs.declared.part.Part.TheVariants.{Pending}
use Rattle.qn_triple.proofs.FirstWorld.{first_stands}
use Rattle.qn_triple.proofs.steps.StateSteps.first.Goals as goal

pub returns-clause-first : goal.returns-clause-first
returns-clause-first c =
    first_stands _ (replicate 3 Pending) (replicate 3 true) c.new-2.result c.requires.safe c.in_ok-cluster.ensures.stands c.in_ok-parts.ensures c.in_ok-good.ensures
    c.in_ok-sectors.ensures c.new-3.ensures (by_image (λ image. part_on (replicate 3 Pending) image ≡ Pending) refl refl refl)
    (by_image (λ image. is_good_on (replicate 3 true) image ≡ true) refl refl refl) c.new-2.ensures
