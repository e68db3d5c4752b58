use Rattle.std.proofs.Common.{[], ◌∷◌, subst, sym}
use Rattle.qn_parts.specs.Parts.{part_on}
use Rattle.qn_triple.proofs.DiskSteps.{WithPart, first_part, image_third, second_part, third_part}
use Rattle.qn_triple.proofs.disk.with_part.Goals as goal

pub returns-then-image-eq1 : goal.returns-then-image-eq1
returns-then-image-eq1 c = subst (λ image. WithPart c.args.parts image c.args.part (c.args.part ∷ part_on c.args.parts 2 ∷ part_on c.args.parts 3 ∷ [])) (sym c.if-image-eq1.true) (first_part c.args.parts c.args.part)

pub returns-then-image-eq2 : goal.returns-then-image-eq2
returns-then-image-eq2 c = subst (λ image. WithPart c.args.parts image c.args.part (part_on c.args.parts 1 ∷ c.args.part ∷ part_on c.args.parts 3 ∷ [])) (sym c.if-image-eq2.true) (second_part c.args.parts c.args.part)

pub returns : goal.returns
returns c =
    subst (λ image. WithPart c.args.parts image c.args.part (part_on c.args.parts 1 ∷ part_on c.args.parts 2 ∷ c.args.part ∷ [])) (sym (image_third c.args.image c.requires c.if-image-eq1.false c.if-image-eq2.false)) (third_part c.args.parts c.args.part)
