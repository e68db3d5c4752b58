use Rattle.std.proofs.Common.{◌≡◌, ◌+◌, ◌-◌, ◌∙◌, false, ap, arith}
use Rattle.std.specs.Prelude.{slice_index_or}
use Rattle.qn_cluster.proofs.Marks.{image_next}
use Rattle.qn_cluster.proofs.leftovers.leave_all.Goals as goal

pub returns-then-is_err-clause-cause : goal.returns-then-is_err-clause-cause
returns-then-is_err-clause-cause c =
    let k = c.loop-image.image in
    let place : k + 1 - 1 ≡ k = omega arith in
    (k + 1, image_next k c.loop-image-test.true, ap (λ n. slice_index_or c.args.on.now n false) place ∙ c.if-on-image.true)
