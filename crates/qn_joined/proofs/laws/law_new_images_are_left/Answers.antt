use Rattle.qn_joined.proofs.AnyImage.{new_images_are_left}
use Rattle.qn_joined.proofs.laws.law_new_images_are_left.Goals as goal

pub returns : goal.returns
returns c = new_images_are_left
