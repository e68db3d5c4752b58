use Rattle.qn_joined.proofs.AnyImage.{one_owner_again}
use Rattle.qn_joined.proofs.laws.law_one_owner_again.Goals as goal

pub returns : goal.returns
returns c = λ s t safe. one_owner_again s t (c.law_any_numbers.ensures s t safe) (c.law_worlds_again.ensures s t safe)
