use Rattle.qn_joined.proofs.Owners.{one_owner}
use Rattle.qn_joined.proofs.laws.law_one_owner.Goals as goal

pub returns : goal.returns
returns c = λ s t safe. one_owner s t (c.law_any_numbers.ensures s t safe) (c.law_worlds.ensures s t)
