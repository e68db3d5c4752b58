use Rattle.qn_joined.proofs.TripleOwners.{one_owner_on_three}
use Rattle.qn_joined.proofs.triple_laws.law_triple_one_owner.Goals as goal

pub returns : goal.returns
returns c = λ s t safe.
    one_owner_on_three s t (c.law_triple_any_numbers.ensures s t safe) (c.law_triple_worlds.ensures s t)
    (c.law_triple_owned.ensures s t)
