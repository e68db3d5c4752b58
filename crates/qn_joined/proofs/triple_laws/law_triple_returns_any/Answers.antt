use Rattle.qn_joined.proofs.TripleLooks.{any_returns}
use Rattle.qn_joined.proofs.triple_laws.law_triple_returns_any.Goals as goal

pub returns : goal.returns
returns c = λ s t rank made.
    any_returns s t rank made (λ disk. c.law_triple_tells.ensures s t rank made disk) (c.law_triple_returns.ensures s t rank made) (c.law_triple_looks_return.ensures s t rank made)
