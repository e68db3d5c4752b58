use Rattle.qn_seal.proofs.Spelling.{found_some, found_none}
use Rattle.qn_seal.proofs.opening.open.Goals as goal

pub returns-clause-some : goal.returns-clause-some
returns-clause-some c = found_some _ _ _ c.read_sealed.result (λ p. p.0) (λ p. p.1.now) c.read_sealed.ensures

pub returns-clause-none : goal.returns-clause-none
returns-clause-none c = found_none _ _ _ c.read_sealed.result (λ p. p.0) (λ p. p.1.now) c.read_sealed.ensures
