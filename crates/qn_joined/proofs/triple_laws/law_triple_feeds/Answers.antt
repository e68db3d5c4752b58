use Rattle.qn_joined.proofs.TripleMoves.{feeds_on_three}
use Rattle.qn_joined.proofs.triple_laws.law_triple_feeds.Goals as goal

pub returns : goal.returns
returns c = λ s t rank. feeds_on_three s t rank
