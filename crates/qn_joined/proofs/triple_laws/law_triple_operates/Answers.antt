use Rattle.qn_joined.proofs.TripleMoves.{operates_on_three}
use Rattle.qn_joined.proofs.triple_laws.law_triple_operates.Goals as goal

pub returns : goal.returns
returns c = λ s t rank image sent. operates_on_three s t c.law_mails_read_back.ensures rank image sent
