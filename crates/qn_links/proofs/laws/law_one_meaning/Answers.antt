use Rattle.qn_links.proofs.OneMeaning.{meaning_same, same_meaning}
use Rattle.qn_links.proofs.laws.law_one_meaning.Goals as goal

pub returns : goal.returns
returns c = λ one other links others arbiter another said told.
    (same_meaning one other links others arbiter another said told, λ same. meaning_same one other links others arbiter another same.0 same.1 same.2)
