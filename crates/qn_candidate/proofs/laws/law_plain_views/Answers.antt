use Rattle.std.proofs.Common.{◌/◌, ◌^◌, ◌∙◌, length}
use Rattle.qn_candidate.proofs.Choosing.{choose_least, chosen_by, least_of}
use Rattle.qn_candidate.proofs.laws.law_plain_views.Goals as goal

pub returns : goal.returns
returns c = λ s log seen there none few.
    chosen_by s log seen there ∙ (choose_least (length s.nodes) (seen.id / 2 ^ 56) seen.members few none ∙ least_of s log seen there)
