use Rattle.std.proofs.Common.{◌∙◌}
use Rattle.qn_model.specs.NodeVotes.{votes}
use Rattle.qn_tie.proofs.Halves.{halves}
use Rattle.qn_tie.proofs.laws.law_tie_halves.Goals as goal

pub returns : goal.returns
returns c = λ s first second tick later left right alike seen also_seen apart.
    halves s ((alike.valid.tie_alone alike.breaker_on).0) ((alike.valid.tie_alone alike.breaker_on).1) (votes first) (votes second) tick later left right
    alike.same_majority alike.same_expected alike.whole (c.law_disjoint_votes.ensures.together s.nodes left right apart)
    (c.law_present_view.ensures first ∙ seen) (c.law_present_view.ensures second ∙ also_seen) apart
