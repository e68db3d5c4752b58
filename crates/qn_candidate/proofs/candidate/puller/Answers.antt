use Rattle.std.proofs.Common.{ap, ◌∙◌, ◌&&◌}
use Rattle.qn_base.specs.Members.{is_member}
use Rattle.qn_model.specs.LeastMembers.{first-least}
use Rattle.qn_candidate.specs.Candidate.{can}
use Rattle.qn_candidate.proofs.candidate.puller.Goals as goal

pub returns : goal.returns
returns c =
    let f = c.args.facts.now in
    first-least c.both.result 32 (λ rank. can f c.args.members rank && is_member f.pulls rank) c.first.result
    c.first.ensures.within c.first.ensures.member c.first.ensures.least c.first.ensures.none
    (λ j below. c.both.ensures j ∙ ap (λ b. b && is_member f.pulls j) (c.able.ensures j below))
