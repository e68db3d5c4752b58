use Rattle.std.proofs.Common.{◌&&◌, not}
use Rattle.qn_base.specs.Members.{is_member}
use Rattle.qn_model.specs.LeastMembers.{first-least}
use Rattle.qn_candidate.proofs.candidate.unknowing.Goals as goal

pub returns : goal.returns
returns c =
    let f = c.args.facts.now in
    first-least c.without.result 32 (λ rank. is_member c.args.members rank && not (is_member f.knows rank)) c.first.result
    c.first.ensures.within c.first.ensures.member c.first.ensures.least c.first.ensures.none
    (λ j below. c.without.ensures j)
