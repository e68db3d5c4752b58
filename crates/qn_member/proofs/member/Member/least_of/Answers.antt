use Rattle.std.proofs.Common.{◌∙◌, ap}
use Rattle.qn_base.specs.Members.{is_member}
use Rattle.qn_model.specs.LeastMembers.{found-least}
use Rattle.qn_model.specs.Unmet.{least_from}
use Rattle.qn_member.proofs.member.Member.least_of.Goals as goal

pub returns-clause-least : goal.returns-clause-least
returns-clause-least c =
    let first = c.first.ensures in
    let members = c.args.members in
    found-least _ (is_member members) c.first.result first.within first.member first.least first.none
    ∙ ap (λ n. least_from n 0 (is_member members)) c.count.ensures.value
