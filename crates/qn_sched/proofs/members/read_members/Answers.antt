use Rattle.std.proofs.Common.{◌∙◌, ap}
use Rattle.qn_model.specs.Lines.{parts}
use Rattle.qn_model.specs.Settings.{ids}
use Rattle.qn_sched.specs.MemberList.{with_parts}
use Rattle.qn_sched.proofs.Listed.{members_of-is}
use Rattle.qn_sched.proofs.members.read_members.Goals as goal

pub parts-init : goal.parts-init
parts-init c =
    let known = ids c.args.nodes.now in
    let word = c.args.word.now in
    ap (λ list. with_parts known list (parts 44 word)) c.new-list.ensures ∙ members_of-is known word
