use Rattle.qn_member.proofs.Kept.{none_kept}
use Rattle.qn_member.proofs.member.Member.new.Goals as goal

pub invariant_of-result : goal.invariant_of-result
invariant_of-result c = none_kept _
