use Rattle.std.proofs.Common.{length}
use Rattle.qn_member.proofs.Ranks.{member-lt, members-lt}
use Rattle.qn_member.proofs.laws.law_configured_members.Goals as goal

pub returns-clause-passed : goal.returns-clause-passed
returns-clause-passed c = λ nodes members few rank member. member-lt members.0 (length nodes) rank few member

pub returns-clause-passes : goal.returns-clause-passes
returns-clause-passes c = λ nodes members few. members-lt members.0 (length nodes) few
