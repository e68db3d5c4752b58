use Rattle.std.proofs.Common.{◌≡◌, ◌+◌, length, option_copied}
use Rattle.std.specs.Option.{option_map_or}
use Rattle.qn_model.specs.Lines.{members_of}
use Rattle.qn_model.specs.Settings.{ids}
use Rattle.qn_sched.specs.MemberList.{with_parts}
use Rattle.qn_sched.specs.Words.{parts_left}
use Rattle.qn_sched.proofs.members.read_members.Given as goal

-- the parts that are left decide as the whole word does
abbrev pub invariant-parts : goal.invariant-parts
invariant-parts l = with_parts (ids l.nodes) l.list (parts_left 44 (option_copied l.rest)) ≡ members_of (ids l.nodes) l.word

abbrev pub decreases-parts : goal.decreases-parts
decreases-parts l = option_map_or (λ text. length text + 1) (option_copied l.rest) 0
