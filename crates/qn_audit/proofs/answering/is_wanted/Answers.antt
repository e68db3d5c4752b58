use Rattle.std.proofs.Common.{◌≡◌, rules}
use Rattle.qn_audit.proofs.Questions.{same_asked}
use Rattle.qn_audit.proofs.answering.is_wanted.Goals as goal

pub returns-then-is_same_call : goal.returns-then-is_same_call
returns-then-is_same_call c =
    let same : c.args.asked ≡ c.args.wanted = c.is_same_call.ensures.0 (search rules) in
    rw same c.has_same_bytes.ensures

pub returns-else-is_same_call : goal.returns-else-is_same_call
returns-else-is_same_call c = (
  λ yes. cc,
  λ same. let is = c.is_same_call.ensures.1 (same_asked c.args.asked c.args.wanted c.args.room.now c.args.wanted_room.now same) in cc,
)
