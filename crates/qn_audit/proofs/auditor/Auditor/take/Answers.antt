use Rattle.std.proofs.Common.{rules, sym, ap, ◌∙◌}
use Rattle.qn_base.specs.Plans.{question}
use Rattle.qn_audit.specs.LoggedCalls.{call_in}
use Rattle.qn_audit.proofs.auditor.Auditor.take.Goals as goal

pub returns-in-Err-clause-other : goal.returns-in-Err-clause-other
returns-in-Err-clause-other c = λ plan stands next.
    let over = c.in-Err.ensures.over plan stands in
    let none = ap question (sym over.1) ∙ next in cc

pub answer-requires-clause-answered : goal.answer-requires-clause-answered
answer-requires-clause-answered c =
    let judging = c.requires.judging in (
      judging.0,
      judging.1,
      call_in c.args.call c.args.room.now,
      c.requires.told.tells,
      search rules,
    )
