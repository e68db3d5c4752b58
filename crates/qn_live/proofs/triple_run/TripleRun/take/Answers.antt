use Rattle.std.proofs.Common.{sym, ap, ◌∙◌}
use Rattle.qn_base.specs.Calls.{blank}
use Rattle.qn_base.specs.Plans.{left, question}
use Rattle.qn_live.proofs.BytesDecoded.{op_decoded}
use Rattle.qn_live.proofs.Turning.{fresh_stands, other_next, runs_too}
use Rattle.qn_live.proofs.triple_run.TripleRun.take.Goals as goal

pub returns-in-None-clause-stands : goal.returns-in-None-clause-stands
returns-in-None-clause-stands c = λ plan call h tells asked.
    let run = c.args.self.now in
    let one = h.stands.one in
    let none = sym c.operation.ensures ∙ c.in-None.is in
    let next =
    other_next run.run.settings run.run.me.0 run.good run.reads run.writes one (blank call)
    (λ found is. c.law_operation.ensures.none run.run one found h.stands.runs none is) (ap question (sym h.stands.is_left) ∙ asked) in
    fresh_stands _ run.run.settings run.run.me.0 run.good (left plan call) (left one call)
    (ap (λ r. r.settings) c.forget.ensures.run ∙ c.answer-decoded.ensures.settings)
    (ap (λ r. r.me.0) c.forget.ensures.run ∙ ap (λ r. r.0) c.answer-decoded.ensures.rank)
    c.forget.ensures.good c.forget.ensures.reads c.forget.ensures.writes
    (runs_too c.forget.ensures.run (c.answer-decoded.ensures.runs one call h.stands.runs tells next.0))
    (ap (λ p. left p call) h.stands.is_left ∙ next.1 call)

pub returns-in-Some-clause-decoded : goal.returns-in-Some-clause-decoded
returns-in-Some-clause-decoded c =
    let run = c.args.self.now in
    c.told.ensures.decoded ∙ op_decoded run.run c.in-Some.op c.args.given c.args.room.now (sym c.operation.ensures ∙ c.in-Some.is)
