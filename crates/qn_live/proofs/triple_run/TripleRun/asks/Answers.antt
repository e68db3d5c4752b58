use Rattle.std.proofs.Common.{Some, sym, ap, ◌∙◌}
use Rattle.qn_live.specs.Asking.{question_of}
use Rattle.qn_live.proofs.Steps.{asks_on_image}
use Rattle.qn_live.proofs.Turning.{over_left}
use Rattle.qn_live.proofs.triple_run.TripleRun.asks.Goals as goal

pub returns-in-Ok-clause-asked : goal.returns-in-Ok-clause-asked
returns-in-Ok-clause-asked c = λ plan h.
    asks_on_image
    (record { asked = c.law_operation.ensures.asked; fits = c.law_operation.ensures.fits; none = c.law_operation.ensures.none; valid = c.law_operation.ensures.valid })
    c.args.self.now plan h c.in-Ok.asked c.asks.new.room (c.in-Ok.ensures.asked h.stands.one h.stands.runs)
    ∙ ap (λ asked. Some (question_of asked c.asks.new.room)) (sym c.on_image.ensures.value)

pub returns-in-Err-clause-over : goal.returns-in-Err-clause-over
returns-in-Err-clause-over c = λ plan h.
    let run = c.args.self.now in
    let over = c.in-Err.ensures.over h.stands.one h.stands.runs in
    let ended = over_left run.run.settings run.run.me.0 run.good run.reads run.writes h.stands.one c.in-Err.end over in
    (ended.0, h.stands.is_left ∙ ended.1)
