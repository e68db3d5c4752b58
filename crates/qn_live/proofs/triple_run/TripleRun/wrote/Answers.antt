use Rattle.std.proofs.Common.{◌≡◌, ◌∷◌, [], sym, ap, refl, ◌∙◌, if◌then◌else◌}
use Rattle.qn_base.specs.declared.calls.Call.TheVariants as call
use Rattle.qn_base.specs.Plans.{left}
use Rattle.qn_model.specs.World.{failed}
use Rattle.qn_live.specs.Performing.{done}
use Rattle.qn_live.specs.declared.told.Writes.TheVariants as writes
use Rattle.qn_live.specs.TripleDisk.{good_after_write, is_majority}
use Rattle.qn_live.specs.TripleOperations.{place_of}
use Rattle.qn_live.proofs.Operated.{write_answered}
use Rattle.qn_live.proofs.Turning.{fresh_stands, runs_too, write_stands}
use Rattle.qn_live.proofs.triple_run.TripleRun.wrote.Goals as goal

pub returns-in-Nothing-clause-stands : goal.returns-in-Nothing-clause-stands
returns-in-Nothing-clause-stands c = λ one runs bytes asked.
    let run = c.args.self.now in
    rw c.in-Nothing.is
    (write_stands _ run.run run.good (writes.One c.args.done) one c.args.op (place_of run.run.me.0 c.args.op) bytes refl refl refl runs
    c.requires.operation c.requires.writes asked)

pub returns-in-One-clause-stands : goal.returns-in-One-clause-stands
returns-in-One-clause-stands c = λ one runs bytes asked.
    let run = c.args.self.now in
    rw c.in-One.is
    (write_stands _ run.run run.good (writes.Two c.in-One.first c.args.done) one c.args.op (place_of run.run.me.0 c.args.op) bytes refl refl refl runs
    c.requires.operation c.requires.writes asked)

pub returns-in-Two-clause-stands : goal.returns-in-Two-clause-stands
returns-in-Two-clause-stands c = λ one runs bytes asked.
    let run = c.args.self.now in
    let s = run.run.settings in
    let op = c.args.op in
    let place = place_of run.run.me.0 op in
    let written = c.in-Two.first ∷ c.in-Two.second ∷ c.args.done ∷ [] in
    let made = call.Write place bytes (is_majority written) in
    let good : c.good_after_write-self.result ≡ good_after_write run.run.me.0 place written run.good =
    c.good_after_write-self.ensures
    ∙ (rw (c.rank-me.ensures, c.place_of-sector.ensures, c.rank-me.ensures) refl) in
    let answers = write_answered s op place bytes c.args.room.now.sector (is_majority written) c.requires.writes in
    let given : c.answer-answer.result.entry ≡ (if is_majority written then done s op c.args.room.now.sector else failed op) =
    c.answer-answer.ensures.entry ∙ (rw (c.settings-in-Two.ensures, c.is_majority.ensures) refl) in
    rw c.in-Two.is
    (fresh_stands _ s run.run.me.0 (good_after_write run.run.me.0 place written run.good) _ (left one made)
    (ap (λ r. r.settings) c.forget.ensures.run ∙ c.perform.ensures.settings)
    (ap (λ r. r.me.0) c.forget.ensures.run ∙ ap (λ r. r.0) c.perform.ensures.rank)
    (c.forget.ensures.good ∙ good) c.forget.ensures.reads c.forget.ensures.writes
    (runs_too c.forget.ensures.run (c.perform.ensures.runs one op made runs c.requires.operation (answers ∙ sym given))) refl)
