use Rattle.std.proofs.Common.{◌≡◌, ◌∷◌, [], sym, ap, subst, refl, ◌∙◌}
use Rattle.qn_base.specs.Plans.{left}
use Rattle.qn_live.specs.declared.told.Reads.{Reads}
use Rattle.qn_live.specs.declared.told.Reads.TheVariants as reads
use Rattle.qn_live.specs.TripleDisk.{read_entry, read_of, sector_of}
use Rattle.qn_live.specs.TripleMachine.{AreTold}
use Rattle.qn_live.specs.TripleOperations.{answer_as, place_of, read_as}
use Rattle.qn_live.proofs.Operated.{read_answered}
use Rattle.qn_live.proofs.Steps.{OperationLaw, reads_as, reads_place}
use Rattle.qn_live.proofs.Turning.{fresh_stands, read_stands, runs_too}
use Rattle.qn_live.proofs.triple_run.TripleRun.read.Goals as goal

pub returns-in-Nothing-clause-stands : goal.returns-in-Nothing-clause-stands
returns-in-Nothing-clause-stands c = λ one runs told is_told.
    let run = c.args.self.now in
    let law : OperationLaw = (record { asked = c.law_operation.ensures.asked; fits = c.law_operation.ensures.fits; none = c.law_operation.ensures.none; valid = c.law_operation.ensures.valid }) in
    let found = c.requires.operation in
    rw c.in-Nothing.is
    (read_stands _ run.run run.good (reads.One c.args.part) one c.args.op refl refl refl runs found
    (reads_place law run.run one runs c.args.op found c.requires.reads) (reads_as law run.run one runs c.args.op found c.requires.reads) is_told)

pub returns-in-One-clause-stands : goal.returns-in-One-clause-stands
returns-in-One-clause-stands c = λ one runs told is_told.
    let run = c.args.self.now in
    let law : OperationLaw = (record { asked = c.law_operation.ensures.asked; fits = c.law_operation.ensures.fits; none = c.law_operation.ensures.none; valid = c.law_operation.ensures.valid }) in
    let found = c.requires.operation in
    let first = subst (λ (r : Reads). AreTold run.run.settings (read_as c.args.op) r) c.in-One.is told in
    rw c.in-One.is
    (read_stands _ run.run run.good (reads.Two c.in-One.first c.args.part) one c.args.op refl refl refl runs found
    (reads_place law run.run one runs c.args.op found c.requires.reads) (reads_as law run.run one runs c.args.op found c.requires.reads) (first, is_told))

pub returns-in-Two-clause-stands : goal.returns-in-Two-clause-stands
returns-in-Two-clause-stands c = λ one runs told is_told.
    let run = c.args.self.now in
    let s = run.run.settings in
    let op = c.args.op in
    let found = c.requires.operation in
    let both = subst (λ (r : Reads). AreTold s (read_as op) r) c.in-Two.is told in
    let place = place_of run.run.me.0 op in
    let parts = c.in-Two.first ∷ c.in-Two.second ∷ c.args.part ∷ [] in
    let call = read_of place (sector_of s (read_entry (read_as op) parts run.good)) in
    let answer = read_answered s place c.law_read_back.ensures.mailbox c.in-Two.first c.in-Two.second c.args.part run.good op c.requires.reads both.0 both.1 is_told in
    let given : c.answer_as.result ≡ answer_as op (read_entry (read_as op) parts run.good) =
    c.answer_as.ensures ∙ ap (answer_as op) (c.read_entry-entry.ensures ∙ ap (λ o. read_entry o parts run.good) c.read_as.ensures) in
    rw c.in-Two.is
    (fresh_stands _ s run.run.me.0 run.good _ (left one call)
    (ap (λ r. r.settings) c.forget.ensures.run ∙ c.perform.ensures.settings)
    (ap (λ r. r.me.0) c.forget.ensures.run ∙ ap (λ r. r.0) c.perform.ensures.rank)
    c.forget.ensures.good c.forget.ensures.reads c.forget.ensures.writes
    (runs_too c.forget.ensures.run (c.perform.ensures.runs one op call runs found (answer ∙ sym given))) refl)
