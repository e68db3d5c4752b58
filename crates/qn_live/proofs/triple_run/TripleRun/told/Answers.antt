use Rattle.std.proofs.Common.{◌≡◌, false, true, refl, sym, ap, subst, ◌∙◌}
use Rattle.qn_base.specs.Calls.{is_failed}
use Rattle.qn_model.specs.World.{is_write}
use Rattle.qn_safety.specs.declared.part.Part.{Part}
use Rattle.qn_live.specs.TripleDisk.{part_of}
use Rattle.qn_live.specs.TripleLaws.{IsTold}
use Rattle.qn_live.specs.TripleMachine.{read_on, written_on}
use Rattle.qn_live.specs.TripleOperations.{place_of, read_as}
use Rattle.qn_live.proofs.Answers.{part_told}
use Rattle.qn_live.proofs.BytesDecoded.{read_decoded, write_decoded}
use Rattle.qn_live.proofs.Operated.{done_by_given, part_by_room}
use Rattle.qn_live.proofs.Steps.{OperationLaw, read_call_made, write_call_made, writes_place}
use Rattle.qn_live.proofs.Turning.{stands_too}
use Rattle.qn_live.proofs.triple_run.TripleRun.told.Goals as goal

pub returns-then-is_write-clause-stands : goal.returns-then-is_write-clause-stands
returns-then-is_write-clause-stands c = λ plan call h tells asked.
    let run = c.args.self.now in
    let law : OperationLaw = (record { asked = c.law_operation.ensures.asked; fits = c.law_operation.ensures.fits; none = c.law_operation.ensures.none; valid = c.law_operation.ensures.valid }) in
    let one = h.stands.one in
    let found = c.requires.operation in
    let writes : is_write c.args.op ≡ true = cc (c.if-is_write.ensures) in
    let w = writes_place law run.run one h.stands.runs c.args.op found writes in
    let place = place_of run.run.me.0 c.args.op in
    stands_too
    (write_call_made law run plan h c.args.op call found writes
    ∙ ap (λ on. written_on run.run.settings run.run.me.0 run.good run.writes one place w.bytes on) (sym (done_by_given (is_failed call) c.args.given.ok tells.ok)))
    (c.wrote.ensures.stands one h.stands.runs w.bytes w.asked)

pub returns-else-is_write-clause-stands : goal.returns-else-is_write-clause-stands
returns-else-is_write-clause-stands c = λ plan call h tells asked.
    let run = c.args.self.now in
    let law : OperationLaw = (record { asked = c.law_operation.ensures.asked; fits = c.law_operation.ensures.fits; none = c.law_operation.ensures.none; valid = c.law_operation.ensures.valid }) in
    let one = h.stands.one in
    let s = run.run.settings in
    let found = c.requires.operation in
    let reads : is_write c.args.op ≡ false = cc (c.if-is_write.ensures) in
    let made = read_call_made law run plan h c.args.op call found reads asked in
    let place = place_of run.run.me.0 c.args.op in
    let op = read_as c.args.op in
    let part : c.part_of-told.result.0 ≡ part_of s op call =
    c.part_of-told.ensures.part
    ∙ (rw (c.settings.ensures, c.read_as.ensures) refl)
    ∙ part_by_room s op call c.args.given c.args.room.now tells made.reads in
    stands_too
    (made.is_left ∙ ap (λ (p : Part). read_on s run.run.me.0 run.good run.reads one op place p) (sym part))
    (c.read.ensures.stands one h.stands.runs (h.stands.told c.args.op found reads) (subst (λ (p : Part). IsTold s op p) (sym part) (part_told s op call)))

pub returns-then-is_write-clause-decoded : goal.returns-then-is_write-clause-decoded
returns-then-is_write-clause-decoded c =
    let writes : is_write c.args.op ≡ true = cc (c.if-is_write.ensures) in
    write_decoded c.args.op c.args.given c.args.room.now writes

pub returns-else-is_write-clause-decoded : goal.returns-else-is_write-clause-decoded
returns-else-is_write-clause-decoded c =
    c.part_of-told.ensures.decoded
    ∙ (rw c.read_as.ensures (read_decoded c.args.op c.args.given c.args.room.now))
