use Rattle.std.proofs.Common.{◌≡◌, ◌≢◌, Result, Ok, Err, refl, sym, ap, ◌∙◌, arith}
use Rattle.qn_model.specs.declared.line_fault.LineFault.{LineFault}
use Rattle.qn_model.specs.declared.line_fault.LineFault.TheVariants.{TooMany}
use Rattle.qn_audit.specs.declared.audit_end.AuditEnd.TheVariants.{NotARun}
use Rattle.qn_audit.specs.declared.logged_call.LoggedCall.{LoggedCall}
use Rattle.qn_audit.specs.Auditing.{AtFault, NotNext}
use Rattle.qn_audit.specs.LoggedCalls.{call_in, read_in}
use Rattle.qn_audit.specs.Reading.{call_of}
use Rattle.qn_audit.proofs.LogSteps.{call_at-many, call_at-within, turns_in-now, turns_in-other}
use Rattle.qn_audit.proofs.log_place.LogPlace.take.Goals as goal

pub returns-then-self-eq-MOST_LOG_LINES-clause-end : goal.returns-then-self-eq-MOST_LOG_LINES-clause-end
returns-then-self-eq-MOST_LOG_LINES-clause-end c = λ plan stands.
    AtFault TooMany (call_at-many c.args.self.now.lines c.args.line.now c.requires.short (omega (arith, c.if-self-eq-MOST_LOG_LINES.true))) c.bad_line.ensures

pub returns-in-Err-clause-end : goal.returns-in-Err-clause-end
returns-in-Err-clause-end c = λ plan stands.
    let faulty : call_of c.args.line.now ≡ Err c.in-Err.fault =
    sym c.read_call.ensures.first_fault ∙ ap (λ (found : Result LoggedCall LineFault). read_in found c.read_call.new.room) c.in-Err.is in
    let few : c.args.self.now.lines ≢ 2000000 = λ many. omega (arith, many, c.if-self-eq-MOST_LOG_LINES.false) in
    AtFault c.in-Err.fault (call_at-within c.args.self.now.lines c.args.line.now c.requires.short few ∙ faulty) c.bad_line-in-Err.ensures

pub returns-in_default-clause-end : goal.returns-in_default-clause-end
returns-in_default-clause-end c = λ plan stands.
    let call = call_in c.in-Ok.call c.read_call.new.room in
    let said : call_of c.args.line.now ≡ Ok call =
    sym c.read_call.ensures.first_fault ∙ ap (λ (found : Result LoggedCall LineFault). read_in found c.read_call.new.room) c.in-Ok.is in
    let few : c.args.self.now.lines ≢ 2000000 = λ many. omega (arith, many, c.if-self-eq-MOST_LOG_LINES.false) in
    NotNext call (call_at-within c.args.self.now.lines c.args.line.now c.requires.short few ∙ said) (c.in_default.ensures.other plan stands) (ap NotARun c.next_line.ensures)

pub returns-then-looks_at_clock-clause-takes : goal.returns-then-looks_at_clock-clause-takes
returns-then-looks_at_clock-clause-takes c =
    let call = call_in c.in-Ok.call c.read_call.new.room in
    let said : call_of c.args.line.now ≡ Ok call =
    sym c.read_call.ensures.first_fault ∙ ap (λ (found : Result LoggedCall LineFault). read_in found c.read_call.new.room) c.in-Ok.is in
    let few : c.args.self.now.lines ≢ 2000000 = λ many. omega (arith, many, c.if-self-eq-MOST_LOG_LINES.false) in
    record {
      call = call;
      says = call_at-within c.args.self.now.lines c.args.line.now c.requires.short few ∙ said;
      next = c.in-Ok-take.ensures.next;
      stands = c.in-Ok-take.ensures.stands;
      head = refl;
      lines = refl;
      turns = rw (turns_in-now call (sym (c.if-looks_at_clock.ensures c.read_call.new.room))) refl;
    }

pub returns-else-looks_at_clock-clause-takes : goal.returns-else-looks_at_clock-clause-takes
returns-else-looks_at_clock-clause-takes c =
    let call = call_in c.in-Ok.call c.read_call.new.room in
    let said : call_of c.args.line.now ≡ Ok call =
    sym c.read_call.ensures.first_fault ∙ ap (λ (found : Result LoggedCall LineFault). read_in found c.read_call.new.room) c.in-Ok.is in
    let few : c.args.self.now.lines ≢ 2000000 = λ many. omega (arith, many, c.if-self-eq-MOST_LOG_LINES.false) in
    record {
      call = call;
      says = call_at-within c.args.self.now.lines c.args.line.now c.requires.short few ∙ said;
      next = c.in-Ok-take.ensures.next;
      stands = c.in-Ok-take.ensures.stands;
      head = refl;
      lines = refl;
      turns = rw (turns_in-other call (sym (c.if-looks_at_clock.ensures c.read_call.new.room))) (omega arith);
    }
