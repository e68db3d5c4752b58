use Rattle.std.proofs.Common.{◌≡◌, ◌++◌, Result, Ok, Err, length, take, sym, ap, ◌∙◌, arith}
use Rattle.std.proofs.lemmas.List.{take-append-le, take_all}
use Rattle.std.proofs.lemmas.Result.{err_from_is_err_and}
use Rattle.qn_model.specs.declared.line_fault.LineFault.{LineFault}
use Rattle.qn_audit.specs.LoggedCalls.{filled_in}
use Rattle.qn_audit.specs.Reading.{digits_of}
use Rattle.qn_audit.proofs.Digits.{bytes_between-err, bytes_between-none, bytes_between-none_few, bytes_between-ok}
use Rattle.qn_audit.proofs.log_bytes.bytes_into.Goals as goal

pub returns-then-least-gt0-clause-bytes : goal.returns-then-least-gt0-clause-bytes
returns-then-least-gt0-clause-bytes c =
    sym (bytes_between-none_few c.args.least (length c.args.into.now) c.args.word.now (sym c.is_word.ensures ∙ c.if-is_word.true) c.if-least-gt0.true)

pub returns-then-is_word-clause-bytes : goal.returns-then-is_word-clause-bytes
returns-then-is_word-clause-bytes c =
    sym (bytes_between-none c.args.least (length c.args.into.now) c.args.word.now (sym c.is_word.ensures ∙ c.if-is_word.true) c.if-least-gt0.false)

pub returns-in_err-decode-clause-bytes : goal.returns-in_err-decode-clause-bytes
returns-in_err-decode-clause-bytes c =
    let exit = err_from_is_err_and c.from_residual-in_err-decode.result c.from_residual-in_err-decode.ensures.1 in
    let word = c.args.word.now in
    let err : digits_of word ≡ Err c.in_err-decode.field-0.0 =
    sym c.decode.ensures.bytes ∙ ap (λ (done : Result (Unit {0}) LineFault). filled_in done c.decode.new.into) c.in_err-decode.was in
    rw (exit.1, exit.2) (sym (bytes_between-err c.args.least (length c.args.into.now) word c.in_err-decode.field-0.0 (sym c.is_word.ensures ∙ c.if-is_word.false) err))

pub returns-clause-bytes : goal.returns-clause-bytes
returns-clause-bytes c =
    let word = c.args.word.now in
    let front = c.decode.new.into in
    let count = c.in_ok-count.count in
    let back = c.split_at_mut.result.1.now in
    let whole : length front ≡ count = omega (arith, c.decode.auto.into, c.split_at_mut.ensures.front_len) in
    let ok : digits_of word ≡ Ok front =
    sym c.decode.ensures.bytes ∙ ap (λ (done : Result (Unit {0}) LineFault). filled_in done front) c.in_ok-decode.was in
    let taken : take count (front ++ back) ≡ front = take-append-le count front back (omega arith) ∙ take_all count front (omega arith) in
    ap Ok taken
    ∙ sym (bytes_between-ok c.args.least (length c.args.into.now) word front (sym c.is_word.ensures ∙ c.if-is_word.false) ok
    (omega (arith, c.in_ok-count.ensures.least)) (omega (arith, c.in_ok-count.ensures.most)))
