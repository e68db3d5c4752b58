use Rattle.std.proofs.Common.{◌≡◌, ◌+◌, ◌*◌, Ok, length, sym, ◌∙◌, arith}
use Rattle.hex.specs.Hex.{decode_pairs}
use Rattle.hex.proofs.Pairs.{decode_done, decode_start, decode_step}
use Rattle.qn_audit.specs.Reading.{digits_of}
use Rattle.qn_audit.proofs.Digits.{AreLower, IsPair, digits_no_space, digits_of-decoded, digits_of-other, more_lower, pair_value-lower}
use Rattle.qn_audit.proofs.log_bytes.decode.Goals as goal

pub loop-i-init : goal.loop-i-init
loop-i-init c = record { decoded = decode_start c.args.word.now c.args.into.now; lower = λ k none. absurd (omega arith) }

pub returns-in_default-clause-bytes : goal.returns-in_default-clause-bytes
returns-in_default-clause-bytes c =
    sym (digits_of-other c.args.word.now (2 * c.loop-i.i) (omega arith) (sym c.digit_of.ensures.value ∙ c.in_default.is))

pub returns-in_default-digit_of-clause-bytes : goal.returns-in_default-digit_of-clause-bytes
returns-in_default-digit_of-clause-bytes c =
    sym (digits_of-other c.args.word.now (2 * c.loop-i.i + 1) (omega arith) (sym c.digit_of-in-loop-i.ensures.value ∙ c.in_default-digit_of.is))

pub loop-i-preserved : goal.loop-i-preserved
loop-i-preserved c =
    let word = c.args.word.now in
    let i = c.loop-i.i in
    let high = c.in-Some.high in
    let low = c.in-Some-digit_of.low in
    let pair : IsPair word i high low = record {
      high_is = sym c.digit_of.ensures.value ∙ c.in-Some.is;
      low_is = sym c.digit_of-in-loop-i.ensures.value ∙ c.in-Some-digit_of.is;
    } in
    record {
      decoded = decode_step word c.loop-i.into i (high * 16 + low) (omega arith) (omega arith) (pair_value-lower word i high low pair) c.loop-i.invariant.decoded;
      lower = more_lower word i high low pair c.loop-i.invariant.lower;
    }

spelled : (c : goal.After-loop-i) → digits_of c.args.word.now ≡ Ok c.loop-i.into
spelled c =
    let word = c.args.word.now in
    let lower : AreLower word (length word) = λ k within. c.loop-i.invariant.lower k (omega arith) in
    let decoded : decode_pairs 0 word ≡ Ok c.loop-i.into = decode_done word c.loop-i.into c.loop-i.i (omega arith) (omega arith) c.loop-i.invariant.decoded in
    digits_of-decoded word c.loop-i.into (omega arith) (omega arith) (omega arith) lower decoded

pub returns-clause-bytes : goal.returns-clause-bytes
returns-clause-bytes c = sym (spelled c)

pub returns-clause-one_word : goal.returns-clause-one_word
returns-clause-one_word c = digits_no_space c.args.word.now c.loop-i.into (spelled c)
