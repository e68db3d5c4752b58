use Rattle.std.proofs.Common.{◌≡◌, ◌+◌, ◌≤◌, [], ◌++◌, length, take, sym, ap, subst, ◌∙◌, arith, length-append}
use Rattle.std.specs.Io.KnownBytes.{Consumes}
use Rattle.std.proofs.KnownBytes.{Consumes-nil, Consumes-trans, Keeps-refl, Keeps-trans}
use Rattle.arrayvec.specs.ArrayVec.{array_vec_len}
use Rattle.qn_base.specs.lemmas.Results.{ok_holds}
use Rattle.qn_etcd.specs.Heads.{IsHeadOf, MayBegin, NeverBegins}
use Rattle.qn_etcd.specs.HeadLaws.{nothing_is_no_answer, open_is_no_answer, other_size_is_no_answer, strange_is_no_answer}
use Rattle.qn_exchange.proofs.Answering.{at_err, is_none, kept_by_none, ok_is_no_err, stays_none, takes_more}
use Rattle.qn_exchange.proofs.etcd_exchange.read_answer.Goals as goal

pub parts-init : goal.parts-init
parts-init g c =
    let empty : c.clear.new.self.items ≡ [] = c.clear.ensures in
    (subst (Consumes _ _) (sym empty) (Consumes-nil _), (λ body. nothing_is_no_answer c.clear.new.self.items body empty), Keeps-refl _)

pub returns-in_err-more-clause-none : goal.returns-in_err-more-clause-none
returns-in_err-more-clause-none g c =
    at_err _ c.from_residual.result (stays_none _ _ _ c.parts.answer.items c.parts.invariant.0 c.parts.invariant.1 c.in_err-more.ensures.read)

pub returns-then-more-eq0-clause-none : goal.returns-then-more-eq0-clause-none
returns-then-more-eq0-clause-none g c =
    let zero : c.in_ok-more.more ≡ 0 = c.if-more-eq0.true in
    let kept = kept_by_none _ _ _ (ap (λ n. take n c.read_some.new.into) zero) c.in_ok-more.ensures.read.0 in
    stays_none _ _ _ c.parts.answer.items c.parts.invariant.0 c.parts.invariant.1 kept

pub returns-then-is_err-clause-none : goal.returns-then-is_err-clause-none
returns-then-is_err-clause-none g c =
    let old = c.parts.answer.items in
    let new = take c.in_ok-more.more c.read_some.new.into in
    record {
      bytes = old ++ new;
      takes = Consumes-trans _ _ _ old new c.parts.invariant.0 c.in_ok-more.ensures.read.0;
      none = λ body short text answer.
          let front = ap length c.split_at.ensures.front in
          let fits : array_vec_len c.parts.answer + length c.split_at.result.0.now ≤ 8192 = omega (arith, front, length-append old new, short) in
          ok_is_no_err c.try_extend_from_slice.result (sym c.is_err.ensures.value ∙ c.if-is_err.true) (c.try_extend_from_slice.ensures.variant.1 fits);
    }

pub returns-then-body-head-clause-none : goal.returns-then-body-head-clause-none
returns-then-body-head-clause-none g c =
    let bytes = c.try_extend_from_slice.new.self.items in
    let grows : bytes ≡ c.parts.answer.items ++ take c.in_ok-more.more c.read_some.new.into =
    ok_holds c.try_extend_from_slice.result (sym c.is_err.ensures.value ∙ c.if-is_err.false) c.try_extend_from_slice.ensures.ok
    ∙ ap (λ l. c.parts.answer.items ++ l) c.split_at.ensures.front in
    let takes = takes_more _ _ _ c.parts.answer.items _ bytes c.parts.invariant.0 c.in_ok-more.ensures.read.0 grows in
    let head = c.in-Some.head in
    let begins : IsHeadOf bytes head = subst (λ l. IsHeadOf l head) c.as_slice.ensures.value (rw c.in-Some.is at c.in-Ok.ensures.said) in
    let size : c.len.result ≡ length bytes = c.len.ensures.value in
    let more = c.if-body-head.true in
    is_none _ _ bytes takes (λ body. other_size_is_no_answer bytes body head begins (λ same. omega (arith, size, more, same)))

pub returns-in-Err-clause-none : goal.returns-in-Err-clause-none
returns-in-Err-clause-none g c =
    let bytes = c.try_extend_from_slice.new.self.items in
    let grows : bytes ≡ c.parts.answer.items ++ take c.in_ok-more.more c.read_some.new.into =
    ok_holds c.try_extend_from_slice.result (sym c.is_err.ensures.value ∙ c.if-is_err.false) c.try_extend_from_slice.ensures.ok
    ∙ ap (λ l. c.parts.answer.items ++ l) c.split_at.ensures.front in
    let takes = takes_more _ _ _ c.parts.answer.items _ bytes c.parts.invariant.0 c.in_ok-more.ensures.read.0 grows in
    let never : NeverBegins bytes = subst NeverBegins c.as_slice.ensures.value c.in-Err.ensures.strange.1 in
    is_none _ _ bytes takes (λ body. strange_is_no_answer bytes body never)

pub parts-preserved-in_default : goal.parts-preserved-in_default
parts-preserved-in_default g c =
    let bytes = c.try_extend_from_slice.new.self.items in
    let grows : bytes ≡ c.parts.answer.items ++ take c.in_ok-more.more c.read_some.new.into =
    ok_holds c.try_extend_from_slice.result (sym c.is_err.ensures.value ∙ c.if-is_err.false) c.try_extend_from_slice.ensures.ok
    ∙ ap (λ l. c.parts.answer.items ++ l) c.split_at.ensures.front in
    let takes = takes_more _ _ _ c.parts.answer.items _ bytes c.parts.invariant.0 c.in_ok-more.ensures.read.0 grows in
    let early : MayBegin bytes = subst MayBegin c.as_slice.ensures.value (rw c.in_default.is at c.in-Ok.ensures.unfinished) in
    (takes, (λ body. open_is_no_answer bytes body early), Keeps-trans _ _ _ c.parts.invariant.2 c.in_ok-more.ensures.left)

pub parts-preserved : goal.parts-preserved
parts-preserved g c =
    let bytes = c.try_extend_from_slice.new.self.items in
    let grows : bytes ≡ c.parts.answer.items ++ take c.in_ok-more.more c.read_some.new.into =
    ok_holds c.try_extend_from_slice.result (sym c.is_err.ensures.value ∙ c.if-is_err.false) c.try_extend_from_slice.ensures.ok
    ∙ ap (λ l. c.parts.answer.items ++ l) c.split_at.ensures.front in
    let takes = takes_more _ _ _ c.parts.answer.items _ bytes c.parts.invariant.0 c.in_ok-more.ensures.read.0 grows in
    let head = c.in-Some.head in
    let begins : IsHeadOf bytes head = subst (λ l. IsHeadOf l head) c.as_slice.ensures.value (rw c.in-Some.is at c.in-Ok.ensures.said) in
    let size : c.len.result ≡ length bytes = c.len.ensures.value in
    (takes, (λ body. other_size_is_no_answer bytes body head begins (λ same. c.if-body-head-2.false (omega (arith, size, same)))), Keeps-trans _ _ _ c.parts.invariant.2 c.in_ok-more.ensures.left)

pub returns-clause-none : goal.returns-clause-none
returns-clause-none g c = is_none _ _ c.parts.answer.items c.parts.invariant.0 c.parts.invariant.1
