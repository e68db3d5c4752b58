use Rattle.std.proofs.Common.{◌≡◌, [], drop, sym, ap, subst, ◌∙◌, refl}
use Rattle.std.specs.Str.{IsUtf8}
use Rattle.qn_etcd.specs.HeadLaws.{nothing_is_no_answer, one_body, other_code_is_no_answer}
use Rattle.qn_exchange.proofs.Answering.{all_sent_then, at_err, is_none, kept_before, none_before, none_of_kept}
use Rattle.qn_exchange.proofs.etcd_exchange.exchange.Goals as goal

pub returns-in_err-send-clause-unanswered : goal.returns-in_err-send-clause-unanswered
returns-in_err-send-clause-unanswered g c =
    at_err _ c.from_residual.result (none_of_kept _ _ c.in_err-send.ensures.left (λ body. nothing_is_no_answer [] body refl))

pub returns-in_err-head-clause-unsent : goal.returns-in_err-head-clause-unsent
returns-in_err-head-clause-unsent g c =
    at_err _ c.from_residual-in_err-head.result
    (all_sent_then _ _ _ c.args.request.now c.in_ok-send.ensures.sent c.in_err-head.ensures.left)

pub returns-in_err-head-clause-unanswered : goal.returns-in_err-head-clause-unanswered
returns-in_err-head-clause-unanswered g c =
    at_err _ c.from_residual-in_err-head.result (none_before _ _ _ c.in_ok-send.ensures.left c.in_err-head.ensures.none)

pub returns-then-head-ne-OK-clause-unsent : goal.returns-then-head-ne-OK-clause-unsent
returns-then-head-ne-OK-clause-unsent g c =
    all_sent_then _ _ _ c.args.request.now c.in_ok-send.ensures.sent c.in_ok-head.ensures.left

pub returns-then-head-ne-OK-clause-unanswered : goal.returns-then-head-ne-OK-clause-unanswered
returns-then-head-ne-OK-clause-unanswered g c =
    let bytes = c.read_answer.new.answer.items in
    is_none _ _ bytes (kept_before _ _ _ bytes c.in_ok-send.ensures.left c.in_ok-head.ensures.taken)
    (λ body. other_code_is_no_answer bytes body c.in_ok-head.head c.in_ok-head.ensures.whole.begins c.if-head-ne-OK.true)

pub returns-in-Err-clause-unsent : goal.returns-in-Err-clause-unsent
returns-in-Err-clause-unsent g c =
    all_sent_then _ _ _ c.args.request.now c.in_ok-send.ensures.sent c.in_ok-head.ensures.left

pub returns-in-Err-clause-unanswered : goal.returns-in-Err-clause-unanswered
returns-in-Err-clause-unanswered g c =
    let bytes = c.read_answer.new.answer.items in
    let head = c.in_ok-head.head in
    let back : c.split_at.result.1.now ≡ drop head.body bytes = c.split_at.ensures.back ∙ ap (drop head.body) c.as_slice.ensures.value in
    record {
      bytes = bytes;
      takes = kept_before _ _ _ bytes c.in_ok-send.ensures.left c.in_ok-head.ensures.taken;
      none = λ body short text answer.
          c.in-Err.ensures.cases.0 (subst IsUtf8 (sym (back ∙ one_body bytes body head c.in_ok-head.ensures.whole.begins answer)) text);
    }
