use Rattle.std.proofs.Common.{◌∙◌, ◌∷◌, ap, sym, Err, option_copied}
use Rattle.std.proofs.lemmas.Result.{err_from_is_err_and}
use Rattle.qn_sched.specs.Words.{parts_left}
use Rattle.qn_sched.specs.TimingLine.{times_of_words}
use Rattle.qn_sched.proofs.TimingSpelling.{times_of_words-more}
use Rattle.qn_sched.proofs.timing_line.read_words.Goals as goal

pub returns-in_err-no_more_words : goal.returns-in_err-no_more_words
returns-in_err-no_more_words c =
    let exit = err_from_is_err_and c.from_residual-in_err-no_more_words.result c.from_residual-in_err-no_more_words.ensures.1 in
    let a = c.in_ok-watchdog.watchdog.now in
    let b = c.in_ok-msgwait.msgwait.now in
    let d = c.in_ok-loop_ms.loop_ms.now in
    let e = c.in_ok-read_limit.read_limit.now in
    let f = c.in_ok-feed_delay.feed_delay.now in
    rw (exit.1, exit.2) (sym (
    ap times_of_words (c.in_ok-watchdog.ensures.word ∙ ap (λ words. a ∷ words) (c.in_ok-msgwait.ensures.word ∙ ap (λ words. b ∷ words) (c.in_ok-loop_ms.ensures.word ∙ ap (λ words. d ∷ words) (c.in_ok-read_limit.ensures.word ∙ ap (λ words. e ∷ words) c.in_ok-feed_delay.ensures.word))))
    ∙ times_of_words-more a b d e f (parts_left 32 (option_copied c.in_ok-feed_delay.rest)) c.in_err-no_more_words.ensures.some
    ∙ ap Err (sym c.in_err-no_more_words.ensures.fault)))
