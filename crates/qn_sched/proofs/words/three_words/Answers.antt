use Rattle.std.proofs.Common.{◌∙◌, ◌∷◌, ap, sym, Err, option_copied}
use Rattle.std.proofs.lemmas.Result.{err_from_is_err_and}
use Rattle.qn_sched.specs.Words.{parts_left, three_words}
use Rattle.qn_sched.proofs.PartsLemmas.{three_words-more}
use Rattle.qn_sched.proofs.words.three_words.Goals as goal

pub returns-in_err-no_more_words-clause-fault : goal.returns-in_err-no_more_words-clause-fault
returns-in_err-no_more_words-clause-fault c =
    let exit = err_from_is_err_and c.from_residual-in_err-no_more_words.result c.from_residual-in_err-no_more_words.ensures.1 in
    let a = c.in_ok-first.first.now in
    let b = c.in_ok-second.second.now in
    rw (exit.1, exit.2) (
    ap three_words (c.in_ok-first.ensures.word ∙ ap (λ words. a ∷ words) (c.in_ok-second.ensures.word ∙ ap (λ words. b ∷ words) c.in_ok-third.ensures.word))
    ∙ three_words-more a b c.in_ok-third.third.now (parts_left 32 (option_copied c.in_ok-third.rest)) c.in_err-no_more_words.ensures.some
    ∙ ap Err (sym c.in_err-no_more_words.ensures.fault))
