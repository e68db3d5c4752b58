use Rattle.std.proofs.Common.{◌∙◌, ◌∷◌, ap, sym, Err, option_copied}
use Rattle.std.proofs.lemmas.Result.{err_from_is_err_and}
use Rattle.qn_model.specs.Lines.{two_words}
use Rattle.qn_sched.specs.Words.{parts_left}
use Rattle.qn_sched.proofs.PartsLemmas.{two_words-more}
use Rattle.qn_sched.proofs.words.two_words.Goals as goal

pub returns-in_err-no_more_words-clause-fault : goal.returns-in_err-no_more_words-clause-fault
returns-in_err-no_more_words-clause-fault c =
    let exit = err_from_is_err_and c.from_residual-in_err-no_more_words.result c.from_residual-in_err-no_more_words.ensures.1 in
    rw (exit.1, exit.2) (
    ap two_words (c.in_ok-first.ensures.word ∙ ap (λ words. c.in_ok-first.first.now ∷ words) c.in_ok-second.ensures.word)
    ∙ two_words-more c.in_ok-first.first.now c.in_ok-second.second.now (parts_left 32 (option_copied c.in_ok-second.rest)) c.in_err-no_more_words.ensures.some
    ∙ ap Err (sym c.in_err-no_more_words.ensures.fault))
