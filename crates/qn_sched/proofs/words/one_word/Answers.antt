use Rattle.std.proofs.Common.{◌∙◌, ap, sym, Err, option_copied}
use Rattle.std.proofs.lemmas.Result.{err_from_is_err_and}
use Rattle.qn_sched.specs.Words.{one_word, parts_left}
use Rattle.qn_sched.proofs.PartsLemmas.{one_word-more}
use Rattle.qn_sched.proofs.words.one_word.Goals as goal

pub returns-in_err-no_more_words-clause-fault : goal.returns-in_err-no_more_words-clause-fault
returns-in_err-no_more_words-clause-fault c =
    let exit = err_from_is_err_and c.from_residual-in_err-no_more_words.result c.from_residual-in_err-no_more_words.ensures.1 in
    rw (exit.1, exit.2) (
    ap one_word c.in_ok-word.ensures.word
    ∙ one_word-more c.in_ok-word.word.now (parts_left 32 (option_copied c.in_ok-word.rest)) c.in_err-no_more_words.ensures.some
    ∙ ap Err (sym c.in_err-no_more_words.ensures.fault))
