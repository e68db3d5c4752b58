use Rattle.std.proofs.Common.{sym, ◌∙◌}
use Rattle.qn_audit.proofs.OneWords.{one_word-alone, one_word-spaced, one_word-unspaced}
use Rattle.qn_audit.proofs.log_word.expect_one_word.Goals as goal

pub returns-then-has_no_space-clause-one : goal.returns-then-has_no_space-clause-one
returns-then-has_no_space-clause-one c = one_word-alone c.args.text.now (c.requires c.if-has_no_space.true)

pub returns-then-has_space-clause-more : goal.returns-then-has_space-clause-more
returns-then-has_space-clause-more c = one_word-spaced c.args.text.now (sym c.has_space.ensures ∙ c.if-has_space.true)

pub returns-clause-one : goal.returns-clause-one
returns-clause-one c = one_word-unspaced c.args.text.now (sym c.has_space.ensures ∙ c.if-has_space.false)
