use Rattle.std.proofs.Common.{◌^◌, ◌-◌, sym, ◌∙◌}
use Rattle.qn_audit.proofs.OneWords.{number_no_space}
use Rattle.qn_audit.proofs.log_line.read_now.Goals as goal

pub expect_one_word-requires : goal.expect_one_word-requires
expect_one_word-requires c = λ is.
    number_no_space 0 (2 ^ 64 - 1) c.in_ok-text.text.now c.number_between-tick.result c.number_between-tick.ensures.value (sym c.is_ok.ensures.value ∙ is)
