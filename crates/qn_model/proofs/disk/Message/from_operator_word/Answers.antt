use Rattle.qn_model.specs.declared.disk.Message.TheVariants.{Empty, Test, Reset, Off, Exit, Crashdump}
use Rattle.qn_model.proofs.disk.Message.from_operator_word.Goals as goal

pub returns-in_default-clause-every : goal.returns-in_default-clause-every
returns-in_default-clause-every c Empty is_word = absurd (c.in_default.not-clear is_word)
returns-in_default-clause-every c Test is_word = c.from_name.ensures.every Test is_word
returns-in_default-clause-every c Reset is_word = c.from_name.ensures.every Reset is_word
returns-in_default-clause-every c Off is_word = c.from_name.ensures.every Off is_word
returns-in_default-clause-every c Exit is_word = c.from_name.ensures.every Exit is_word
returns-in_default-clause-every c Crashdump is_word = c.from_name.ensures.every Crashdump is_word
