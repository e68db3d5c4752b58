use Rattle.qn_top.proofs.KindWords.{named_kind}
use Rattle.qn_top.proofs.command.kind_named.Goals as goal

pub returns : goal.returns
returns c = named_kind c.args.word.now c.from_operator_word.result c.from_operator_word.ensures.named c.from_operator_word.ensures.every
