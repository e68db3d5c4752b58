use Rattle.std.proofs.Common.{inr}
use Rattle.qn_running.proofs.PolledTexts.{names_none}
use Rattle.qn_running.proofs.node_text.polls_of.Goals as goal

pub returns : goal.returns
returns c = inr (names_none _ _ c.device_of.result _ c.in-Ok.ensures.answer c.device_of.ensures.host c.names_arbiter.ensures.none c.if-names_arbiter.false)
