use Rattle.qn_running.proofs.NodeLogging.{logs_unknown, logs_unopened}
use Rattle.qn_running.proofs.NodeRuns.{ranked}
use Rattle.qn_running.proofs.commands.node_logged.open_and_record.Goals as goal

pub returns-in_default-clause-works : goal.returns-in_default-clause-works
returns-in_default-clause-works g c = λ input.
    logs_unknown c.args.images c.args.words.now c.args.text.now.polls c.args.text.now.settings input _ _ _ _ (ranked c.args.text.now.settings c.args.words.now.id _ _ c.from.ensures c.in_default.ensures.unnamed) c.refuse.ensures.refuses

pub returns-in-Ok-clause-works : goal.returns-in-Ok-clause-works
returns-in-Ok-clause-works g c = λ input. c.run_and_finish.ensures.works input _ c.in-Ok.ensures.opened (ranked c.args.text.now.settings c.args.words.now.id _ _ c.from.ensures c.in-Some.ensures.named)

pub returns-in-Err-clause-works : goal.returns-in-Err-clause-works
returns-in-Err-clause-works g c = λ input.
    logs_unopened c.args.images c.args.words.now c.args.text.now.polls c.args.text.now.settings input _ _ c.in-Some.rank.0 (ranked c.args.text.now.settings c.args.words.now.id _ _ c.from.ensures c.in-Some.ensures.named) _ _ _
    c.in-Err.ensures.failed c.refuse-in-Err.ensures.refuses
