use Rattle.qn_running.proofs.NodeRuns.{ranked, works_ran, works_unknown, works_unopened}
use Rattle.qn_running.proofs.commands.node.open_and_run.Goals as goal

pub returns-in_default-clause-works : goal.returns-in_default-clause-works
returns-in_default-clause-works g c = λ input.
    works_unknown c.args.images c.args.words.now c.args.text.now.polls c.args.text.now.settings input _ _ _ _ (ranked c.args.text.now.settings c.args.words.now.id _ _ c.from.ensures c.in_default.ensures.unnamed) c.refuse.ensures.refuses

pub returns-in-Ok-clause-works : goal.returns-in-Ok-clause-works
returns-in-Ok-clause-works g c = λ input.
    works_ran c.args.images c.args.words.now c.args.text.now.polls c.args.text.now.settings input _ _ c.in-Some.rank.0 (ranked c.args.text.now.settings c.args.words.now.id _ _ c.from.ensures c.in-Some.ensures.named) _ _ _ _ c.run-end.result
    c.run-end.ensures.did.0 c.in-Ok.ensures.opened c.run-end.ensures.did.1 c.finish_node.ensures.says

pub returns-in-Err-clause-works : goal.returns-in-Err-clause-works
returns-in-Err-clause-works g c = λ input.
    works_unopened c.args.images c.args.words.now c.args.text.now.polls c.args.text.now.settings input _ _ c.in-Some.rank.0 (ranked c.args.text.now.settings c.args.words.now.id _ _ c.from.ensures c.in-Some.ensures.named) _ _ _
    c.in-Err.ensures.failed c.refuse-in-Err.ensures.refuses
