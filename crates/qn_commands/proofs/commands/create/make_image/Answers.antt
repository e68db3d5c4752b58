use Rattle.std.proofs.Common.{ap, sym, ◌∙◌, length}
use Rattle.qn_commands.specs.Faults.{fault_line, status_of}
use Rattle.qn_commands.specs.ImageTexts.{created_text}
use Rattle.qn_commands.specs.Commands.Create.{create_end, image_work}
use Rattle.qn_commands.specs.Works.{Last, refusal}
use Rattle.qn_commands.specs.WorkSteps.{plan_then_last}
use Rattle.qn_commands.proofs.commands.create.make_image.Goals as goal

pub returns-in-Ok-clause-works : goal.returns-in-Ok-clause-works
unfolding image_work
returns-in-Ok-clause-works g c = λ input.
    plan_then_last (create_end (length c.args.settings.now.nodes)) input _ _ _ _ c.created_text.result 0 _ c.in-Ok.ensures.did (ap (λ t. Last t 0) (sym (c.created_text.ensures ∙ ap created_text c.len.ensures.value))) c.say.ensures.says

pub returns-in-Err-clause-works : goal.returns-in-Err-clause-works
unfolding image_work
returns-in-Err-clause-works g c = λ input.
    plan_then_last (create_end (length c.args.settings.now.nodes)) input _ _ _ _ (fault_line c.of_disk.result) (status_of c.of_disk.result) _ c.in-Err.ensures.did (ap refusal (sym c.of_disk.ensures)) c.refuse.ensures.refuses
