use Rattle.qn_image.specs.Plans.{message_plan}
use Rattle.qn_image.specs.Joining.{faulted, went_on}
use Rattle.qn_commands.specs.Images.{open_plan, opened_plan}
use Rattle.qn_commands.proofs.commands.message.open_and_send.Goals as goal

pub returns-in-Ok-clause-did : goal.returns-in-Ok-clause-did
unfolding opened_plan
returns-in-Ok-clause-did g c = went_on (open_plan c.args.image.now) (λ opened. (message_plan c.args.id c.args.kind)) c.in-Ok.ensures.did c.message.ensures.did

pub returns-in-Err-clause-did : goal.returns-in-Err-clause-did
unfolding opened_plan
returns-in-Err-clause-did g c = faulted (open_plan c.args.image.now) (λ opened. (message_plan c.args.id c.args.kind)) c.in-Err.ensures.did
