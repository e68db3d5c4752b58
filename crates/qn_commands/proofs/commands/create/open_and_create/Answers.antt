use Rattle.qn_image.specs.Writes.{create_plan}
use Rattle.qn_image.specs.Joining.{faulted, went_on}
use Rattle.qn_commands.specs.Images.{open_plan, opened_plan}
use Rattle.qn_commands.proofs.commands.create.open_and_create.Goals as goal

pub returns-in-Ok-clause-did : goal.returns-in-Ok-clause-did
unfolding opened_plan
returns-in-Ok-clause-did g c = went_on (open_plan c.args.image.now) (λ opened. (create_plan c.args.settings.now.nodes c.args.timing)) c.in-Ok.ensures.did c.create.ensures.did

pub returns-in-Err-clause-did : goal.returns-in-Err-clause-did
unfolding opened_plan
returns-in-Err-clause-did g c = faulted (open_plan c.args.image.now) (λ opened. (create_plan c.args.settings.now.nodes c.args.timing)) c.in-Err.ensures.did
