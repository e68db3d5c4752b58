use Rattle.qn_image.specs.Migration.{migrate_plan}
use Rattle.qn_image.specs.Joining.{faulted, went_on}
use Rattle.qn_commands.specs.Images.{open_plan, opened_plan}
use Rattle.qn_commands.proofs.commands.migrate.open_and_migrate.Goals as goal

pub returns-in-Ok-clause-did : goal.returns-in-Ok-clause-did
unfolding opened_plan
returns-in-Ok-clause-did g c = went_on (open_plan c.args.image.now) (λ opened. migrate_plan) c.in-Ok.ensures.did c.migrate.ensures.did

pub returns-in-Err-clause-did : goal.returns-in-Err-clause-did
unfolding opened_plan
returns-in-Err-clause-did g c = faulted (open_plan c.args.image.now) (λ opened. migrate_plan) c.in-Err.ensures.did
