use Rattle.std.proofs.Common.{refl}
use Rattle.qn_model.specs.declared.events.Event.TheVariants as event
use Rattle.qn_world.proofs.RuleSteps.{rank_few}
use Rattle.qn_world.proofs.EventSteps.{operator_stepped}
use Rattle.qn_world.proofs.state.State.operate.Goals as goal

pub set_mailbox-requires : goal.set_mailbox-requires
set_mailbox-requires c = rank_few c.args.self.now (event.Operator c.args.i c.args.message) c.args.i c.requires.standing c.requires.formed refl

pub returns : goal.returns
returns c =
    operator_stepped c.args.self.now c.set_mailbox.new.self c.args.i c.args.message c.set_mailbox.ensures
