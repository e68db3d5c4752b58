use Rattle.qn_triple.proofs.EventSteps.{operator_stepped}
use Rattle.qn_triple.proofs.RuleSteps.{few, operator_image, operator_rank}
use Rattle.qn_triple.proofs.state.State.operate.Goals as goal

pub set_mailbox-requires : goal.set_mailbox-requires
set_mailbox-requires c =
    record {
      standing = c.requires.standing;
      within = few c.args.self.now c.args.i.0 c.requires.standing (operator_rank c.args.self.now.settings c.args.i c.args.image c.args.message c.requires.formed);
      image = operator_image c.args.self.now.settings c.args.i c.args.image c.args.message c.requires.formed;
    }

pub returns : goal.returns
returns c = operator_stepped c.args.self.now c.set_mailbox.new.self c.args.i c.args.image c.args.message c.set_mailbox.ensures
