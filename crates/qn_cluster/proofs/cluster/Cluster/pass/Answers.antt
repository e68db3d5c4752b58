use Rattle.qn_cluster.proofs.PassSteps.{fits_pass, pass_stepped}
use Rattle.qn_cluster.proofs.RuleSteps.{few_seats}
use Rattle.qn_cluster.proofs.cluster.Cluster.pass.Goals as goal

pub advance-requires : goal.advance-requires
advance-requires c =
    record {
      short = c.requires.short;
      few = few_seats c.args.self.now (c.requires.allowed.world.moments, c.requires.allowed.stands);
      fits = fits_pass c.args.self.now c.args.dt c.args.clocks.now c.requires.short c.requires.early c.requires.allowed;
    }

pub returns : goal.returns
returns c =
    pass_stepped c.args.self.now c.advance.new.self c.add_time.new.self c.args.dt c.args.clocks.now c.advance.ensures.rest c.advance.ensures.count c.advance.ensures.seats
    c.add_time.ensures
