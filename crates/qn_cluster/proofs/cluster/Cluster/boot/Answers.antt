use Rattle.qn_cluster.proofs.PassSteps.{boot_stepped}
use Rattle.qn_cluster.proofs.cluster.Cluster.boot.Goals as goal

pub returns : goal.returns
returns c =
    boot_stepped c.args.self.now c.boot_seat.new.self c.args.i.0 c.args.base c.args.clean c.boot_seat.ensures.0 c.boot_seat.new.outs c.requires.within
    c.requires.few c.requires.early c.boot_seat.ensures.1 c.boot_seat.ensures.2
