use Rattle.std.proofs.Common.{arith}
use Rattle.qn_quorum.proofs.EntryByEntry.{device_stands}
use Rattle.qn_quorum.proofs.counting.Quorum.on_device.Goals as goal

pub returns : goal.returns
returns c = λ s votes stands.
    rw (c.ask_last_man.ensures, c.hear_device.ensures) (device_stands c.args.self.now s c.args.tick c.args.yes votes (omega arith) stands)
