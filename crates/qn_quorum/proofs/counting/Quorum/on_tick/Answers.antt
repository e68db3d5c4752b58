use Rattle.std.proofs.Common.{arith}
use Rattle.qn_quorum.proofs.EntryByEntry.{tick_stands}
use Rattle.qn_quorum.proofs.counting.Quorum.on_tick.Goals as goal

pub returns : goal.returns
returns c = λ s votes stands.
    rw c.ask_last_man.ensures (tick_stands c.args.self.now s c.args.tick votes (omega arith) stands)
