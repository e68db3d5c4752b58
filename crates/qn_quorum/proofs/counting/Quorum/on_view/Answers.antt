use Rattle.std.proofs.Common.{arith}
use Rattle.qn_quorum.proofs.EntryByEntry.{view_stands}
use Rattle.qn_quorum.proofs.counting.Quorum.on_view.Goals as goal

pub returns : goal.returns
returns c = λ s votes stands.
    rw (c.ask_last_man.ensures, c.install.ensures) (view_stands c.args.self.now s c.args.tick c.args.view votes (omega arith) stands)
