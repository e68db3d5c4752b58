use Rattle.qn_node.proofs.Stages.{quiet_at, quiet_down}
use Rattle.qn_node.proofs.stage.Stage.why.Goals as goal

pub returns-in_default : goal.returns-in_default
returns-in_default c = λ log h before is.
    let s = c.args.own.now.settings in
    let me = c.args.own.now.me.0 in
    quiet_down s me log c.args.tick (quiet_at c.args.self.now s me log h c.in_default.not-Live)
