use Rattle.std.proofs.Common.{◌∙◌, ◌++◌, ap, sym}
use Rattle.qn_model.specs.Settings.{ids}
use Rattle.qn_sched.specs.EventLines.{event_line}
use Rattle.qn_sched.proofs.event_text.add_event.Goals as goal

pub returns-in-BootClean : goal.returns-in-BootClean
unfolding event_line
returns-in-BootClean c =
    c.add_numbered-in-BootClean.ensures.text
    ∙ ap (λ e. c.args.into.now.items ++ event_line (ids c.args.nodes.now) e) (sym c.in-BootClean.is)
