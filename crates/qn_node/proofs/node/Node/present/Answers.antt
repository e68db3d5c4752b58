use Rattle.std.proofs.Common.{ap, ◌∙◌}
use Rattle.std.specs.Option.{option_map}
use Rattle.qn_model.specs.NodeVotes.{install, votes}
use Rattle.qn_model.specs.Votes.{present_view}
use Rattle.qn_node.proofs.Presence.{view_count-votes}
use Rattle.qn_node.proofs.node.Node.present.Goals as goal

pub returns : goal.returns
returns c = λ s me log h.
    c.present.ensures s (votes log) h.counts
    ∙ ap (λ number. option_map (λ view. (number, view)) (present_view (votes log))) (view_count-votes log)
    ∙ ap (option_map (λ view. (install log, view))) (c.law_present_view.ensures log)
