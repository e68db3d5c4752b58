use Rattle.std.proofs.Common.{ap, ◌∙◌, sym, subst}
use Rattle.qn_model.specs.Moments.{node}
use Rattle.qn_model.specs.Steps.{answer_now}
use Rattle.qn_cluster.specs.Seats.{SeatFor}
use Rattle.qn_cluster.proofs.cluster.Cluster.answer.Goals as goal

pub returns : goal.returns
returns c = λ d is.
    let rank = c.args.i.0 in
    let seat = c.seat.result.now in
    let same = ap (λ w. w.settings) c.self.view_is in
    c.answer.ensures rank (node c.self.inside.settings rank d)
    (subst (λ s. SeatFor seat s rank (node s rank d)) (sym same) (is.nodes rank seat c.seat.ensures))
    ∙ ap (λ s. answer_now s (node s rank d)) same
