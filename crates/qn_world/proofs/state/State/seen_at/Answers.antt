use Rattle.std.proofs.Common.{◌≡◌, ap}
use Rattle.qn_cluster.specs.Seen.{phase_now}
use Rattle.qn_cluster.specs.WorldStepLaws.{of_same_nodes}
use Rattle.qn_model.specs.Moments.{is_holder, node}
use Rattle.qn_model.specs.Steps.{answer_now, why_now}
use Rattle.qn_world.specs.Whole.{cluster_of}
use Rattle.qn_world.proofs.Looks.{seen-parts}
use Rattle.qn_world.proofs.state.State.seen_at.Goals as goal

pub returns : goal.returns
returns c = λ d is.
    let rank = c.args.i.0 in
    let s = c.args.self.now.settings in
    let nodes = ap cluster_of c.self.view_is in
    let lives = of_same_nodes (λ n moments. c.phase.result ≡ phase_now n.settings (node n.settings rank moments)) nodes c.phase.ensures d.moments is.cluster in
    let counts = of_same_nodes (λ n moments. c.answer-count.result ≡ answer_now n.settings (node n.settings rank moments)) nodes c.answer-count.ensures d.moments is.cluster in
    let lacks = of_same_nodes (λ n moments. c.answer-count.result ≡ answer_now n.settings (node n.settings rank moments)
    → c.why.result ≡ why_now n.settings rank (node n.settings rank moments)) nodes c.why.ensures d.moments is.cluster counts in
    let holds = of_same_nodes (λ n moments. c.holds.result ≡ is_holder n.settings moments rank) nodes c.holds.ensures d.moments is.cluster in
    seen-parts s rank d c.pending_at-pending.result c.phase.result c.left_of.result c.answer-count.result c.why.result c.holds.result (c.pending_at-pending.ensures d is)
    lives (c.left_of.ensures d is) counts lacks holds
