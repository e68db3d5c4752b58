use Rattle.std.proofs.Common.{ap, sym, ◌∙◌}
use Rattle.std.specs.Prelude.{unwrap_or}
use Rattle.qn_base.specs.lemmas.Bools.{first_of_both}
use Rattle.qn_model.specs.Moments.{tick_of}
use Rattle.qn_model.specs.Phases.{is_up, phase}
use Rattle.qn_cluster.proofs.Looks.{polls_shown}
use Rattle.qn_cluster.proofs.seat.Seat.polls.Goals as goal

pub returns : goal.returns
returns c = λ s me node h.
    let up = sym (c.is_up.ensures s me node h) ∙ c.if-not-is_up.false in
    let runs = h.running (first_of_both node.on (is_up (phase s node.log)) up) in
    polls_shown s node c.tick.result c.unwrap_or-incarnation.result c.in_ok-present.present up
    (c.tick.ensures ∙ ap tick_of runs.clocks)
    (c.unwrap_or-incarnation.ensures ∙ ap (λ number. unwrap_or number 0) (c.incarnation.ensures s me node.log runs.stands))
    (sym (c.present.ensures s me node.log runs.stands) ∙ c.in_ok-present.was)
