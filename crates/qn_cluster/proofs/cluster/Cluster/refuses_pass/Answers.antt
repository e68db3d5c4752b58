use Rattle.std.proofs.Common.{◌∙◌, ◌≡◌, ap, sym, length, ◌&&◌}
use Rattle.std.specs.List.{list_all, range_with_len}
use Rattle.qn_model.specs.Rules.{unless}
use Rattle.qn_cluster.specs.Tests.{on_at, passes_at}
use Rattle.qn_cluster.proofs.RuleSteps.{both_tests, clock_within, few_seats, first_test, pass_rule, short_pass, short_watchdog}
use Rattle.qn_cluster.proofs.cluster.Cluster.refuses_pass.Goals as goal
use Rattle.qn_cluster.proofs.cluster.Cluster.refuses_pass.Goals.{then-are_on, else-are_on}

pub are_on-requires : goal.are_on-requires
are_on-requires c = λ place clock here. clock_within c.args.self.now c.args.dt c.args.clocks.now place clock c.requires.standing c.requires.formed here

pub all_pass-requires : goal.all_pass-requires
all_pass-requires c =
    record {
      short = short_pass c.args.self.now.settings c.args.dt c.args.clocks.now c.requires.formed;
      early = c.requires.early;
      period = short_watchdog c.args.timing.now c.requires.safe;
      few = few_seats c.args.self.now c.requires.standing;
    }

pub returns : goal.returns
returns c d is =
    let w = c.args.self.now in
    let on = list_all (λ clock. on_at w clock.0.0) c.args.clocks.now in
    let lives = list_all (passes_at c.args.timing.now.watchdog w c.args.dt c.args.clocks.now) (range_with_len 0 (length w.seats)) in
    let both : c.if-are_on.unless ≡ (on && lives) =
    elim c.if-are_on.branch [
      | then-are_on b ↦ both_tests c.if-are_on.unless on lives (sym c.are_on.ensures ∙ b.if-are_on.true) (b.unless-is ∙ b.all_pass.ensures)
      | else-are_on b ↦ first_test c.if-are_on.unless on lives (sym c.are_on.ensures ∙ b.if-are_on.false) (b.unless-is ∙ b.if-are_on.false)
    ] in
    c.unless.ensures ∙ ap (λ b. unless b 1) (both ∙ pass_rule w c.args.timing.now d c.args.dt c.args.clocks.now is c.requires.formed)
