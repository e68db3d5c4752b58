use Rattle.std.proofs.Common.{[], Option, option_map, refl, ap, sym, ◌-◌, ◌∙◌}
use Rattle.qn_base.specs.Plans.{◌>>=◌}
use Rattle.qn_polls.specs.Poller.{poller_of}
use Rattle.qn_safety.specs.Poller.{Poller}
use Rattle.qn_live.specs.declared.words.Words.{Words}
use Rattle.qn_live.specs.declared.place.Choice.TheVariants as choice
use Rattle.qn_live.specs.Running.{first_state, later}
use Rattle.qn_live.specs.Runs.{run_plan, timed}
use Rattle.qn_live.proofs.Joining.{live_left}
use Rattle.qn_live.proofs.run.NodeRun.new.Goals as goal

pub returns-clause-runs : goal.returns-clause-runs
returns-clause-runs c = record {
  log = [];
  stands = record { valid = c.requires.valid; stands = c.new-node.ensures.stands; at = refl };
  more = tt;
  is_left =
      live_left c.args.settings c.args.me.0 c.args.clean c.args.leave_at c.args.polls c.args.turns c.begin.result c.begin.ensures
      ∙ ap
      (λ (poller : Option Poller). timed c.args.settings c.args.me.0 (choice.Whole c.begin.result, record (first_state c.args.polls) { poller = poller }) >>= later (run_plan c.args.settings c.args.me.0 c.args.leave_at 2 (c.args.turns - 1)))
      (sym c.fresh.ensures)
      ∙ ap
      (λ (words : Words). timed c.args.settings c.args.me.0 (choice.Whole c.begin.result, record (first_state c.args.polls) { poller = option_map poller_of c.fresh.result; words = words }) >>= later (run_plan c.args.settings c.args.me.0 c.args.leave_at 2 (c.args.turns - 1)))
      (sym c.none.ensures);
}
