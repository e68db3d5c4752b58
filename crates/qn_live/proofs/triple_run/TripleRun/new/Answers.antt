use Rattle.std.proofs.Common.{ap, refl}
use Rattle.qn_live.specs.Runs.{live_plan}
use Rattle.qn_live.specs.TripleRuns.{all_good, triple_plan}
use Rattle.qn_live.proofs.Turning.{fresh_stands}
use Rattle.qn_live.proofs.triple_run.TripleRun.new.Goals as goal

pub returns : goal.returns
unfolding triple_plan
returns c = record {
  stands =
      fresh_stands _ c.args.settings c.args.me.0 all_good _ (live_plan c.args.settings c.args.me.0 c.args.clean c.args.leave_at c.args.polls c.args.turns)
      c.new.ensures.settings (ap (λ r. r.0) c.new.ensures.rank) refl refl refl c.new.ensures.runs refl;
  settled = λ op found reads. refl;
}
