use Rattle.qn_replay.proofs.BesideTraces.{traces_are_runs}
use Rattle.qn_replay.proofs.laws.law_arbiter_traces.Goals as goal

pub returns : goal.returns
returns c = traces_are_runs (record {
  valid = c.law_valid_settings.ensures;
  spelled = c.law_arbiter_lines.ensures;
  one_holder = c.law_one_holder_beside.ensures;
})
