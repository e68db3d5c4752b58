use Rattle.qn_replay.proofs.RunTraces.{traces_are_runs}
use Rattle.qn_replay.proofs.rows.law_one_holder.Goals as goal

pub returns : goal.returns
returns c = traces_are_runs (record {
  valid = c.law_valid_settings.ensures;
  spelled = c.law_event_lines.ensures;
  one_holder = c.law_no_two_holders.ensures.reported;
})
