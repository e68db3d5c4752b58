use Rattle.qn_replay.proofs.TripleTraces.{traces_are_runs}
use Rattle.qn_replay.proofs.laws.law_triple_one_holder.Goals as goal

pub returns : goal.returns
returns c = traces_are_runs (record {
  valid = c.law_valid_settings.ensures;
  formed = c.law_triple_lines.ensures;
  one_holder = c.law_triple_no_two_holders.ensures.reported;
})
