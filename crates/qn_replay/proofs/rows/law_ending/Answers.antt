use Rattle.qn_replay.specs.Endings.{replay_fits}
use Rattle.qn_replay.proofs.rows.law_ending.Goals as goal

pub returns : goal.returns
returns c = replay_fits
