use Rattle.qn_replay.specs.BesideEndings.{replay_fits}
use Rattle.qn_replay.proofs.laws.law_arbiter_ending.Goals as goal

pub returns : goal.returns
returns c = replay_fits
