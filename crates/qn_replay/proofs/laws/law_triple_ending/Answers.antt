use Rattle.qn_replay.specs.TripleEndings.{replay3_fits}
use Rattle.qn_replay.proofs.laws.law_triple_ending.Goals as goal

pub returns : goal.returns
returns c = replay3_fits
