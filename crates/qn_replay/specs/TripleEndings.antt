-- How the end of a replay of three images and the way in which its input ended belong together.
use Rattle.std.specs.Prelude.{ℕ, List}
use Rattle.qn_playback.specs.HeadLaws.{head_fits}
use Rattle.qn_playback.specs.ReplayLaws.{answer_fits}
use Rattle.qn_model.specs.Lines.{Ending}
use Rattle.qn_playback.specs.Endings.{EndFits}
use Rattle.qn_replay.specs.TripleReplay.{replay3_of, triple_replay}

-- the end of a replay fits the way in which the input ended
pub replay3_fits : (ending : Ending) (bytes : List ℕ) → EndFits (replay3_of ending bytes).end ending
replay3_fits ending bytes = answer_fits triple_replay ⊥ head_fits ending bytes

-- the law, for a clause
abbrev pub Replay3Fits : Type 0
Replay3Fits = (ending : Ending) (bytes : List ℕ) → EndFits (replay3_of ending bytes).end ending
