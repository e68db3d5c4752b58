-- How the end of a replay and the way in which its input ended belong together.
use Rattle.std.specs.Prelude.{ℕ, List}
use Rattle.qn_playback.specs.HeadLaws.{head_fits}
use Rattle.qn_playback.specs.ReplayLaws.{answer_fits}
use Rattle.qn_model.specs.Lines.{Ending}
use Rattle.qn_replay.specs.Replay.{image_replay, replay_of}
pub use Rattle.qn_playback.specs.Endings.{EndFits}

-- the end of a replay fits the way in which its input ended
pub replay_fits : (ending : Ending) (bytes : List ℕ) → EndFits (replay_of ending bytes).end ending
replay_fits ending bytes = answer_fits image_replay ⊥ head_fits ending bytes

-- the law, for a clause
abbrev pub ReplayFits : Type 0
ReplayFits = (ending : Ending) (bytes : List ℕ) → EndFits (replay_of ending bytes).end ending
