-- The last world of a replay, and why a replay ran out of memory.
use Rattle.std.specs.Prelude.{◌≡◌, ◌≤◌, ◌⊎◌, ℕ, length, List, [], ◌++◌, Option, Some, Result, Ok, Err}
use Rattle.qn_world.specs.Standing.{WorldFor}
use Rattle.qn_world.specs.Whole.{Whole}
use Rattle.std.specs.Io.KnownBytes.{IsAtEnd, prepend_known}
use Rattle.qn_playback.specs.Replays as kinds
use Rattle.qn_io.specs.declared.buffered.TheConstants.{PIECE}
use Rattle.qn_model.specs.Inputs.{Tells}
use Rattle.qn_model.specs.World.{World}
use Rattle.qn_playback.specs.Reading.{IsNeeded}
use Rattle.qn_playback.specs.Worlds.{Progress}
use Rattle.qn_sched.specs.declared.replay_end.ReplayEnd.{ReplayEnd}
use Rattle.qn_sched.specs.declared.replay_end.ReplayEnd.TheVariants.{Done, BadConf, BadSettings, BadSchedule, NotAllowed, ReadFault, WriteFault, UnsafeTiming, UnsafeLease, NoMemory}
use Rattle.qn_replay.specs.Replay.{Replayed, image_replay, replay_of}

-- Why it ran out of memory after a trace: nothing was written yet; or the event after those whose lines were written adds a packet or a
-- leftover to the world.
abbrev pub WantsMemory : List ℕ → List ℕ → Type 0
WantsMemory = kinds.WantsMemory image_replay

-- an end that is a fault of the input, or out of memory
abbrev pub IsFault : ReplayEnd → Type 0
IsFault (Done events) = ⊥
IsFault (BadConf fault) = Unit {0}
IsFault (BadSettings fault) = Unit {0}
IsFault (BadSchedule line fault) = Unit {0}
IsFault (NotAllowed line rule) = Unit {0}
IsFault ReadFault = Unit {0}
IsFault WriteFault = ⊥
IsFault (UnsafeTiming timing) = Unit {0}
IsFault (UnsafeLease timeout limit lease) = ⊥
IsFault NoMemory = Unit {0}

-- a world after the last event of a replay that ended well
pub record IsLast (answer : Replayed) (world : Whole) : Type 0 where
  pub events : ℕ
  pub so_far : Progress World
  pub ends : answer.end ≡ Done events
  pub last : answer.last ≡ Some so_far
  pub settings : world.settings ≡ so_far.settings
  pub timing : world.timing ≡ so_far.timing
  pub stands : WorldFor world so_far.world

-- the world after the last event, or else the end of the replay
abbrev pub GivesWorld : Result Whole ReplayEnd → Replayed → Type 0
GivesWorld (Ok world) answer = IsLast answer world
GivesWorld (Err end) answer = (answer.end ≡ end) × IsFault end

-- Bytes were taken, none more than the end needs, and tell of the last world or of the end; or it ran out of memory. What was read after
-- them is of one piece, and was not looked at.
pub record Reaches (left_old left_new : Option (List ℕ)) (read_failed : Type 0) (result : Result Whole ReplayEnd) : Type 0 where
  pub taken : List ℕ
  pub waiting : List ℕ
  pub takes : left_old ≡ prepend_known (taken ++ waiting) left_new
  pub needed : IsNeeded replay_of taken
  pub within : length waiting ≤ PIECE
  pub ends : (result ≡ Err NoMemory) ⊎ Tells replay_of taken ((waiting ≡ []) × IsAtEnd left_new) ((waiting ≡ []) × read_failed) (GivesWorld result)
