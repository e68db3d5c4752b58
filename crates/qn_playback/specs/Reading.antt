-- How a run takes its input, up to the byte that decides its end.
use Rattle.std.specs.Prelude.{◌≡◌, ℕ, List, [], ◌∷◌, ◌++◌, Option}
use Rattle.std.specs.Io.KnownBytes.{prepend_known}
use Rattle.qn_model.specs.Inputs.{Tells}
use Rattle.qn_model.specs.Lines.{Ending, ReadFailed}
use Rattle.qn_sched.specs.declared.replay_end.ReplayEnd.{ReplayEnd}
use Rattle.qn_sched.specs.declared.replay_end.ReplayEnd.TheVariants.{NoMemory, ReadFault}
use Rattle.qn_playback.specs.Played.{Played, ended, standing_at}

-- what is played of the bytes that are to come
abbrev pub Rest : Type 0 → Type 0
Rest Last = Ending → List ℕ → Played Last

-- the same, with another account of where it stood
abbrev pub placed : {A B : Type 0} → (A → B) → Rest A → Rest B
placed place rest ending more = standing_at place (rest ending more)

-- the bytes leave the end open: a failing read would end it
abbrev pub IsOpen : {Last : Type 0} → Rest Last → List ℕ → Type 0
IsOpen played_of taken = (played_of ReadFailed taken).end ≡ ReadFault

-- no byte was taken that the end does not need: without the last one it is open
pub data IsNeeded {Last : Type 0} (played_of : Rest Last) (taken : List ℕ) : Type 0 where
  StillOpen : IsOpen played_of taken → IsNeeded played_of taken
  LastDecides : (front : List ℕ) (byte : ℕ) → taken ≡ front ++ byte ∷ [] → IsOpen played_of front → IsNeeded played_of taken

-- bytes were taken, and what the whole input gives is what the rest gives from here on
pub record GoesOn {Last : Type 0} (before after : Rest Last) (to_come_old to_come_new : Option (List ℕ)) : Type 0 where
  pub taken : List ℕ
  pub takes : to_come_old ≡ prepend_known taken to_come_new
  pub needed : IsNeeded before taken
  pub rest : (ending : Ending) (more : List ℕ) → before ending (taken ++ more) ≡ after ending more

-- the end is the one that the taken bytes tell of, with nothing written; or it ran out of memory
pub data EndsWith {Last : Type 0} (played_of : Rest Last) (last : Last) (wanted : List ℕ → Type 0) (taken : List ℕ)
    (at_end failed : Type 0) (end : ReplayEnd) : Type 0 where
  Told : Tells played_of taken at_end failed (λ played. played ≡ ended last end) → EndsWith played_of last wanted taken at_end failed end
  Wanted : end ≡ NoMemory → wanted taken → EndsWith played_of last wanted taken at_end failed end

-- bytes were taken, none more than the end needs, and they decided it; `last` is where the run stood, and `wanted` says why
-- out of memory
pub record Stops {Last : Type 0} (played_of : Rest Last) (last : Last) (wanted : List ℕ → Type 0)
    (to_come_old to_come_new : Option (List ℕ)) (at_end failed : Type 0) (end : ReplayEnd) : Type 0 where
  pub taken : List ℕ
  pub takes : to_come_old ≡ prepend_known taken to_come_new
  pub needed : IsNeeded played_of taken
  pub stops : EndsWith played_of last wanted taken at_end failed end

-- memory may be wanted anywhere
abbrev pub Anywhere : List ℕ → Type 0
Anywhere taken = Unit {0}
