-- A part at the beginning of an input: what it gives, and how its bytes are taken.
use Rattle.std.specs.Prelude.{◌≡◌, ℕ, List, [], ◌∷◌, ◌++◌, Option, Result, Ok, Err}
use Rattle.std.specs.Io.KnownBytes.{prepend_known}
use Rattle.qn_model.specs.Inputs.{Tells}
use Rattle.qn_model.specs.Lines.{Ending, ReadFailed, lines_of}
use Rattle.qn_sched.specs.declared.replay_end.ReplayEnd.{ReplayEnd}
use Rattle.qn_sched.specs.declared.replay_end.ReplayEnd.TheVariants.{NoMemory, ReadFault}

-- the value of a part and the lines after it, or how the input ends there
abbrev pub Given : Type 0 → Type 0
Given A = Result (A × List (List ℕ)) ReplayEnd

-- what the bytes of an input give, by the way in which it ended
abbrev pub Part : Type 0 → Type 0
Part A = Ending → List ℕ → Given A

-- a part that was taken: its value, whatever follows
abbrev pub whole : {A : Type 0} → A → Part A
whole value ending more = Ok (value, lines_of more)

-- a further part after the first
abbrev pub then_given : {A B : Type 0} → Given A → (A → List (List ℕ) → Given B) → Given B
then_given (Ok given) next = next given.0 given.1
then_given (Err end) next = Err end

-- the bytes leave the part open: a failing read would end it
abbrev pub IsOpen : {A : Type 0} → Part A → List ℕ → Type 0
IsOpen part taken = part ReadFailed taken ≡ Err ReadFault

-- no byte was taken that the part does not need: without the last one it is open
pub data IsNeeded {A : Type 0} (part : Part A) (taken : List ℕ) : Type 0 where
  StillOpen : IsOpen part taken → IsNeeded part taken
  LastDecides : (front : List ℕ) (byte : ℕ) → taken ≡ front ++ byte ∷ [] → IsOpen part front → IsNeeded part taken

-- bytes were taken, and what the part gives is what the rest gives from here on
pub record Leads {A : Type 0} (part rest_of : Part A) (to_come_old to_come_new : Option (List ℕ)) : Type 0 where
  pub taken : List ℕ
  pub takes : to_come_old ≡ prepend_known taken to_come_new
  pub needed : IsNeeded part taken
  pub rest : (ending : Ending) (more : List ℕ) → part ending (taken ++ more) ≡ rest_of ending more

-- the bytes of the part were taken, and gave this value
abbrev pub Gives : {A : Type 0} → Part A → A → Option (List ℕ) → Option (List ℕ) → Type 0
Gives part value to_come_old to_come_new = Leads part (whole value) to_come_old to_come_new

-- the end is the one that the taken bytes tell of; or it ran out of memory
pub data EndsBy {A : Type 0} (part : Part A) (taken : List ℕ) (at_end failed : Type 0) (end : ReplayEnd) : Type 0 where
  Told : Tells part taken at_end failed (λ given. given ≡ Err end) → EndsBy part taken at_end failed end
  Wanted : end ≡ NoMemory → EndsBy part taken at_end failed end

-- bytes were taken, none more than the end needs, and they decided it
pub record Refuses {A : Type 0} (part : Part A) (to_come_old to_come_new : Option (List ℕ)) (at_end failed : Type 0) (end : ReplayEnd) : Type 0 where
  pub taken : List ℕ
  pub takes : to_come_old ≡ prepend_known taken to_come_new
  pub needed : IsNeeded part taken
  pub ends : EndsBy part taken at_end failed end
