-- `soak`: the summary of events that are drawn from a seed; this project's profile.
use Rattle.std.specs.Prelude.{◌≢◌, ℕ, [], ◌∷◌}
use Rattle.qn_model.specs.Lines.{Outcome}
use Rattle.qn_replay.specs.Soak.{soak_text}
use Rattle.qn_commands.specs.declared.fault.Fault.TheVariants as fault
use Rattle.qn_commands.specs.declared.status.Status.TheVariants.{Done, WriteFault, NoMemory}
use Rattle.qn_commands.specs.Endings.{AnswersWhole, Refuses, Says}
use Rattle.qn_commands.specs.Seen.{Output, Seen, WriteFails}
use Rattle.qn_commands.specs.Statuses.{HasCauses, IsOneOf}

-- all that `soak` writes, and its exit status
abbrev pub soak_outcome : ℕ → ℕ → Outcome
soak_outcome seed events = record { text = soak_text seed events; status = 0 }

-- the summary was written, or it ran out of memory before any of it
pub data RunsSoak (seed events : ℕ) (before after : Output) (status : ℕ) : Type 0 where
  Soaked : Says (soak_text seed events) 0 before after status → RunsSoak seed events before after status
  Wanted : Refuses fault.NoMemory before after status → RunsSoak seed events before after status

-- the defined summary was written, or a prefix of it where the sink failed; or it ran out of memory
pub record Soaks (seed events : ℕ) (before after : Seen) (status : ℕ) : Type 0 where
  pub ran : RunsSoak seed events before.output after.output status
  pub complete : status ≢ 11 → ¬ WriteFails before.output after.output
      → AnswersWhole (soak_outcome seed events) before.output after.output status
  pub statuses : IsOneOf (Done ∷ WriteFault ∷ NoMemory ∷ []) status
  pub causes : HasCauses before after status
