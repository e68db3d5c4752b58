-- What a command does with the outside of a node: calls, and texts that are written. This project's profile.
use Rattle.std.specs.Prelude.{◌≡◌, ◌⊎◌, ℕ, List, [], ◌∷◌}
use Rattle.std.specs.Io.KnownBytes.{append_known}
use Rattle.qn_base.specs.declared.calls.Call.{Call}
use Rattle.qn_base.specs.Calls.{blank}
use Rattle.qn_base.specs.Plans.{Plan, Ends, Asks, Did, Made}
use Rattle.qn_io.specs.Writes.{AppendsFront}
use Rattle.qn_commands.specs.declared.fault.Fault.{Fault}
use Rattle.qn_commands.specs.Endings.{Says}
use Rattle.qn_commands.specs.Faults.{fault_line, status_of}
use Rattle.qn_commands.specs.Seen.{Output, Outside, Seen, WriteFails}

-- A command writes its last text and ends with a status; or it makes a call and goes on as that call, with its
-- answer, says; or it writes a text and goes on.
pub data Work : Type 0 where
  Last : List ℕ → ℕ → Work
  Makes : Call → (Call → Work) → Work
  Writes : List ℕ → Work → Work

-- the end at a fault
abbrev pub refusal : Fault → Work
refusal fault = Last (fault_line fault) (status_of fault)

-- a plan, and then what follows from its value
abbrev pub after_plan : {A : Type 0} → Plan A → (A → Work) → Work
after_plan (Ends value) next = next value
after_plan (Asks question left) next = Makes question (λ call. after_plan (left call) next)

-- The calls, the written bytes and the status are those of the work. A text
-- that could not be written ends the work: a prefix of it was written, and the status is 7.
abbrev pub Performs : Work → List Call → Output → Output → ℕ → Type 0
Performs (Last text wanted) calls before after status = (calls ≡ []) × Says text wanted before after status
Performs (Makes question next) [] before after status = ⊥
Performs (Makes question next) (call ∷ calls) before after status =
    (blank call ≡ question) × Performs (next call) calls before after status
Performs (Writes text next) calls before after status =
    Performs next calls (record before { written = append_known before.written text }) after status
    ⊎ ((calls ≡ []) × (status ≡ 7) × WriteFails before after × AppendsFront before.written after.written text)

-- the work was done: its calls were made, with these answers and no others
pub record Works (work : Work) (before after : Seen) (status : ℕ) : Type 0 where
  pub calls : List Call
  pub made : Made before.env.faults after.env.faults before.env.calls after.env.calls calls
  pub performs : Performs work calls before.output after.output status

-- the plan was carried out, and ended with the value
abbrev pub Carries : {A : Type 0} → Plan A → Outside → Outside → A → Type 0
Carries plan before after value = Did before.faults after.faults before.calls after.calls plan value
