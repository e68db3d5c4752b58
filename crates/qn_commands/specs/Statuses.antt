-- The exit statuses, and how a command may end: this project's profile.
use Rattle.std.specs.Prelude.{◌≡◌, ◌⊎◌, ℕ, List, [], ◌∷◌}
use Rattle.qn_commands.specs.declared.status.Status.{Status}
use Rattle.qn_commands.specs.declared.status.Status.TheVariants.{Done, Usage, BadConf, BadSchedule, NotAllowed, ReadFault, WriteFault, EnvFault, BadImage, UnsafeTiming, NoMemory, ClockBack, SelfReset, BootHalted, DeadlyThere, UnknownNode, UnsafeLease, NotARun}
use Rattle.qn_commands.specs.Seen.{CallFails, NeverFall, ReadFails, Seen, WriteFails}

abbrev pub code_of : Status → ℕ
code_of Done = 0
code_of Usage = 2
code_of BadConf = 3
code_of BadSchedule = 4
code_of NotAllowed = 5
code_of ReadFault = 6
code_of WriteFault = 7
code_of EnvFault = 8
code_of BadImage = 9
code_of UnsafeTiming = 10
code_of NoMemory = 11
code_of ClockBack = 12
code_of SelfReset = 13
code_of BootHalted = 14
code_of DeadlyThere = 15
code_of UnknownNode = 16
code_of UnsafeLease = 17
code_of NotARun = 18

-- a code is that of one of these statuses
abbrev pub IsOneOf : List Status → ℕ → Type 0
IsOneOf [] code = ⊥
IsOneOf (status ∷ []) code = code ≡ code_of status
IsOneOf (status ∷ next ∷ others) code = (code ≡ code_of status) ⊎ IsOneOf (next ∷ others) code

-- the faults of the outsides that a status speaks of came, and no count of faults fell
pub record HasCauses (before after : Seen) (status : ℕ) : Type 0 where
  pub never_fall : NeverFall before after
  pub read_fault : status ≡ 6 → ReadFails before.input after.input
  pub write_fault : status ≡ 7 → WriteFails before.output after.output
  pub env_fault : status ≡ 8 → CallFails before.env after.env
