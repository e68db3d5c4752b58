-- The numbers of the causes for which a boot halts, as a trace and a journal print them: this project's profile.
use Rattle.std.specs.Prelude.{ℕ}
use Rattle.qn_model.specs.declared.outputs.BootCause.{BootCause}
use Rattle.qn_model.specs.declared.outputs.BootCause.TheVariants as cause

-- the number of a cause
abbrev pub cause_number : BootCause → ℕ
cause_number cause.ReadFailed = 1
cause_number cause.NotImage = 2
cause_number cause.UnsafeTiming = 3
cause_number cause.ClaimFailed = 4
cause_number cause.ClearFailed = 5
cause_number cause.IncarnationSpent = 6
cause_number cause.NotClean = 7
