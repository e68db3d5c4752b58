-- How a disk operation that failed halted a boot: this project's profile.
use Rattle.std.specs.Prelude.{◌≡◌, ℕ, Bool, true, false, List, [], ◌∷◌, ◌++◌, Some}
use Rattle.std.specs.List.{list_any}
use Rattle.qn_base.specs.declared.calls.Call.{Call}
use Rattle.qn_base.specs.declared.calls.Call.TheVariants as call
use Rattle.qn_base.specs.Calls.{is_failed, some_failed}
use Rattle.qn_base.specs.Plans.{Plan, Ends, Asks, Follows}
use Rattle.qn_model.specs.declared.configuration.Settings.{Settings}
use Rattle.qn_model.specs.declared.entries.What.{What}
use Rattle.qn_model.specs.declared.outputs.BootCause.{BootCause}
use Rattle.qn_model.specs.declared.outputs.DiskOp.{DiskOp}
use Rattle.qn_model.specs.Log.{Line}
use Rattle.qn_model.specs.Phases.{boot_halt}
use Rattle.qn_model.specs.World.{failed}
use Rattle.qn_live.specs.Performing.{disk_call}

-- the call reads or writes a sector
abbrev pub is_on_disk : Call → Bool
is_on_disk (call.Read sector bytes ok) = true
is_on_disk (call.Write sector bytes ok) = true
is_on_disk (call.Now tick) = false
is_on_disk (call.Receive got) = false
is_on_disk (call.Feed ok) = false
is_on_disk (call.Start ok) = false
is_on_disk (call.Stop ok) = false
is_on_disk (call.Send to bytes ok) = false
is_on_disk (call.Disarm ok) = false
is_on_disk (call.Halt code) = false
is_on_disk (call.OpenImage path ok) = false
is_on_disk (call.OpenNode images image watchdog resource port rank ok) = false

-- The last disk operation of these calls failed: its own calls are those of its plan, one of them failed, and so did the call
-- on one image that they tell together. After them no sector is read or written.
pub record LastFails (operation : Plan Call) (calls : List Call) : Type 0 where
  pub before : List Call
  pub own : List Call
  pub after : List Call
  pub parts : calls ≡ before ++ (own ++ after)
  pub told : Call
  pub made : Follows operation own told
  pub failed : some_failed own ≡ true
  pub told_failed : is_failed told ≡ true
  pub last : list_any is_on_disk after ≡ false

-- A boot was halted for this cause by a disk operation that failed, the last of these calls, of a node in the incarnation of
-- that number. `plan_of` is the plan of a disk operation by its call on one image.
pub record HaltedBy (plan_of : Call → Plan Call) (s : Settings) (me : ℕ)
    (cause : BootCause) (calls : List Call) : Type 0 where
  pub op : DiskOp
  pub number : ℕ
  pub halts : boot_halt s (failed op) ≡ Some cause
  pub fails : LastFails (plan_of (disk_call s me number op)) calls

-- the newest entry of the log, as it was read
abbrev pub IsNewest : What → List Line → Type 0
IsNewest entry [] = ⊥
IsNewest entry (line ∷ past) = line.what ≡ entry

-- on one image a disk operation is one call
abbrev pub one_call : Call → Plan Call
one_call question = Asks question (λ call. Ends call)
