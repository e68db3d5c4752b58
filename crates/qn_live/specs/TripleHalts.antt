-- How a disk operation that failed on three images halted a boot: this project's profile.
use Rattle.std.specs.Prelude.{ℕ, Bool, List}
use Rattle.qn_base.specs.declared.calls.Call.{Call}
use Rattle.qn_base.specs.Plans.{Plan, Ends, ◌>>=◌}
use Rattle.qn_model.specs.declared.configuration.Settings.{Settings}
use Rattle.qn_model.specs.declared.outputs.BootCause.{BootCause}
use Rattle.qn_live.specs.Halts.{HaltedBy}
use Rattle.qn_live.specs.TripleDisk.{call_plan}

-- the calls on three images for a call on one, and what they tell together
abbrev pub three_calls : Settings → ℕ → List Bool → Call → Plan Call
three_calls s me good question = call_plan s me good question >>= (λ told. Ends told.0)

-- A boot was halted for this cause by a disk operation on three images, the last of the calls: one of its calls failed, and too
-- few images told anything. These were the good images then.
abbrev pub HaltedOnThree : Settings → ℕ → BootCause → List Call → Type 0
HaltedOnThree s me cause calls = (good : List Bool) × HaltedBy (three_calls s me good) s me cause calls
