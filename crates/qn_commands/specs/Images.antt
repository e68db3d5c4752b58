-- The image that a command opens first: sbd(8).
use Rattle.std.specs.Prelude.{ℕ, true, List, Result, Ok, Err, if◌then◌else◌}
use Rattle.qn_base.specs.declared.calls.Call.TheVariants.{OpenImage}
use Rattle.qn_base.specs.Calls.{is_failed}
use Rattle.qn_base.specs.Plans.{Plan, Ends, Asks, ◌>>=◌}
use Rattle.qn_image.specs.declared.fault.ImageFault.{ImageFault}
use Rattle.qn_image.specs.declared.fault.ImageFault.TheVariants as image
use Rattle.qn_image.specs.Plans.{or_fault}

-- the image is opened
abbrev pub open_plan : List ℕ → Plan (Result (Unit {0}) ImageFault)
open_plan path = Asks (OpenImage path true) (λ call. Ends (if is_failed call then Err image.Disk else Ok tt))

-- the image is opened, and then the plan
unfoldable pub opened_plan : {A : Type 0} → List ℕ → Plan (Result A ImageFault) → Plan (Result A ImageFault)
opened_plan path plan = open_plan path >>= or_fault (λ opened. plan)
