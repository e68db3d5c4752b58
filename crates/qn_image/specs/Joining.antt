-- Laws of plans with faults: how a plan goes on after a part that gave a value, and ends after one that met a fault.
-- This project's profile.
use Rattle.std.proofs.Common.{◌≡◌, ℕ, Result, Ok, Err, Option, List, refl}
use Rattle.qn_base.specs.declared.calls.Call.{Call}
use Rattle.qn_base.specs.Plans.{Plan, Ends, ◌>>=◌, Did}
use Rattle.qn_base.specs.PlanSteps.{did_then, did_map}
use Rattle.qn_image.specs.declared.fault.ImageFault.{ImageFault}
use Rattle.qn_image.specs.Plans.{or_fault}

module _ {A B : Type 0} {f g : ℕ} {a b : Option (List Call)} (plan : Plan (Result A ImageFault)) (next : A → Plan (Result B ImageFault)) where
  -- the part gave a value, and the plan went on from it
  pub went_on : {h : ℕ} {c : Option (List Call)} {value : A} {result : Result B ImageFault} → Did f g a b plan (Ok value) → Did g h b c (next value) result → Did f h a c (plan >>= or_fault next) result
  went_on {result} did left = did_then (or_fault next) result did left

  -- the part met a fault, which ends the plan
  pub faulted : {fault : ImageFault} → Did f g a b plan (Err fault) → Did f g a b (plan >>= or_fault next) (Err fault)
  faulted {fault} did = did_map (or_fault next) (Err fault) did (refl, refl)

  -- the part gave a value, which ends the plan
  pub ended : {value : A} (result : B) → next value ≡ Ends (Ok result) → Did f g a b plan (Ok value) → Did f g a b (plan >>= or_fault next) (Ok result)
  ended {value} result is did = did_map (or_fault next) (Ok result) did (rw is (refl, refl))
