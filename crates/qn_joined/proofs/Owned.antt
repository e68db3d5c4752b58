-- In every joint a resource that runs is held by the log of its node.
use Rattle.std.proofs.Common.{ℕ, Bool, true, false, [], ◌∷◌, Option, None, Some, ◌==◌, if◌then◌else◌, refl}
use Rattle.std.specs.Option.{option_map_or}
use Rattle.qn_base.specs.declared.calls.Call.{Call}
use Rattle.qn_base.specs.declared.calls.Call.TheVariants as call
use Rattle.qn_model.specs.Moments.{tick_of}
use Rattle.qn_model.specs.declared.configuration.Settings.{Settings}
use Rattle.qn_model.specs.declared.times.Timing.{Timing}
use Rattle.qn_model.specs.World.{numbered, put, without}
use Rattle.qn_joined.specs.Joints.{AllMayHappen, Passes, Begins, Looks, Lands, Returns, Feeds, LandsLate, Ends, Operates, Joint, began, ended, happens, joint_after, landed_image, looked_first, returned, takes, waits_for, with_host}
use Rattle.qn_joined.specs.Theorem.{AlwaysOwns, HostOwns}
use Rattle.qn_joined.proofs.Returning.{returns_own}

-- one host is replaced by another that owns where the old one did
pub put_owns : {A : Type 0} (P : A → Type 0) (rank other : ℕ) (hosts : ℕ → A) (after : A) → (P (hosts other) → P after) → P (hosts other) → P (hosts rank) → P (put hosts other after rank)
put_owns P rank other hosts after step was here = by_owner (other == rank)
  where
    by_owner : (b : Bool) → P (if b then after else hosts rank)
    by_owner true = step was
    by_owner false = here

pub always_owns : (s : Settings) (t : Timing) → AlwaysOwns s t
unfolding joint_after AllMayHappen happens returned looked_first
always_owns s t image [] rank may = λ on. absurd cc
always_owns s t image (Passes dt clocks ∷ earlier) rank may = always_owns s t image earlier rank may.1
always_owns s t image (Begins other clean leave polls turns ∷ earlier) rank may =
    put_owns HostOwns rank other (joint_after s image earlier).hosts (began clean leave polls turns (joint_after s image earlier).time)
    (λ was on. record { held = λ r. absurd cc; free = refl; calm = refl })
    (always_owns s t image earlier other may.1) (always_owns s t image earlier rank may.1)
always_owns s t image (Looks other base ∷ earlier) rank may =
    put_owns HostOwns rank other (joint_after s image earlier).hosts (looked_first s other base (joint_after s image earlier).time ((joint_after s image earlier).hosts other))
    (λ was on. returns_own s other (joint_after s image earlier).time ((joint_after s image earlier).hosts other) (call.Now (tick_of base)) may.0.2 (was may.0.0))
    (always_owns s t image earlier other may.1) (always_owns s t image earlier rank may.1)
always_owns s t image (Lands other ∷ earlier) rank may =
    by_call (waits_for s other (j.hosts other)) (always_owns s t image earlier other may.1) (always_owns s t image earlier rank may.1)
  where
    j : Joint
    j = joint_after s image earlier

    by_call : (waiting : Option Call) → HostOwns (j.hosts other) → HostOwns (j.hosts rank)
        → HostOwns ((option_map_or (λ w. record (with_host other (record (j.hosts other) { took = Some (takes w j.image) }) j) { image = landed_image w j.image }) waiting j).hosts rank)
    by_call None was here = here
    by_call (Some waiting) was here = put_owns HostOwns rank other j.hosts (record (j.hosts other) { took = Some (takes waiting j.image) }) (λ was on. was on) was here
always_owns s t image (Returns other made ∷ earlier) rank may =
    put_owns HostOwns rank other (joint_after s image earlier).hosts (returned s other made (joint_after s image earlier).time ((joint_after s image earlier).hosts other))
    (λ was on. returns_own s other (joint_after s image earlier).time ((joint_after s image earlier).hosts other) made may.0.waits (was may.0.on))
    (always_owns s t image earlier other may.1) (always_owns s t image earlier rank may.1)
always_owns s t image (Feeds other ∷ earlier) rank may =
    put_owns HostOwns rank other (joint_after s image earlier).hosts _ (λ was on. was on) (always_owns s t image earlier other may.1) (always_owns s t image earlier rank may.1)
always_owns s t image (LandsLate other number ∷ earlier) rank may =
    by_call (numbered (j.hosts other).left number) (always_owns s t image earlier other may.1) (always_owns s t image earlier rank may.1)
  where
    j : Joint
    j = joint_after s image earlier

    by_call : (write : Option Call) → HostOwns (j.hosts other) → HostOwns (j.hosts rank)
        → HostOwns ((option_map_or (λ w. record (with_host other (record (j.hosts other) { left = without (j.hosts other).left number }) j) { image = landed_image w j.image }) write j).hosts rank)
    by_call None was here = here
    by_call (Some write) was here = put_owns HostOwns rank other j.hosts (record (j.hosts other) { left = without (j.hosts other).left number }) (λ was on. was on) was here
always_owns s t image (Ends other ∷ earlier) rank may =
    put_owns HostOwns rank other (joint_after s image earlier).hosts (ended s other ((joint_after s image earlier).hosts other)) (λ was on. absurd cc)
    (always_owns s t image earlier other may.1) (always_owns s t image earlier rank may.1)
always_owns s t image (Operates other sent ∷ earlier) rank may = always_owns s t image earlier rank may.1
