-- A disk whose calls may take a loop.
use Rattle.std.proofs.Common.{◌≡◌, ◌≤◌, ◌<◌, ℕ, Bool, true, false, Some, None, Option, refl, sym, ◌∙◌, arith, if◌then◌else◌, nat_lt}
use Rattle.std.proofs.lemmas.Bool.{le-ltb}
use Rattle.std.proofs.lemmas.Option.{none-some}
use Rattle.qn_model.specs.declared.times.Timing.{Timing}
use Rattle.qn_control.specs.declared.unbounded.Unbounded.TheVariants.{Loop}
use Rattle.qn_control.specs.Times.{is_below_loop, ticks_of, unbounded}

ticks_no_fewer : (disk : ℕ) → disk ≤ ticks_of disk
ticks_no_fewer disk = omega arith

-- where a call may take as long as a loop there is no bound
pub over_loop : (t : Timing) (disk : ℕ) → t.loop_ms ≤ disk → ¬ (unbounded t disk ≡ None)
over_loop t disk late none = none-some Loop (sym none ∙ slow)
  where
    slow : unbounded t disk ≡ Some Loop
    slow = let more = ticks_no_fewer disk in rw (le-ltb (ticks_of disk) t.loop_ms (omega arith)) refl
