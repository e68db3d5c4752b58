-- What halted a boot on three images.
use Rattle.std.proofs.Common.{◌≡◌, ℕ, Bool, false, Option, List}
use Rattle.qn_base.specs.declared.calls.Call.{Call}
use Rattle.qn_base.specs.Faults.{HasRisen}
use Rattle.qn_base.specs.Plans.{Follows, Made, Did}
use Rattle.qn_model.specs.declared.configuration.Settings.{Settings}
use Rattle.qn_model.specs.declared.outputs.BootCause.{BootCause}
use Rattle.qn_model.specs.Log.{Line}
use Rattle.qn_model.specs.World.{failed}
use Rattle.qn_live.specs.declared.live_end.LiveEnd.{LiveEnd}
use Rattle.qn_live.specs.declared.live_end.LiveEnd.TheVariants as end
use Rattle.qn_live.specs.EndLaws.{halted_by, halted_failed}
use Rattle.qn_live.specs.Halts.{IsNewest}
use Rattle.qn_live.specs.Laws.{is_no_failure}
use Rattle.qn_live.specs.Running.{Ran}
use Rattle.qn_live.specs.Runs.{live_plan}
use Rattle.qn_live.specs.TripleHalts.{HaltedOnThree, three_calls}
use Rattle.qn_live.specs.TripleRuns.{all_good, triple_plan}
use Rattle.qn_live.proofs.Single.{single}
use Rattle.qn_live.proofs.Stretches.{halted_on_three}
use Rattle.qn_live.proofs.Wiped.{live_wiped}

module _ (s : Settings) (me : ℕ) (clean : Bool) (leave polls : Option ℕ) (turns : ℕ) where
  -- a boot that a failed call halted was halted by the last operation on the disk: that it failed is the newest entry
  pub boot_halted : (calls : List Call) (ran : Ran) (cause : BootCause) → Follows (triple_plan s me clean leave polls turns) calls ran
      → ran.end ≡ end.BootHalted cause → is_no_failure cause ≡ false
      → (on_three : HaltedOnThree s me cause calls) × IsNewest (failed on_three.1.op) ran.log
  unfolding triple_plan
  boot_halted calls ran cause follows is failure =
      let one = single s me all_good (live_plan s me clean leave polls turns) calls ran (live_wiped s me clean leave polls turns) follows in
      let halted = halted_by s me clean leave polls turns one.one ran one.follows cause is failure in
      halted_on_three s me cause one.one calls ran.log halted.0 halted.1 one.stretches

  -- and the count of faults rose
  pub halted_run : {f g : ℕ} {a b : Option (List Call)} (ended : LiveEnd) (log : List Line)
      → Did f g a b (triple_plan s me clean leave polls turns) (record { end = ended; log = log }) → (cause : BootCause) → ended ≡ end.BootHalted cause
      → is_no_failure cause ≡ false → (calls : List Call) × Made f g a b calls × HaltedOnThree s me cause calls × HasRisen f g
  halted_run ended log did cause is failure =
      let halted = (boot_halted did.calls (record { end = ended; log = log }) cause did.follows is failure).0 in
      (did.calls, did.made, halted, did.made.cause (halted_failed (three_calls s me halted.0) s me cause did.calls halted.1))
