-- What holds of the log of a node that is up, and of one whose mailbox was cleared.
use Rattle.std.proofs.Common.{◌≡◌, ℕ, Bool, true, List, Some, refl, subst}
use Rattle.std.proofs.lemmas.Bool.{false≢true}
use Rattle.qn_model.specs.declared.configuration.Settings.{Settings}
use Rattle.qn_model.specs.declared.times.Timing.{Timing}
use Rattle.qn_model.specs.declared.entries.What.TheVariants as what
use Rattle.qn_model.specs.declared.life.Phase.{Phase}
use Rattle.qn_model.specs.declared.life.Phase.TheVariants.{Booting, Up, Leaving, Dying, Gone}
use Rattle.qn_model.specs.declared.outputs.DiskOp.TheVariants as disk
use Rattle.qn_model.specs.Fitting.{fits}
use Rattle.qn_model.specs.Log.{op_out, timing}
use Rattle.qn_model.specs.Moments.{Before, Moment, node}
use Rattle.qn_model.specs.Phases.{is_booting, phase}
use Rattle.qn_safety.specs.Timed.{IsTimedRun, IsUp}
use Rattle.qn_safety.proofs.Apt.{is_apt, apt, cleared_answers}
use Rattle.qn_safety.proofs.Fence.{timing_up}
use Rattle.qn_safety.proofs.Runs.{ruled_before, sound}

pub up_times : (s : Settings) (t : Timing) (rank : ℕ) (moments now : List Moment) → IsTimedRun s t moments → Before now moments → IsUp s rank now
    → timing (node s rank now).log ≡ t
up_times s t rank moments now timed back up = timing_up timed rank now back up

-- the clearing of the mailbox is out only while a node boots
clears_in_boot : (p : Phase) → is_apt (Some disk.WriteClear) p ≡ true → is_booting p ≡ true
clears_in_boot Booting e = refl
clears_in_boot Up e = absurd (false≢true e)
clears_in_boot Leaving e = absurd (false≢true e)
clears_in_boot Dying e = absurd (false≢true e)
clears_in_boot Gone e = absurd (false≢true e)

pub cleared_boots : (s : Settings) (t : Timing) (rank : ℕ) (moments now : List Moment) (ok : Bool) → IsTimedRun s t moments → Before now moments
    → fits s rank (node s rank now).log (what.Cleared ok) ≡ true → is_booting (phase s (node s rank now).log) ≡ true
cleared_boots s t rank moments now ok timed back fit =
    let log = (node s rank now).log in
    let made = (sound (ruled_before back timed.ruled) rank).made in
    clears_in_boot (phase s log) (subst (λ o. is_apt o (phase s log) ≡ true) (cleared_answers (op_out log) ok fit) (apt made))
