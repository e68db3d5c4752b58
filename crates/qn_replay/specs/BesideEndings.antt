-- How the end of a replay beside an arbiter and the way in which its input ended belong together.
use Rattle.std.specs.Prelude.{ℕ, ◌+◌, Bool, true, false, cond, List, Result, Ok, Err, IfErr}
use Rattle.qn_arbiter.specs.LeaseLine.{lease_of}
use Rattle.qn_playback.specs.declared.head.Head.{Head}
use Rattle.qn_playback.specs.Heads.{head_part, line_lines}
use Rattle.qn_playback.specs.HeadLaws.{head_fits, line_fits}
use Rattle.qn_playback.specs.Parts.{Given, then_given}
use Rattle.qn_playback.specs.ReplayLaws.{answer_fits}
use Rattle.qn_safety.specs.declared.lease.Lease.{Lease}
use Rattle.qn_safety.specs.Lease.{is_safe_lease}
use Rattle.qn_model.specs.declared.line_fault.LineFault.{LineFault}
use Rattle.qn_model.specs.Lines.{Ending}
use Rattle.qn_playback.specs.Endings.{EndFits, FitsWith, fits_beside}
use Rattle.qn_sched.specs.declared.replay_end.ReplayEnd.{ReplayEnd}
use Rattle.qn_replay.specs.BesideHeads.{arbiter_head_part, lease_given, lease_lines, safe_or_not, unsafe_end, with_lease}
use Rattle.qn_replay.specs.BesideReplay.{beside_replay, replay_arbiter_of}

-- an end that fits where a lease may be unsafe
abbrev pub FitsBeside : ReplayEnd → Ending → Type 0
FitsBeside end ending = FitsWith (Unit {0}) end ending

abbrev EndsFit : {A : Type 0} → Ending → Given A → Type 0
EndsFit ending given = IfErr given (λ end. FitsBeside end ending)

then_fits : {A B : Type 0} (ending : Ending) (first : Given A) (next : A → List (List ℕ) → Given B) → IfErr first (λ end. EndFits end ending)
    → ((value : A) (rest : List (List ℕ)) → EndsFit ending (next value rest)) → EndsFit ending (then_given first next)
then_fits ending (Ok given) next fits others = others given.0 given.1
then_fits ending (Err end) next fits others = fits_beside (Unit {0}) end ending fits

safe_fits : (ending : Ending) (head : Head) (rest : List (List ℕ)) (times : Lease) (safe : Bool)
    → EndsFit ending (with_lease head rest (cond safe (Ok times) (Err (unsafe_end head.settings times))))
safe_fits ending head rest times true = tt
safe_fits ending head rest times false = tt

lease_fits : (ending : Ending) (head : Head) (rest : List (List ℕ)) (read : Result Lease LineFault)
    → EndsFit ending (with_lease head rest (safe_or_not (head.lines + 1) head.settings read))
lease_fits ending head rest (Ok times) = safe_fits ending head rest times (is_safe_lease head.settings times)
lease_fits ending head rest (Err fault) = tt

-- the end of a head fits
pub arbiter_head_fits : (ending : Ending) (bytes : List ℕ) → EndsFit ending (arbiter_head_part ending bytes)
arbiter_head_fits ending bytes =
    then_fits ending (head_part ending bytes) (λ head rest. lease_lines head ending rest) (head_fits ending bytes)
    (λ head rest. then_fits ending (line_lines head.lines ending rest) (lease_given head) (line_fits head.lines ending rest) (λ line more. lease_fits ending head more (lease_of line)))

-- the end of a replay fits the way in which the input ended
pub replay_fits : (ending : Ending) (bytes : List ℕ) → FitsBeside (replay_arbiter_of ending bytes).end ending
replay_fits ending bytes = answer_fits beside_replay (Unit {0}) arbiter_head_fits ending bytes

-- the law, for a clause
abbrev pub ReplayFits : Type 0
ReplayFits = (ending : Ending) (bytes : List ℕ) → FitsBeside (replay_arbiter_of ending bytes).end ending
