-- What a chain of calls shows, one call further; and the calls of a run so far.
use Rattle.std.proofs.Common.{◌≡◌, List, [], ◌∷◌, ◌++◌, refl}
use Rattle.qn_base.specs.declared.calls.Call.{Call}
use Rattle.qn_base.specs.Plans.{Ends, Follows, Plan}
use Rattle.qn_live.specs.Sound.{AreRecorded, IsRecorded, Shows}

pub shows_then : {S : Type 0} (each : S → S → Call → Type 0) (before between after : S) (calls : List Call) (call : Call)
    → Shows each before between calls → each between after call → Shows each before after (calls ++ call ∷ [])
shows_then each before between after [] call chain one = (after, rw chain one, refl)
shows_then each before between after (first ∷ calls) call chain one =
    (chain.0, chain.1, shows_then each chain.0 between after calls call chain.2 one)

-- one more recorded call
pub recorded_then : (calls : List Call) (call : Call) → AreRecorded calls → IsRecorded call → AreRecorded (calls ++ call ∷ [])
recorded_then [] call recorded one = (one, tt)
recorded_then (first ∷ calls) call recorded one = (recorded.0, recorded_then calls call recorded.1 one)

-- a plan that is over makes no call
pub over_follows : {A : Type 0} (plan : Plan A) (value : A) → plan ≡ Ends value → Follows plan [] value
over_follows plan value over = rw over (refl, refl)
