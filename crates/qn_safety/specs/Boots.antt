-- Boots in a timed run.
use Rattle.std.proofs.Common.{◌≡◌, ◌<◌, ℕ, List, Some, ◌⊎◌, inl, inr, arith}
use Rattle.std.proofs.lemmas.Bool.{cases_order}
use Rattle.qn_model.specs.declared.configuration.Settings.{Settings}
use Rattle.qn_model.specs.declared.times.Timing.{Timing}
use Rattle.qn_model.specs.Log.{incarnation}
use Rattle.qn_model.specs.Moments.{Before, Moment, node}
use Rattle.qn_safety.specs.Timed.{IsSameBoot, IsTimedRun, IsUp}

-- two moments at which a rank is up with one number are of one boot
pub one_boot : {s : Settings} {t : Timing} {all : List Moment} (timed : IsTimedRun s t all) (rank number : ℕ) (p q : List Moment)
    → Before p all → Before q all → IsUp s rank p → IsUp s rank q
    → incarnation (node s rank p).log ≡ Some number → incarnation (node s rank q).log ≡ Some number
    → IsSameBoot s rank p q
one_boot {s = s} timed rank number p q p_all q_all up_p up_q has_p has_q =
    by_order (cases_order (node s rank p).boots (node s rank q).boots)
  where
    by_order : ((node s rank p).boots ≡ (node s rank q).boots) ⊎ (((node s rank p).boots < (node s rank q).boots) ⊎ ((node s rank q).boots < (node s rank p).boots))
        → (node s rank p).boots ≡ (node s rank q).boots
    by_order (inl same) = same
    by_order (inr (inl less)) =
        absurd (let rise = timed.rise rank number number p q p_all q_all up_p up_q less has_p has_q in omega arith)
    by_order (inr (inr more)) =
        absurd (let rise = timed.rise rank number number q p q_all p_all up_q up_p more has_q has_p in omega arith)
