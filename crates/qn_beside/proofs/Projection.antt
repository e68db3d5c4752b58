-- What happens to the nodes beside an arbiter may happen to them without one, and leaves the same.
use Rattle.std.proofs.Common.{◌≡◌, ℕ, List, [], ◌∷◌, IsTrue, refl, ap, subst, ◌&&◌}
use Rattle.qn_model.specs.declared.configuration.Settings.{Settings}
use Rattle.qn_model.specs.declared.times.Timing.{Timing}
use Rattle.qn_safety.specs.declared.lease.Lease.{Lease}
use Rattle.qn_joined.specs.Joints.{AllMayHappen, Joint, MayHappen, Passes, happens, joint_after, runs_at}
use Rattle.qn_joined.specs.Theorem.{AtMostOneRuns}
use Rattle.qn_beside.specs.Beside.{AllMayHappenBeside, BesideHappening, Here, PassesWith, ArbiterBegins, ArbiterReturns, ArbiterEnds, all_of_nodes, beside_after, happens_beside}
use Rattle.qn_beside.specs.Laws.{IsJoinedBeside, runs_beside}

-- the nodes are those of their own happenings
pub same_joint : (s : Settings) (times : Lease) (image : ℕ → List ℕ) (happenings : List BesideHappening)
    → (beside_after s times image happenings).joint ≡ joint_after s image (all_of_nodes happenings)
unfolding beside_after all_of_nodes joint_after happens_beside
same_joint s times image [] = refl
same_joint s times image (Here one ∷ earlier) = ap (happens s one) (same_joint s times image earlier)
same_joint s times image (PassesWith dt clocks advance ∷ earlier) = ap (happens s (Passes dt clocks)) (same_joint s times image earlier)
same_joint s times image (ArbiterBegins base ∷ earlier) = same_joint s times image earlier
same_joint s times image (ArbiterReturns made ∷ earlier) = same_joint s times image earlier
same_joint s times image (ArbiterEnds ∷ earlier) = same_joint s times image earlier

-- and they may happen
pub all_may : (s : Settings) (t : Timing) (times : Lease) (image : ℕ → List ℕ) (happenings : List BesideHappening)
    → AllMayHappenBeside s t times image happenings
    → AllMayHappen s t image (all_of_nodes happenings)
unfolding AllMayHappenBeside AllMayHappen all_of_nodes
all_may s t times image [] may = tt
all_may s t times image (Here one ∷ earlier) may =
    (subst (λ (j : Joint). MayHappen s t one j) (same_joint s times image earlier) may.0.0, all_may s t times image earlier may.1)
all_may s t times image (PassesWith dt clocks advance ∷ earlier) may =
    (subst (λ (j : Joint). MayHappen s t (Passes dt clocks) j) (same_joint s times image earlier) may.0.0, all_may s t times image earlier may.1)
all_may s t times image (ArbiterBegins base ∷ earlier) may = all_may s t times image earlier may.1
all_may s t times image (ArbiterReturns made ∷ earlier) may = all_may s t times image earlier may.1
all_may s t times image (ArbiterEnds ∷ earlier) may = all_may s t times image earlier may.1

-- a resource that runs beside an arbiter runs among the nodes
runs_there : (s : Settings) (times : Lease) (image : ℕ → List ℕ) (happenings : List BesideHappening) (rank : ℕ)
    → IsTrue (runs_beside s times image happenings rank)
    → IsTrue (runs_at s image (all_of_nodes happenings) rank)
runs_there s times image happenings rank runs =
    subst (λ (j : Joint). IsTrue ((j.hosts rank).on && (j.hosts rank).runs)) (same_joint s times image happenings) runs

pub one_runs : (s : Settings) (t : Timing) (times : Lease) (image : ℕ → List ℕ) (happenings : List BesideHappening) (i j : ℕ)
    → AtMostOneRuns s t
    → IsJoinedBeside s t times image happenings
    → IsTrue (runs_beside s times image happenings i)
    → IsTrue (runs_beside s times image happenings j)
    → i ≡ j
one_runs s t times image happenings i j one joined first second =
    one image (all_of_nodes happenings) i j
    (record { fits = joined.fits; created = joined.created; may = all_may s t times image happenings joined.may })
    (runs_there s times image happenings i first)
    (runs_there s times image happenings j second)
