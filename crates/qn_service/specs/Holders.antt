-- A resource that is held runs: what running nodes do with what their logs say. This project's profile.
use Rattle.std.specs.Prelude.{◌≡◌, ◌⊎◌, ℕ, true, List}
use Rattle.qn_model.specs.declared.configuration.Settings.{Settings}
use Rattle.qn_model.specs.declared.times.Timing.{Timing}
use Rattle.qn_model.specs.Holding.{holds, stop_due}
use Rattle.qn_joined.specs.Joints.{AllMayHappen, Happening, joint_after, runs_at}
use Rattle.qn_service.specs.Unheard.{log_after}

-- where the log of a machine that is on holds, its resource runs, or a Stop of it is unanswered
abbrev pub HoldersRun : Settings → Timing → Type 0
HoldersRun s t =
    (image : ℕ → List ℕ) (happenings : List Happening) (rank : ℕ)
    → AllMayHappen s t image happenings
    → ((joint_after s image happenings).hosts rank).on ≡ true
    → holds (log_after s image happenings rank) ≡ true
    → (runs_at s image happenings rank ≡ true) ⊎ (stop_due (log_after s image happenings rank) ≡ true)
