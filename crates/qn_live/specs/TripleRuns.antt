-- The run of a node on three images: it is the run on one, each call of which is made on three. This project's profile.
use Rattle.std.specs.Prelude.{ℕ, Bool, true, List, [], ◌∷◌, Option}
use Rattle.qn_base.specs.Plans.{Plan, Ends, Asks, ◌>>=◌}
use Rattle.qn_model.specs.declared.configuration.Settings.{Settings}
use Rattle.qn_live.specs.Running.{Ran}
use Rattle.qn_live.specs.Runs.{live_plan}
use Rattle.qn_live.specs.TripleDisk.{call_plan}

-- a plan on one image, each call of which is made on three: the plan goes on as one image would have answered
abbrev pub on_three : {A : Type 0} → Settings → ℕ → List Bool → Plan A → Plan A
on_three s me good (Ends value) = Ends value
on_three s me good (Asks question left) =
    call_plan s me good question >>= (λ told. on_three s me told.1 (left told.0))

-- before the clear all images are good
abbrev pub all_good : List Bool
all_good = true ∷ true ∷ true ∷ []

-- the run of a node on three images, of that many turns, 1 or more
unfoldable pub triple_plan : Settings → ℕ → Bool → Option ℕ → Option ℕ → ℕ → Plan Ran
triple_plan s me clean leave polls turns = on_three s me all_good (live_plan s me clean leave polls turns)
