-- The outputs of a run on three images: this project's profile.
use Rattle.std.specs.Prelude.{ℕ, List, [], ◌∷◌, filter}
use Rattle.qn_base.specs.declared.calls.Call.{Call}
use Rattle.qn_base.specs.Plans.{Plan, Ends, Asks, Follows}
use Rattle.qn_model.specs.declared.configuration.Settings.{Settings}
use Rattle.qn_model.specs.Log.{Line}
use Rattle.qn_live.specs.Laws.{is_output, outputs_of}
use Rattle.qn_live.specs.TripleRuns.{all_good, on_three}

-- these calls are made one after the other, whatever each of them answers
abbrev pub one_by_one : List Call → Plan (Unit {0})
one_by_one [] = Ends tt
one_by_one (question ∷ questions) = Asks question (λ call. one_by_one questions)

-- The calls that perform outputs are the outputs of the log, in order, each made on three images. The good images are those
-- of the calls before it.
abbrev pub PerformsOnThree : Settings → ℕ → List Line → List Call → Type 0
PerformsOnThree s me log calls =
    Follows (on_three s me all_good (one_by_one (outputs_of s me log))) (filter is_output calls) tt
