-- What the texts of status files come to. This project's profile.
use Rattle.std.specs.Prelude.{ℕ, List, [], ◌∷◌, Option, Some, option_map}
use Rattle.qn_shown.specs.declared.shown.Shown.{Shown}
use Rattle.qn_shown.specs.Reading.{◌<*>◌, shown_in}
use Rattle.qn_verdict.specs.declared.verdict.Verdict.{Verdict}
use Rattle.qn_verdict.specs.Verdicts.{judge}

-- what texts say, where each says something
abbrev pub all_read : List (List ℕ) → Option (List Shown)
all_read [] = Some []
all_read (text ∷ rest) = Some (λ file files. file ∷ files) <*> shown_in text <*> all_read rest

abbrev pub judge_texts : ℕ → List (List ℕ) → Option Verdict
judge_texts now texts = option_map (judge now) (all_read texts)
