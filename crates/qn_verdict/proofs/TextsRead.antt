-- The texts of nodes are read as what the nodes show.
use Rattle.std.proofs.Common.{◌≡◌, ℕ, List, [], ◌∷◌, Option, Some, None, option_map, refl, ap, ap₂, ◌∙◌, map}
use Rattle.qn_shown.specs.declared.shown.Shown.{Shown}
use Rattle.qn_shown.specs.Fits.{AllOf, FitsTypes}
use Rattle.qn_shown.specs.Reading.{◌<*>◌, shown_in}
use Rattle.qn_shown.specs.Spelling.{shown_text}
use Rattle.qn_verdict.specs.Texts.{all_read, judge_texts}
use Rattle.qn_verdict.specs.Verdicts.{judge}

abbrev pub ReadBack : Type 0
ReadBack = (node : Shown) → FitsTypes node → shown_in (shown_text node) ≡ Some node

all_back : ReadBack → (nodes : List Shown) → AllOf FitsTypes nodes → all_read (map shown_text nodes) ≡ Some nodes
all_back back [] fit = refl
all_back back (node ∷ nodes) fit =
    ap₂ (λ one rest. Some (λ file files. file ∷ files) <*> one <*> rest) (back node fit.0) (all_back back nodes fit.1)

pub judged : ReadBack → (now : ℕ) (nodes : List Shown) → AllOf FitsTypes nodes → judge_texts now (map shown_text nodes) ≡ Some (judge now nodes)
judged back now nodes fit = ap (option_map (judge now)) (all_back back nodes fit)
