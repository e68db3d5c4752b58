-- The answer of an operation, by the values of its parts.
use Rattle.std.proofs.Common.{◌≡◌, Bool, List, ◌++◌, ap, sym, ◌∙◌}
use Rattle.std.specs.Prelude.{Option, option_to_list}
use Rattle.qn_model.specs.declared.entries.What.{What}
use Rattle.qn_model.specs.declared.outputs.DiskOp.{DiskOp}
use Rattle.qn_parts.specs.Parts.{is_good_on, part_on}
use Rattle.qn_safety.specs.declared.part.Part.{Part}
use Rattle.qn_safety.specs.TripleWorld.{answer_among, answer_of, counted}

-- the values of the parts that count on each image give the answer
pub record ValuesAre (op : DiskOp) (parts : List Part) (good : List Bool) (first second third : Option What) : Type 0 where
  pub on_first : option_to_list first ≡ counted op (is_good_on good 1) (part_on parts 1)
  pub on_second : option_to_list second ≡ counted op (is_good_on good 2) (part_on parts 2)
  pub on_third : option_to_list third ≡ counted op (is_good_on good 3) (part_on parts 3)

abbrev pub values_of : Option What → Option What → Option What → List What
values_of first second third = option_to_list first ++ (option_to_list second ++ option_to_list third)

pub answered : (op : DiskOp) (parts : List Part) (good : List Bool) (first second third : Option What) → ValuesAre op parts good first second third
    → answer_among op (values_of first second third) ≡ answer_of op (part_on parts) (is_good_on good)
unfolding answer_of
answered op parts good first second third are =
    ap (λ values. answer_among op (values ++ (option_to_list second ++ option_to_list third))) are.on_first
    ∙ (ap (λ values. answer_among op (counted op (is_good_on good 1) (part_on parts 1) ++ (values ++ option_to_list third))) are.on_second
    ∙ ap (λ values. answer_among op (counted op (is_good_on good 1) (part_on parts 1) ++ (counted op (is_good_on good 2) (part_on parts 2) ++ values))) are.on_third)

-- the answer, where the values are known
pub answered_by : (op : DiskOp) (parts : List Part) (good : List Bool) (first second third x y z : Option What) → ValuesAre op parts good first second third
    → first ≡ x → second ≡ y → third ≡ z
    → answer_among op (values_of x y z) ≡ answer_of op (part_on parts) (is_good_on good)
answered_by op parts good first second third x y z are first_is second_is third_is =
    ap (λ o. answer_among op (values_of o y z)) (sym first_is)
    ∙ (ap (λ o. answer_among op (values_of first o z)) (sym second_is)
    ∙ (ap (λ o. answer_among op (values_of first second o)) (sym third_is) ∙ answered op parts good first second third are))
