-- What a rule that does not refuse allows, and a list of events that all pass.
use Rattle.std.proofs.Common.{◌≡◌, ℕ, Bool, true, false, Option, None, Some, ◌&&◌, is_none, refl}
use Rattle.std.specs.Option.{option_or}
use Rattle.std.proofs.lemmas.Bool.{and_parts}
use Rattle.qn_base.specs.lemmas.Options.{none_if_not_there, some_is_not_none}
use Rattle.qn_model.specs.Rules.{unless}

pub allowed : (test : Bool) (rule : ℕ) → unless test rule ≡ None → test ≡ true
allowed true rule passed = refl
allowed false rule passed = some_is_not_none rule passed

-- of two rules none refuses
pub both_allowed : (first second : Bool) (rule other : ℕ) → option_or (unless first rule) (unless second other) ≡ None
    → (first ≡ true) × (second ≡ true)
both_allowed true second rule other passed = (refl, allowed second other passed)
both_allowed false second rule other passed = some_is_not_none rule passed

-- the rule that a node runs, before others
pub running_allowed : (on : Bool) (others : Option ℕ) → option_or (unless on 3) others ≡ None → on ≡ true
running_allowed true others passed = refl
running_allowed false others passed = some_is_not_none 3 passed

-- an event that is well formed and that no rule refuses, and the events before it, as one test
pub allowed_in_turn : (formed : Bool) (refused : Option ℕ) (earlier : Bool)
    → (formed && is_none refused && earlier) ≡ true
    → (formed ≡ true) × (refused ≡ None) × (earlier ≡ true)
allowed_in_turn formed refused earlier all =
    let parts = and_parts (formed && is_none refused) earlier all in
    let here = and_parts formed (is_none refused) parts.0 in
    (here.0, none_if_not_there refused here.1, parts.1)
