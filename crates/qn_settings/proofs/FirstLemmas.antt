-- The first of several that is there.
use Rattle.std.proofs.Common.{◌≡◌, List, [], ◌∷◌, ◌++◌, Option, Some, None, refl, ap, sym, ◌∙◌}
use Rattle.qn_settings.specs.Values.{first_some, or_else}

pub or_else_none : {X : Type 0} (o : Option X) → or_else o None ≡ o
or_else_none None = refl
or_else_none (Some x) = refl

pub or_else-assoc : {X : Type 0} (a b c : Option X) → or_else (or_else a b) c ≡ or_else a (or_else b c)
or_else-assoc None b c = refl
or_else-assoc (Some x) b c = refl

-- the first of two lists, one after the other
pub first_some-append : {X : Type 0} (xs ys : List (Option X)) → first_some (xs ++ ys) ≡ or_else (first_some xs) (first_some ys)
first_some-append [] ys = refl
first_some-append (x ∷ xs) ys = ap (or_else x) (first_some-append xs ys) ∙ sym (or_else-assoc x (first_some xs) (first_some ys))
