-- Lists of statuses, and what is a status of one of them.
use Rattle.std.proofs.Common.{◌≡◌, ◌≢◌, ◌==◌, ◌⊎◌, inl, inr, ℕ, Bool, false, true, cond, List, [], ◌∷◌, refl, sym, ◌∙◌}
use Rattle.std.proofs.lemmas.Bool.{eqb-false, eqb-true, false≢true}
use Rattle.qn_commands.specs.declared.status.Status.{Status}
use Rattle.qn_commands.specs.Statuses.{IsOneOf, code_of}

-- whether a code is that of one of these statuses
abbrev pub has : ℕ → List Status → Bool
has code [] = false
has code (status ∷ others) = cond (code_of status == code) true (has code others)

other_code : (code : ℕ) (own : ℕ) (rest : Bool) → cond (own == code) true rest ≡ false → (own ≢ code) × (rest ≡ false)
other_code code own rest lacks = of_test (own == code) refl lacks
  where
    of_test : (test : Bool) → (own == code) ≡ test → cond test true rest ≡ false → (own ≢ code) × (rest ≡ false)
    of_test true is never = absurd (false≢true (sym never))
    of_test false is lacking = (eqb-false own code is, lacking)

-- a status that is one of these has none of the other codes
pub lacks : (code : ℕ) (statuses : List Status) (status : ℕ) → has code statuses ≡ false → IsOneOf statuses status → status ≢ code
lacks code [] status other never same = never
lacks code (own ∷ []) status other is same = (other_code code (code_of own) false other).0 (sym is ∙ same)
lacks code (own ∷ next ∷ others) status other (inl is) same = (other_code code (code_of own) (has code (next ∷ others)) other).0 (sym is ∙ same)
lacks code (own ∷ next ∷ others) status other (inr is) same =
    lacks code (next ∷ others) status (other_code code (code_of own) (has code (next ∷ others)) other).1 is same

found_last : (test : Bool) (code own status : ℕ) → (own == code) ≡ test → cond test true false ≡ true → status ≡ code → status ≡ own
found_last true code own status is there same = same ∙ sym (eqb-true own code is)
found_last false code own status is never same = absurd (false≢true never)

found_first : {A : Type 0} (test rest : Bool) (code own status : ℕ) → (own == code) ≡ test → cond test true rest ≡ true → status ≡ code → (rest ≡ true → A) → (status ≡ own) ⊎ A
found_first true rest code own status is there same later = inl (same ∙ sym (eqb-true own code is))
found_first false rest code own status is there same later = inr (later there)

-- a status with one of the codes is one of these
pub found : (code : ℕ) (statuses : List Status) (status : ℕ) → has code statuses ≡ true → status ≡ code → IsOneOf statuses status
found code [] status never same = absurd (false≢true never)
found code (own ∷ []) status there same = found_last (code_of own == code) code (code_of own) status refl there same
found code (own ∷ next ∷ others) status there same =
    found_first (code_of own == code) (has code (next ∷ others)) code (code_of own) status refl there same
    (λ later. found code (next ∷ others) status later same)

-- whether each of some statuses is one of others
abbrev pub all_in : List Status → List Status → Bool
all_in [] others = true
all_in (status ∷ statuses) others = cond (has (code_of status) others) (all_in statuses others) false

both : (test rest : Bool) → cond test rest false ≡ true → (test ≡ true) × (rest ≡ true)
both true rest holds = (refl, holds)
both false rest never = absurd (false≢true never)

pub included : (statuses others : List Status) (status : ℕ) → all_in statuses others ≡ true → IsOneOf statuses status → IsOneOf others status
included [] others status all never = absurd never
included (own ∷ []) others status all is = found (code_of own) others status (both (has (code_of own) others) true all).0 is
included (own ∷ next ∷ more) others status all (inl is) = found (code_of own) others status (both (has (code_of own) others) (all_in (next ∷ more) others) all).0 is
included (own ∷ next ∷ more) others status all (inr is) =
    included (next ∷ more) others status (both (has (code_of own) others) (all_in (next ∷ more) others) all).1 is
