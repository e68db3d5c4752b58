-- What is told is read back from its bytes.
use Rattle.std.proofs.Common.{◌≡◌, ◌<◌, ◌^◌, ℕ, Bool, true, false, ◌+◌, ◌/◌, ◌%◌, ◌==◌, ◌&&◌, cond, List, [], ◌∷◌, ◌++◌, length, Option, Some, None, option_and_then, if◌then◌else◌, refl, ap, ap₂, ◌∙◌}
use Rattle.std.specs.Int.{bytes_high_first}
use Rattle.std.specs.Str.{bytes_eq}
use Rattle.std.proofs.lemmas.Slice.Eq.{bytes_eq-Decides}
use Rattle.std.proofs.lemmas.Bool.{and_from}
use Rattle.byteorder.specs.Numbers.{big_number-reads_back}
use Rattle.qn_base.specs.declared.ids.Rank.{Rank}
use Rattle.qn_base.specs.lemmas.Options.{some_if_true}
use Rattle.qn_shown.specs.declared.group.Group.{Group}
use Rattle.qn_shown.specs.declared.shown.Told.{Told}
use Rattle.qn_shown.specs.Fits.{ToldFits}
use Rattle.qn_shown.specs.Telling.{flags_of, is_telling, spelled, teller_at, told_at, told_bytes, told_of}
use Rattle.qn_shown.proofs.ValuesBack.{group_of_back}

-- the flags of three answers
abbrev flags : Bool → Bool → Bool → ℕ
flags holds quorate leaving = cond holds 1 0 + cond quorate 2 0 + cond leaving 4 0

record FlagsBack (h q l : Bool) : Type 0 where
  holds : (flags h q l % 2 == 1) ≡ h
  quorate : (flags h q l / 2 % 2 == 1) ≡ q
  leaving : (flags h q l / 4 == 1) ≡ l

flags_back : (holds quorate leaving : Bool) → FlagsBack holds quorate leaving
flags_back true true true = record { holds = refl; quorate = refl; leaving = refl }
flags_back true true false = record { holds = refl; quorate = refl; leaving = refl }
flags_back true false true = record { holds = refl; quorate = refl; leaving = refl }
flags_back true false false = record { holds = refl; quorate = refl; leaving = refl }
flags_back false true true = record { holds = refl; quorate = refl; leaving = refl }
flags_back false true false = record { holds = refl; quorate = refl; leaving = refl }
flags_back false false true = record { holds = refl; quorate = refl; leaving = refl }
flags_back false false false = record { holds = refl; quorate = refl; leaving = refl }

same_told : (first second : Told) → first.group ≡ second.group → first.held_ms ≡ second.held_ms → first.holds ≡ second.holds
    → first.incarnation ≡ second.incarnation → first.leaving ≡ second.leaving → first.quorate ≡ second.quorate → first ≡ second
same_told first second group held_ms holds incarnation leaving quorate = rw (group, held_ms, holds, incarnation, leaving, quorate) refl

fields_back : (from : Rank) (told : Told) → ToldFits told → told_at (told_bytes from told) told.group ≡ told
unfolding told_bytes
fields_back from told fits =
    let flags = flags_back told.holds told.quorate told.leaving in
    same_told (told_at (told_bytes from told) told.group) told refl
    (big_number-reads_back 8 told.held_ms [] fits.0)
    flags.holds
    (big_number-reads_back 8 told.incarnation (bytes_high_first 8 told.held_ms) fits.1)
    flags.leaving
    flags.quorate

long : (from : Rank) (told : Told) → (length (told_bytes from told) == 22) ≡ true
unfolding told_bytes
long from told = refl

teller : (from : Rank) (told : Told) → teller_at (told_bytes from told) ≡ from
unfolding told_bytes
teller from told = refl

abbrev judged_as : List ℕ → Rank → Told → Option (Rank × Told)
judged_as bytes from told = if is_telling from told && bytes_eq (told_bytes from told) bytes then Some (from, told) else None

judged : (bytes : List ℕ) (from : Rank) (told : Told) → teller_at bytes ≡ from → told_at bytes told.group ≡ told → told_bytes from told ≡ bytes
    → is_telling from told ≡ true → spelled bytes told.group ≡ Some (from, told)
judged bytes from told sender same spelling well_formed =
    ap₂ (judged_as bytes) sender same ∙ some_if_true _ (from, told) (and_from _ _ well_formed ((bytes_eq-Decides _ _).1 spelling))

if_long : {A : Type 0} (test : Bool) (found : Option A) → test ≡ true → (if test then found else None) ≡ found
if_long true found is = refl
if_long false found is = cc

pub told_back : (from : Rank) (told : Told) → is_telling from told ≡ true → ToldFits told → told_of (told_bytes from told) ≡ Some (from, told)
unfolding told_of told_bytes
told_back from told well_formed fits =
    if_long (length (told_bytes from told) == 22) _ (long from told)
    ∙ ap (option_and_then (spelled (told_bytes from told))) (group_of_back told.group)
    ∙ judged (told_bytes from told) from told (teller from told) (fields_back from told fits) refl well_formed
