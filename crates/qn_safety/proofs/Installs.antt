-- Along a log the install number rises with each view, and the view stays where the number does.
use Rattle.std.proofs.Common.{◌≡◌, ℕ, suc, ◌≤◌, Bool, true, false, List, [], ◌∷◌, Some, None, Option, refl, ap, ap₂, ◌∙◌, arith, ◌&&◌, ◌==◌, if◌then◌else◌}
use Rattle.std.specs.Prelude.{is_some}
use Rattle.std.specs.Option.{option_or, option_map_or}
use Rattle.std.proofs.lemmas.Bool.{eqb-true, false≢true}
use Rattle.qn_base.specs.declared.ids.View.{View}
use Rattle.qn_base.specs.lemmas.Bools.{first_of_both, second_of_both}
use Rattle.qn_model.specs.Log.{Line, is_view, view_of}
use Rattle.qn_model.specs.Moments.{Before, Itself, Later}
use Rattle.qn_model.specs.NodeVotes.{install, view, is_same_view, is_present}

-- what is no view leaves the install number and the view
pub same_install : (line : Line) (past : List Line) → view_of line.what ≡ None → install (line ∷ past) ≡ install past
unfolding install
same_install line past none = ap (λ o. if is_some o then suc (install past) else install past) none

pub same_view : (line : Line) (past : List Line) → view_of line.what ≡ None → view (line ∷ past) ≡ view past
unfolding view
same_view line past none = ap (λ o. option_or o (view past)) none

-- along a log the install number rises with each view
install_step : (line : Line) (past : List Line) → install past ≤ install (line ∷ past)
unfolding install
install_step line past = by_view (is_view line.what)
  where
    by_view : (b : Bool) → install past ≤ (if b then suc (install past) else install past)
    by_view true = omega arith
    by_view false = omega arith

pub install_le : {old new : List Line} → Before old new → install old ≤ install new
install_le Itself = omega arith
install_le (Later newest {new = rest} more) = let p = install_le more in let q = install_step newest rest in omega arith

installs_more : (line : Line) (past : List Line) → is_view line.what ≡ true → install (line ∷ past) ≡ suc (install past)
unfolding install
installs_more line past is = ap (λ b. if b then suc (install past) else install past) is

-- with the install number the view stays
pub view_stays : {old new : List Line} → Before old new → install old ≡ install new → view new ≡ view old
view_stays Itself same = refl
view_stays {old = old} (Later newest {new = rest} more) same = by_view (view_of newest.what) refl (λ e. view_stays more e)
  where
    by_view : (o : Option View) → view_of newest.what ≡ o → (install old ≡ install rest → view rest ≡ view old) → view (newest ∷ rest) ≡ view old
    by_view None e deeper = same_view newest rest e ∙ deeper (same ∙ same_install newest rest e)
    by_view (Some seen) e deeper =
        absurd (let p = install_le more in let q = installs_more newest rest (ap is_some e) in omega arith)

abbrev view_by : ℕ → ℕ → View
view_by id mask = record { id = id; members = record { 0 = mask } }

-- two views of one number and of the same members are one view
pub one_view : (own seen : View) → is_same_view own seen ≡ true → own ≡ seen
one_view own seen e =
    let ids = eqb-true own.id seen.id (first_of_both (own.id == seen.id) (own.members.0 == seen.members.0) e) in
    let masks = eqb-true own.members.0 seen.members.0 (second_of_both (own.id == seen.id) (own.members.0 == seen.members.0) e) in
    ap₂ view_by ids masks

-- the present view is that one
pub view_is : (log : List Line) (seen : View) → is_present log seen ≡ true → view log ≡ Some seen
view_is log seen e = by_view (view log) e
  where
    by_view : (found : Option View) → option_map_or (λ own. is_same_view own seen) found false ≡ true → found ≡ Some seen
    by_view None none = absurd (false≢true none)
    by_view (Some own) same = ap Some (one_view own seen same)
