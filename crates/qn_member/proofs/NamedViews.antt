-- The views that a view maker that names makes, and the copies that its node is handed.
use Rattle.std.proofs.Common.{◌≡◌, ◌≢◌, ℕ, ◌+◌, ◌*◌, ◌/◌, ◌%◌, ◌^◌, ◌<◌, Bool, true, false, ◌&&◌, ◌==◌, refl, sym, ◌∙◌, ap, subst, arith, eq-eqb, if◌then◌else◌, Some, None}
use Rattle.std.specs.Prelude.{Option, option_and_then}
use Rattle.std.specs.Option.{option_map_or}
use Rattle.std.proofs.lemmas.Bool.{true≢false}
use Rattle.std.proofs.lemmas.Nat.{div-mul-add}
use Rattle.std.proofs.lemmas.Option.{none-some, same_Some}
use Rattle.qn_base.specs.declared.ids.Mask.{Mask}
use Rattle.qn_base.specs.declared.ids.View.{View}
use Rattle.qn_base.specs.Candidates.{is_barred}
use Rattle.qn_member.specs.Maker.{is_in_one, is_present, led_by}
use Rattle.qn_member.specs.Naming.{NamingMaker, is_own, knows_bit}
use Rattle.qn_member.specs.NamingViews.{chosen_by, company_now, copy_of, followed_by_age, handed, is_closed_to, is_named_anew, looked_by_name, may_begin, may_not_start, members_by_name, own_by_name, seeing_names, view_found, view_of}

-- a test that holds
if_holds : {A : Type 0} (b : Bool) (x y : A) → b ≡ true → (if b then x else y) ≡ x
if_holds true x y is = refl
if_holds false x y is = absurd (true≢false (sym is))

-- ## Own views

-- a view has the number of its members
abbrev HasNumber : NamingMaker → View → Type 0
HasNumber m view = view.id ≡ (view_of m view.members).id

made_of : (m : NamingMaker) (members : Mask) (view : View) → Some (view_of m members) ≡ Some view → HasNumber m view
made_of m members view is = subst (HasNumber m) (same_Some _ _ is) refl

gives_if : (m : NamingMaker) (members : Mask) (view : View) (b : Bool) → (if b then Some (view_of m members) else None) ≡ Some view → HasNumber m view
gives_if m members view true is = made_of m members view is
gives_if m members view false is = absurd (none-some view is)

gives_unless : (m : NamingMaker) (members : Mask) (view : View) (b : Bool) → (if b then None else Some (view_of m members)) ≡ Some view → HasNumber m view
gives_unless m members view true is = absurd (none-some view is)
gives_unless m members view false is = made_of m members view is

gives_of : (m : NamingMaker) (found : Option Mask) (view : View)
    → option_and_then (λ members. if is_present m.maker members then None else Some (view_of m members)) found ≡ Some view → HasNumber m view
gives_of m None view is = absurd (none-some view is)
gives_of m (Some members) view is = gives_unless m members view (is_present m.maker members) is

own_by : (tick : ℕ) (m : NamingMaker) (company : Mask) (view : View) (b : Bool)
    → (if b then (if is_named_anew tick m (view_of m company) then Some (view_of m company) else None)
    else option_and_then (λ members. if is_present m.maker members then None else Some (view_of m members)) (members_by_name tick m company)) ≡ Some view
    → HasNumber m view
own_by tick m company view true is = gives_if m company view (is_named_anew tick m (view_of m company)) is
own_by tick m company view false is = gives_of m (members_by_name tick m company) view is

leads_by : (tick : ℕ) (m : NamingMaker) (company : Mask) (view : View) (b : Bool) → led_by m.maker ≡ Some m.maker.me
    → (if b then option_and_then (λ leader. if leader == m.maker.me then own_by_name tick m company else followed_by_age tick m leader) (led_by m.maker) else None) ≡ Some view
    → HasNumber m view
leads_by tick m company view true leads is =
    own_by tick m company view (is_present m.maker company)
    (sym (ap (λ (b : Bool). if b then own_by_name tick m company else followed_by_age tick m m.maker.me) (eq-eqb m.maker.me m.maker.me refl))
    ∙ (sym (ap (option_and_then (λ (leader : ℕ). if leader == m.maker.me then own_by_name tick m company else followed_by_age tick m leader)) leads) ∙ is))
leads_by tick m company view false leads is = absurd (none-some view is)

pub own_number : (m : NamingMaker) (tick : ℕ) (view : View) → is_own m knows_bit ≡ true
    → led_by (looked_by_name tick m).maker ≡ Some (looked_by_name tick m).maker.me
    → view_found tick m ≡ Some view → HasNumber (looked_by_name tick m) view
unfolding view_found
own_number m tick view own leads found =
    let after = looked_by_name tick m in
    let company = company_now (seeing_names tick m) in
    leads_by tick after company view (may_begin tick after company) leads
    (sym (if_holds (is_own m knows_bit) _ _ own) ∙ found)

-- ## Copies

closed_high : (rest : ℕ) → rest < 2 ^ 56 → (254 * 2 ^ 56 + rest) / 2 ^ 56 ≡ 254
closed_high rest low = div-mul-add 254 (2 ^ 56) rest low

copy_by : (m : NamingMaker) (view : View) (b : Bool) → is_closed_to m view ≡ b → may_not_start m ≡ true
    → chosen_by m.maker (if b then record view { id = 254 * 2 ^ 56 + view.id % 2 ^ 56 } else view) ≢ Some m.maker.me
copy_by m view true is bars chosen =
    let closed : is_barred (record view { id = 254 * 2 ^ 56 + view.id % 2 ^ 56 }) ≡ true =
    eq-eqb _ 254 (closed_high (view.id % 2 ^ 56) (omega arith)) in
    none-some m.maker.me (sym (if_holds (is_barred (record view { id = 254 * 2 ^ 56 + view.id % 2 ^ 56 })) _ _ closed) ∙ chosen)
copy_by m view false is bars chosen =
    let itself : is_closed_to m view ≡ true =
    ap (λ b. b && option_map_or (λ rank. rank == m.maker.me) (chosen_by m.maker view) false) bars
    ∙ (ap (λ (o : Option ℕ). option_map_or (λ rank. rank == m.maker.me) o false) chosen ∙ eq-eqb m.maker.me m.maker.me refl) in
    true≢false (sym itself ∙ is)

copy_not_chosen : (m : NamingMaker) (view : View) → may_not_start m ≡ true → chosen_by m.maker (copy_of m view) ≢ Some m.maker.me
copy_not_chosen m view bars = copy_by m view (is_closed_to m view) refl bars

same_copy_not_chosen : (m : NamingMaker) (present view : View) → may_not_start m ≡ true → Some (copy_of m present) ≡ Some view
    → chosen_by m.maker view ≢ Some m.maker.me
same_copy_not_chosen m present view bars is =
    subst (λ (v : View). chosen_by m.maker v ≢ Some m.maker.me) (same_Some _ _ is) (copy_not_chosen m present bars)

again_by : (m : NamingMaker) (present view : View) (b : Bool) → may_not_start m ≡ true
    → (if b then Some (copy_of m present) else None) ≡ Some view → chosen_by m.maker view ≢ Some m.maker.me
again_by m present view true bars is = same_copy_not_chosen m present view bars is
again_by m present view false bars is = absurd (none-some view is)

again_of : (m : NamingMaker) (present : Option View) (view : View) → may_not_start m ≡ true
    → option_and_then (λ shown. if is_in_one (is_closed_to m shown) m.closed then Some (copy_of m shown) else None) present ≡ Some view
    → chosen_by m.maker view ≢ Some m.maker.me
again_of m None view bars is = absurd (none-some view is)
again_of m (Some present) view bars is = again_by m present view (is_in_one (is_closed_to m present) m.closed) bars is

again_if : (m : NamingMaker) (view : View) (b : Bool) → may_not_start m ≡ true
    → (if b then option_and_then (λ shown. if is_in_one (is_closed_to m shown) m.closed then Some (copy_of m shown) else None) m.maker.view else None) ≡ Some view
    → chosen_by m.maker view ≢ Some m.maker.me
again_if m view true bars is = again_of m m.maker.view view bars is
again_if m view false bars is = absurd (none-some view is)

pub handed_not_chosen : (m : NamingMaker) (found : Option View) (view : View) → may_not_start m ≡ true → handed found m ≡ Some view
    → chosen_by m.maker view ≢ Some m.maker.me
handed_not_chosen m None view bars hands = again_if m view (is_own m knows_bit) bars hands
handed_not_chosen m (Some new) view bars hands = same_copy_not_chosen m new view bars hands
