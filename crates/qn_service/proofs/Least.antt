-- Who is the least member of a view that a look gives made that view itself, where not all know names; and a view stays.
use Rattle.std.proofs.Common.{◌≡◌, ◌⊎◌, inl, inr, ℕ, ◌<◌, ◌≤◌, Bool, true, false, ◌&&◌, ◌==◌, Option, None, Some, length, if◌then◌else◌, refl, sym, ◌∙◌, ap, arith, eq-eqb}
use Rattle.std.specs.Prelude.{nat_le, option_and_then, option_map}
use Rattle.std.specs.Option.{option_or}
use Rattle.std.proofs.lemmas.Bool.Decides.{nat_tests}
use Rattle.std.proofs.lemmas.Bool.{and_parts, cases_order, false≢true, or_left}
use Rattle.qn_base.specs.declared.ids.Mask.{Mask}
use Rattle.qn_base.specs.declared.ids.Rank.{Rank}
use Rattle.qn_base.specs.declared.ids.View.{View}
use Rattle.qn_base.specs.Members.{is_member}
use Rattle.qn_model.specs.lemmas.LeastRanks.{least_below}
use Rattle.qn_member.specs.Following.{LeadsAble, LeadsLeast}
use Rattle.qn_member.specs.Maker.{Maker, after_tick, company_at, followed, followed_view, installed, installed_beside, is_present, is_visible, leader_at, least_of, led_by, looked, may_install, view_at, visible_nodes}
use Rattle.qn_member.specs.Naming.{NamingMaker, followed_by_name, is_own, knows_bit}
use Rattle.qn_member.specs.NamingViews.{after_by_name, after_found, after_look, after_plain_look, company_now, facts_seen, followed_by_age, is_named_anew, looked_by_name, may_begin, own_by_name, seeing_names, view_by_name, view_found, view_of}
use Rattle.qn_service.specs.Leading.{MakesView, TakesView, company_then, leader_then, names_then}
use Rattle.qn_service.proofs.Made.{if_is, leading_keeps, looked_notes, made_or_taken, noted_then}
use Rattle.qn_service.proofs.Ranks.{passes_in}

-- where not all know names the leader is that of a view maker without names
pub rank_again : (found : Option ℕ) → option_map (λ (rank : Rank). rank.0) (option_map (λ rank. record { 0 = rank }) found) ≡ found
rank_again None = refl
rank_again (Some rank) = refl

plain_leader : (tick : ℕ) (m : NamingMaker) → names_then tick m ≡ false → led_by (noted_then tick m) ≡ leader_at (seeing_names tick m).maker
plain_leader tick m unnamed =
    let seen = seeing_names tick m in
    ap (λ found. option_or found (least_of seen.maker seen.maker.seen))
    (ap (λ b. option_map (λ (rank : Rank). rank.0) (option_map (λ rank. record { 0 = rank }) (if b then followed_by_name seen (facts_seen seen) else followed seen.maker seen.maker.seen))) unnamed
    ∙ rank_again (followed seen.maker seen.maker.seen))

leads_plainly : (tick : ℕ) (m : NamingMaker) (leader : ℕ) → names_then tick m ≡ false → leader_then tick m ≡ Some leader
    → leader_at (seeing_names tick m).maker ≡ Some leader
leads_plainly tick m leader unnamed leads = by_own (is_own m knows_bit) refl
  where
    by_own : (b : Bool) → is_own m knows_bit ≡ b → leader_at (seeing_names tick m).maker ≡ Some leader
    by_own true own =
        sym (ap led_by (looked_notes tick m) ∙ plain_leader tick m unnamed)
        ∙ (sym (if_is true (is_own m knows_bit) (led_by (looked_by_name tick m).maker) (leader_at (looked tick m.maker)) own) ∙ leads)
    by_own false own = sym (if_is false (is_own m knows_bit) (led_by (looked_by_name tick m).maker) (leader_at (looked tick m.maker)) own) ∙ leads

-- such a leader is not above the node
leads_below : (m : Maker) (leader : ℕ) → is_member m.seen m.me ≡ true → LeadsAble m leader ⊎ LeadsLeast m leader → leader ≤ m.me
leads_below m leader seen (inl able) =
    let parts = and_parts (is_member m.seen leader && nat_le leader m.me) _ able.0 in
    let two = and_parts (is_member m.seen leader) (nat_le leader m.me) parts.0 in
    lebs two.1
  where
    lebs : nat_le leader m.me ≡ true → leader ≤ m.me
    lebs is = grind (arith, nat_tests)
leads_below m leader seen (inr least) = by_order (cases_order leader m.me)
  where
    by_order : (leader ≡ m.me) ⊎ ((leader < m.me) ⊎ (m.me < leader)) → leader ≤ m.me
    by_order (inl same) = omega arith
    by_order (inr (inl under)) = omega arith
    by_order (inr (inr over)) = absurd (false≢true (sym (least.2 m.me over) ∙ seen))

pub least_made : ((m : Maker) (leader : ℕ) → leader_at m ≡ Some leader → LeadsAble m leader ⊎ LeadsLeast m leader)
    → (m : NamingMaker) (tick : ℕ) (view : View) → m.maker.me < length m.maker.nodes → names_then tick m ≡ false → view_found tick m ≡ Some view
    → least_of m.maker view.members ≡ Some m.maker.me → leader_then tick m ≡ Some m.maker.me
least_made leads_law m tick view under unnamed found least = by_came (made_or_taken tick m view found)
  where
    seen : is_member (visible_nodes tick m.maker) m.maker.me ≡ true
    seen = passes_in (is_visible tick m.maker) (length m.maker.nodes) m.maker.me under (or_left (m.maker.me == m.maker.me) _ (eq-eqb m.maker.me m.maker.me refl))

    by_order : (leader : ℕ) → leader_then tick m ≡ Some leader → is_member view.members leader ≡ true → leader ≤ m.maker.me
        → (leader ≡ m.maker.me) ⊎ ((leader < m.maker.me) ⊎ (m.maker.me < leader)) → leader_then tick m ≡ Some m.maker.me
    by_order leader leads member below (inl same) = leads ∙ ap Some same
    by_order leader leads member below (inr (inl under)) =
        absurd (false≢true (sym (least_below (length m.maker.nodes) 0 (is_member view.members) m.maker.me least leader (omega arith) under) ∙ member))
    by_order leader leads member below (inr (inr over)) = absurd (omega arith)

    by_came : MakesView tick m view ⊎ TakesView tick m view → leader_then tick m ≡ Some m.maker.me
    by_came (inl makes) = makes.leads
    by_came (inr takes) =
        by_order takes.leader takes.leads takes.has_leader
        (leads_below (seeing_names tick m).maker takes.leader seen (leads_law (seeing_names tick m).maker takes.leader (leads_plainly tick m takes.leader unnamed takes.leads)))
        (cases_order takes.leader m.maker.me)

-- ## A view stays

own_stays : (tick : ℕ) (m : NamingMaker) (company : Mask) → is_present m.maker company ≡ true → is_named_anew tick m (view_of m company) ≡ false
    → own_by_name tick m company ≡ None
own_stays tick m company present kept =
    if_is true (is_present m.maker company) _ _ present ∙ if_is false (is_named_anew tick m (view_of m company)) (Some (view_of m company)) None kept

nothing_due : (may : Bool) (leader : Option ℕ) (me : ℕ) (own : Option View) (taken : ℕ → Option View) → leader ≡ Some me → own ≡ None
    → (if may then option_and_then (λ who. if who == me then own else taken who) leader else None) ≡ None
nothing_due true leader me own taken leads none =
    ap (option_and_then (λ who. if who == me then own else taken who)) leads ∙ (if_is true (me == me) own (taken me) (eq-eqb me me refl) ∙ none)
nothing_due false leader me own taken leads none = refl

pub view_stays : (m : NamingMaker) (tick : ℕ) → leader_then tick m ≡ Some m.maker.me → is_present m.maker (company_then tick m) ≡ true
    → is_named_anew tick (looked_by_name tick m) (view_of (looked_by_name tick m) (company_then tick m)) ≡ false → view_found tick m ≡ None
unfolding view_found view_at
view_stays m tick leads present kept = by_own (is_own m knows_bit) refl
  where
    by_own : (b : Bool) → is_own m knows_bit ≡ b → view_found tick m ≡ None
    by_own true own =
        let after = looked_by_name tick m in
        let same : after.maker ≡ noted_then tick m = looked_notes tick m in
        let together : company_then tick m ≡ company_now (seeing_names tick m) = if_is true (is_own m knows_bit) _ _ own in
        let there : is_present after.maker (company_now (seeing_names tick m)) ≡ true =
        ap (λ (k : Maker). is_present k (company_now (seeing_names tick m))) same ∙ (sym (ap (is_present m.maker) together) ∙ present) in
        let who : led_by after.maker ≡ Some after.maker.me =
        sym (if_is true (is_own m knows_bit) (led_by after.maker) (leader_at (looked tick m.maker)) own) ∙ (leads ∙ ap Some (sym (ap (λ (k : Maker). k.me) same))) in
        if_is true (is_own m knows_bit) _ _ own
        ∙ nothing_due (may_begin tick after (company_now (seeing_names tick m))) (led_by after.maker) after.maker.me _ (followed_by_age tick after) who
        (own_stays tick after (company_now (seeing_names tick m)) there
        (sym (ap (λ company. is_named_anew tick after (view_of after company)) together) ∙ kept))
    by_own false own =
        let k = looked tick m.maker in
        let together : company_then tick m ≡ company_at k = if_is false (is_own m knows_bit) _ _ own in
        let there : is_present k (company_at k) ≡ true = sym (ap (is_present m.maker) together) ∙ present in
        if_is false (is_own m knows_bit) _ _ own
        ∙ nothing_due (may_install tick k (company_at k)) (leader_at k) m.maker.me _ (followed_view k)
        (sym (if_is false (is_own m knows_bit) (led_by (looked_by_name tick m).maker) (leader_at k) own) ∙ leads)
        (if_is true (is_present k (company_at k)) None _ there)

-- a look that finds no view leaves the present one
pub keeps_view : (m : NamingMaker) (tick : ℕ) → view_found tick m ≡ None → (after_look tick m).maker.view ≡ m.maker.view
unfolding view_found after_found after_look after_tick view_at
keeps_view m tick none = by_own (is_own m knows_bit) refl
  where
    by_own : (b : Bool) → is_own m knows_bit ≡ b → (after_look tick m).maker.view ≡ m.maker.view
    by_own true own =
        ap (λ (k : NamingMaker). k.maker.view) (if_is true (is_own m knows_bit) (after_by_name tick m) (after_plain_look tick m) own)
        ∙ (ap (λ found. (installed_beside (company_now (seeing_names tick m)) found (looked_by_name tick m).maker).view)
        (sym (if_is true (is_own m knows_bit) (view_by_name tick m) (view_at tick m.maker) own) ∙ none)
        ∙ ap (λ (k : Maker). k.view) (looked_notes tick m))
    by_own false own =
        ap (λ (k : NamingMaker). k.maker.view) (if_is false (is_own m knows_bit) (after_by_name tick m) (after_plain_look tick m) own)
        ∙ (ap (λ (k : Maker). k.view) (leading_keeps tick (led_by (after_tick tick m.maker)) (record m { maker = after_tick tick m.maker }) (after_tick tick m.maker) refl)
        ∙ ap (λ found. (installed found (looked tick m.maker)).view) (sym (if_is false (is_own m knows_bit) (view_by_name tick m) (view_at tick m.maker) own) ∙ none))
