-- The company of a leader becomes its view.
use Rattle.std.proofs.Common.{◌≡◌, ℕ, ◌+◌, ◌≤◌, Bool, true, false, not, ◌||◌, ◌==◌, Option, None, Some, IfSome, is_some, if◌then◌else◌, nat_le, refl, sym, ◌∙◌, ap, subst, arith}
use Rattle.std.specs.Prelude.{option_and_then, option_map}
use Rattle.std.specs.Option.{option_map_or}
use Rattle.std.proofs.lemmas.Bool.{eq-eqb, eqb-true, false≢true, le-leb}
use Rattle.qn_base.specs.declared.ids.Mask.{Mask}
use Rattle.qn_base.specs.declared.ids.View.{View}
use Rattle.qn_model.specs.Votes.{are_all_in}
use Rattle.qn_member.specs.declared.change.Change.{Change}
use Rattle.qn_member.specs.Maker.{Maker, change_at, changed, disputed_nodes, installed_beside, is_present, is_quiet, is_steady, kept_nodes, known_nodes, led_by, members_at, overdue_nodes}
use Rattle.qn_member.specs.Naming.{NamingMaker, is_own, knows_bit}
use Rattle.qn_member.specs.NamingViews.{after_by_name, after_found, after_look, after_plain_look, company_now, followed_by_age, is_named_anew, is_sixth_loop, looked_by_name, may_begin, members_by_name, next_by_name, own_by_name, seeing_names, view_by_name, view_found, view_of}
use Rattle.qn_member.specs.Maker as maker
use Rattle.qn_service.specs.Company.{Again, FindsCompany, FoundSince, IsSettled, Once}
use Rattle.qn_service.proofs.Made.{if_is, looked_notes, noted_then}

-- these are the present members, or the present change has them since a tick at the latest
data Goes (since : ℕ) (company : Mask) (m : Maker) : Type 0 where
  Present : is_present m company ≡ true → Goes since company m
  Changes : (change : Change) → m.change ≡ Some change → change.visible ≡ company → change.since ≤ since → Goes since company m

goes_by : {since : ℕ} {company : Mask} {m after : Maker} → after.view ≡ m.view → after.change ≡ m.change → Goes since company m → Goes since company after
goes_by {company = company} view change (Present is) = Present (ap (λ v. option_map_or (λ present. present.members.0 == company.0) v false) view ∙ is)
goes_by view change (Changes c is same soon) = Changes c (change ∙ is) same soon

-- a change of this company that a look finds anew, or goes on with
fresh : (tick : ℕ) (company : Mask) (before : Option Change) → IfSome before (λ c. c.since ≤ tick)
    → ((changed tick before company).visible ≡ company) × ((changed tick before company).since ≤ tick)
fresh tick company None early = (refl, omega arith)
fresh tick company (Some c) early = by_test (c.visible.0 == company.0) refl
  where
    by_test : (b : Bool) → (c.visible.0 == company.0) ≡ b
        → ((if b then c else record { visible = company; since = tick; begun = c.begun }).visible ≡ company)
        × ((if b then c else record { visible = company; since = tick; begun = c.begun }).since ≤ tick)
    by_test true same = (ap (λ n. record { 0 = n }) (eqb-true c.visible.0 company.0 same), early)
    by_test false other = (refl, omega arith)

goes_on : (tick : ℕ) (company : Mask) (c : Change) → c.visible ≡ company → changed tick (Some c) company ≡ c
goes_on tick company c same =
    ap (λ b. if b then c else record { visible = company; since = tick; begun = c.begun }) (eq-eqb c.visible.0 company.0 (ap (λ (v : Mask). v.0) same))

-- ## One look

-- what a node that knows names knows after it
pub after_look_is : (tick : ℕ) (m : NamingMaker) → is_own m knows_bit ≡ true
    → (after_look tick m).maker ≡ installed_beside (company_now (seeing_names tick m)) (view_by_name tick m) (looked_by_name tick m).maker
unfolding after_look after_found
after_look_is tick m knows = ap (λ (n : NamingMaker). n.maker) (if_is true (is_own m knows_bit) (after_by_name tick m) (after_plain_look tick m) knows)

module _ (company : Mask) (tick : ℕ) (m : NamingMaker) (is : FindsCompany company tick m) where
  finds_now : company_now (seeing_names tick m) ≡ company
  finds_now = sym (if_is true (is_own m knows_bit) (company_now (seeing_names tick m)) (maker.company_at (maker.looked tick m.maker)) is.knows) ∙ is.finds

  found_by_name : view_found tick m ≡ view_by_name tick m
  unfolding view_found
  found_by_name = if_is true (is_own m knows_bit) (view_by_name tick m) (maker.view_at tick m.maker) is.knows

  gives_so : (view : View) → view_by_name tick m ≡ Some view → view.members ≡ company
  gives_so view found = subst (λ (o : Option View). IfSome o (λ v. v.members ≡ company)) (found_by_name ∙ found) is.gives

  after_is : (after_look tick m).maker ≡ installed_beside (company_now (seeing_names tick m)) (view_by_name tick m) (looked_by_name tick m).maker
  after_is = after_look_is tick m is.knows

  -- the change that it notes
  noted_change : (looked_by_name tick m).maker.change ≡ (if is_present m.maker company then None else Some (changed tick m.maker.change company))
  noted_change = ap (λ (k : Maker). k.change) (looked_notes tick m) ∙ ap (λ (c : Mask). if is_present m.maker c then None else Some (changed tick m.maker.change c)) finds_now

  noted_view : (looked_by_name tick m).maker.view ≡ m.maker.view
  noted_view = ap (λ (k : Maker). k.view) (looked_notes tick m)

  present_noted : is_present m.maker company ≡ true → is_present (looked_by_name tick m).maker company ≡ true
  present_noted here = ap (λ v. option_map_or (λ present. present.members.0 == company.0) v false) noted_view ∙ here

  noted_first : IfSome m.maker.change (λ c. c.since ≤ tick) → Goes tick company (looked_by_name tick m).maker
  noted_first early = by_present (is_present m.maker company) refl
    where
      by_present : (b : Bool) → is_present m.maker company ≡ b → Goes tick company (looked_by_name tick m).maker
      by_present true here = Present (present_noted here)
      by_present false away =
          let next = fresh tick company m.maker.change early in
          Changes (changed tick m.maker.change company)
          (noted_change ∙ ap (λ b. if b then None else Some (changed tick m.maker.change company)) away) next.0 next.1

  noted_next : (since : ℕ) → Goes since company m.maker → Goes since company (looked_by_name tick m).maker
  noted_next since (Present here) = Present (present_noted here)
  noted_next since (Changes c found same soon) = by_present (is_present m.maker company) refl
    where
      by_present : (b : Bool) → is_present m.maker company ≡ b → Goes since company (looked_by_name tick m).maker
      by_present true here = Present (present_noted here)
      by_present false away =
          Changes c
          (noted_change ∙ ap (λ b. if b then None else Some (changed tick m.maker.change company)) away
          ∙ ap (λ (o : Option Change). Some (changed tick o company)) found ∙ ap Some (goes_on tick company c same)) same soon

  -- the members of a view that it gives, and what goes on without one
  after_goes : (since : ℕ) → Goes since company (looked_by_name tick m).maker → Goes since company (after_look tick m).maker
  after_goes since goes = subst (λ (k : Maker). Goes since company k) (sym after_is) (by_view (view_by_name tick m) refl)
    where
      by_view : (found : Option View) → view_by_name tick m ≡ found
          → Goes since company (installed_beside (company_now (seeing_names tick m)) found (looked_by_name tick m).maker)
      by_view None none = goes
      by_view (Some view) found = Present (eq-eqb view.members.0 company.0 (ap (λ (v : Mask). v.0) (gives_so view found)))

-- ## Look after look

noted_since : {company : Mask} {since tick : ℕ} {m : NamingMaker} → FoundSince company since tick m → Goes since company (looked_by_name tick m).maker
noted_since {company = company} {since = since} (Once m early is) = noted_first company since m is early
noted_since {company = company} {since = since} (Again {tick = tick} {m = m} next after before same is) =
    noted_next company next after is since (goes_by same.view same.change (after_goes company tick m (last_finds before) since (noted_since before)))
  where
    last_finds : {tick' : ℕ} {n : NamingMaker} → FoundSince company since tick' n → FindsCompany company tick' n
    last_finds (Once n early finds) = finds
    last_finds (Again next' n before' same' finds) = finds

last_is : {company : Mask} {since tick : ℕ} {m : NamingMaker} → FoundSince company since tick m → FindsCompany company tick m
last_is (Once m early is) = is
last_is (Again next after before same is) = is

-- where the company is steady, and nobody is in dispute, a view is of it
members_settled : (tick : ℕ) (l : NamingMaker) (company : Mask) → is_steady tick l.maker ≡ true → ((disputed_nodes tick l.maker company).0 == 0) ≡ true
    → members_by_name tick l company ≡ Some company
members_settled tick l company steady agreed = by_known (is_some l.maker.view) (are_all_in l.maker.nodes (known_nodes l.maker company)) (is_sixth_loop tick l.maker)
  where
    by_known : (has known sixth : Bool)
        → (if has
        then (if known then Some company
        else (if not has then (if option_map_or (is_quiet tick l.maker) l.maker.change false then Some company else None)
        else (if not ((disputed_nodes tick l.maker company).0 == 0) then None
        else (if is_steady tick l.maker then Some company else (if (overdue_nodes tick l.maker).0 == 0 then None else Some (kept_nodes tick l.maker company))))))
        else (if known || is_steady tick l.maker || sixth then Some company else None))
        ≡ Some company
    by_known true true sixth = refl
    by_known true false sixth =
        ap (λ b. if not b then None else (if is_steady tick l.maker then Some company else (if (overdue_nodes tick l.maker).0 == 0 then None else Some (kept_nodes tick l.maker company)))) agreed
        ∙ ap (λ b. if b then Some company else (if (overdue_nodes tick l.maker).0 == 0 then None else Some (kept_nodes tick l.maker company))) steady
    by_known false true sixth = refl
    by_known false false sixth = ap (λ b. if false || b || sixth then Some company else None) steady

-- so a leader of which these are not the present members makes a view of them
makes_view : (tick : ℕ) (l : NamingMaker) (company : Mask) → may_begin tick l company ≡ true → led_by l.maker ≡ Some l.maker.me → is_present l.maker company ≡ false
    → members_by_name tick l company ≡ Some company → next_by_name tick l company ≡ Some (view_of l company)
makes_view tick l company begins leads away settled =
    ap (λ b. if b then option_and_then (λ leader. if leader == l.maker.me then own_by_name tick l company else followed_by_age tick l leader) (led_by l.maker) else None) begins
    ∙ ap (λ (o : Option ℕ). option_and_then (λ leader. if leader == l.maker.me then own_by_name tick l company else followed_by_age tick l leader) o) leads
    ∙ ap (λ b. if b then own_by_name tick l company else followed_by_age tick l l.maker.me) (eq-eqb l.maker.me l.maker.me refl)
    ∙ ap (λ b. if b then (if is_named_anew tick l (view_of l company) then Some (view_of l company) else None)
    else option_and_then (λ members. if is_present l.maker members then None else Some (view_of l members)) (members_by_name tick l company)) away
    ∙ ap (λ (o : Option Mask). option_and_then (λ members. if is_present l.maker members then None else Some (view_of l members)) o) settled
    ∙ ap (λ b. if b then None else Some (view_of l company)) away

pub company_is_view : (company : Mask) (since tick : ℕ) (m : NamingMaker) → IsSettled company since tick m
    → option_map (λ view. view.members) (after_look tick m).maker.view ≡ Some company
company_is_view company since tick m settled =
    ap (λ (k : Maker). option_map (λ v. v.members) k.view) (after_is company tick m is) ∙ by_view (view_by_name tick m) refl
  where
    l : NamingMaker
    l = looked_by_name tick m

    is : FindsCompany company tick m
    is = last_is settled.found

    members : (present : Option View) → option_map_or (λ p. p.members.0 == company.0) present false ≡ true → option_map (λ v. v.members) present ≡ Some company
    members None here = absurd (false≢true here)
    members (Some view) here = ap (λ n. Some (record { 0 = n })) (eqb-true view.members.0 company.0 here)

    same : (looked_by_name tick m).maker ≡ noted_then tick m
    same = looked_notes tick m

    leads : led_by (looked_by_name tick m).maker ≡ Some (looked_by_name tick m).maker.me
    leads =
        sym (if_is true (is_own m knows_bit) (led_by (looked_by_name tick m).maker) (maker.leader_at (maker.looked tick m.maker)) is.knows) ∙ settled.leads
        ∙ ap Some (sym (ap (λ (k : Maker). k.me) same))

    steady_by : (c : Change) → (looked_by_name tick m).maker.change ≡ Some c → c.since ≤ since → is_steady tick (looked_by_name tick m).maker ≡ true
    steady_by c found soon =
        ap (λ (o : Option Change). option_map_or (λ d. nat_le (d.since + (looked_by_name tick m).maker.loop_ms) tick) o false) found
        ∙ ap (λ loop. nat_le (c.since + loop) tick) (ap (λ (k : Maker). k.loop_ms) same)
        ∙ le-leb (c.since + m.maker.loop_ms) tick (let late = settled.late in omega (arith, soon, late))

    given : is_present (looked_by_name tick m).maker company ≡ false → Goes since company (looked_by_name tick m).maker
        → view_by_name tick m ≡ Some (view_of (looked_by_name tick m) company)
    given away (Present here) = absurd (false≢true (sym away ∙ here))
    given away (Changes c found visible soon) =
        ap (λ (k : Mask). next_by_name tick (looked_by_name tick m) k) (finds_now company tick m is)
        ∙ makes_view tick (looked_by_name tick m) company settled.begins leads away
        (members_settled tick (looked_by_name tick m) company (steady_by c found soon) (eq-eqb _ 0 settled.agreed))

    none_given : is_present (looked_by_name tick m).maker company ≡ false → view_by_name tick m ≡ None → ⊥
    none_given away none = let some = given away (noted_since settled.found) in absurd (let no = sym none ∙ some in cc)

    by_present : (b : Bool) → is_present (looked_by_name tick m).maker company ≡ b → view_by_name tick m ≡ None
        → option_map (λ v. v.members) (looked_by_name tick m).maker.view ≡ Some company
    by_present true here none = members (looked_by_name tick m).maker.view here
    by_present false away none = absurd (none_given away none)

    by_view : (found : Option View) → view_by_name tick m ≡ found
        → option_map (λ v. v.members) (installed_beside (company_now (seeing_names tick m)) found (looked_by_name tick m).maker).view ≡ Some company
    by_view None none = by_present (is_present (looked_by_name tick m).maker company) refl none
    by_view (Some view) found = ap Some (gives_so company tick m is view found)
