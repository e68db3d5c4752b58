-- Each look makes its view or takes it, and whom a view that it makes leaves out.
use Rattle.std.proofs.Common.{◌≡◌, ◌⊎◌, inl, inr, ℕ, Bool, true, false, ◌&&◌, ◌||◌, ◌==◌, Option, None, Some, if◌then◌else◌, refl, sym, ◌∙◌, ap, subst}
use Rattle.std.specs.Prelude.{option_and_then}
use Rattle.std.proofs.lemmas.Bool.{and_parts, eqb-true}
use Rattle.std.proofs.lemmas.Option.{none-some, same_Some}
use Rattle.qn_base.specs.declared.ids.View.{View}
use Rattle.qn_base.specs.Members.{is_member}
use Rattle.qn_member.specs.Maker.{Maker, company_at, followed_view, is_taken, leader_at, led_by, looked, may_install, of_rank, own_view, view_at}
use Rattle.qn_member.specs.Naming.{NamingMaker, is_own, knows_bit}
use Rattle.qn_member.specs.NamingViews.{company_now, followed_by_age, is_led_by, is_newer_of, is_proven, lead_since, leading, looked_by_name, may_begin, own_by_name, said_by_name, seeing_names, view_by_name, view_found}
use Rattle.qn_member.specs.Maker as maker
use Rattle.qn_service.specs.Leading.{MakesView, TakesView, leader_then}

-- ## What a look knows

-- who leads since when changes nothing that a view maker without names knows
pub leading_keeps : (tick : ℕ) (leader : Option ℕ) (m : NamingMaker) (k : Maker) → m.maker ≡ k → (leading tick leader m).maker ≡ k
leading_keeps tick leader m k same = by_test (is_led_by m leader)
  where
    by_test : (b : Bool) → (if b then m else record m { lead = lead_since tick leader; came = record { 0 = 0 } }).maker ≡ k
    by_test true = same
    by_test false = same

-- the view maker after the look, where all is noted
abbrev pub noted_then : ℕ → NamingMaker → Maker
noted_then tick m = maker.noted_with tick (company_now (seeing_names tick m)) (said_by_name tick (seeing_names tick m)) (seeing_names tick m).maker

pub looked_notes : (tick : ℕ) (m : NamingMaker) → (looked_by_name tick m).maker ≡ noted_then tick m
looked_notes tick m = leading_keeps tick (led_by (noted_then tick m)) (record (seeing_names tick m) { maker = noted_then tick m }) (noted_then tick m) refl

-- ## A view is made or taken

-- what passes a test
pub filtered : {A : Type 0} (test : A → Bool) (found : Option A) (a : A) → option_and_then (λ x. if test x then Some x else None) found ≡ Some a
    → (found ≡ Some a) × (test a ≡ true)
filtered test None a is = absurd (none-some a is)
filtered test (Some x) a is = by_test (test x) refl is
  where
    by_test : (b : Bool) → test x ≡ b → (if b then Some x else None) ≡ Some a → (Some x ≡ Some a) × (test a ≡ true)
    by_test true passes is = (is, subst (λ y. test y ≡ true) (same_Some x a is) passes)
    by_test false fails is = absurd (none-some a is)

-- a view that is followed was announced, and has both
pub record Followed (m : Maker) (leader : ℕ) (view : View) : Type 0 where
  pub announced : of_rank m.announced leader ≡ Some view
  pub has_leader : is_member view.members leader ≡ true
  pub has_own : is_member view.members m.me ≡ true

pub followed_was : (m : Maker) (leader : ℕ) (view : View) → followed_view m leader ≡ Some view → Followed m leader view
followed_was m leader view is =
    let both = filtered (is_taken m leader) (of_rank m.announced leader) view is in
    let parts = and_parts (is_member view.members m.me && is_member view.members leader) _ both.1 in
    let two = and_parts (is_member view.members m.me) (is_member view.members leader) parts.0 in
    record { announced = both.0; has_leader = two.1; has_own = two.0 }

-- the view of a leader, by whether that is the node itself
abbrev pub CameOf : Option View → Option View → Bool → View → Type 0
CameOf own taken is_own view = ((is_own ≡ true) × (own ≡ Some view)) ⊎ ((is_own ≡ false) × (taken ≡ Some view))

chosen_way : (own taken : Option View) (is_own : Bool) (view : View) → (if is_own then own else taken) ≡ Some view → CameOf own taken is_own view
chosen_way own taken true view is = inl (refl, is)
chosen_way own taken false view is = inr (refl, is)

-- a next view comes of a leader, once it may
pub record NextBy (may : Bool) (leader : Option ℕ) (me : ℕ) (own : Option View) (taken : ℕ → Option View) (view : View) : Type 0 where
  pub due : may ≡ true
  pub who : ℕ
  pub leads : leader ≡ Some who
  pub came : CameOf own (taken who) (who == me) view

next_was : (may : Bool) (leader : Option ℕ) (me : ℕ) (own : Option View) (taken : ℕ → Option View) (view : View)
    → (if may then option_and_then (λ who. if who == me then own else taken who) leader else None) ≡ Some view
    → NextBy may leader me own taken view
next_was true (Some who) me own taken view is = record { due = refl; who = who; leads = refl; came = chosen_way own (taken who) (who == me) view is }
next_was true None me own taken view is = absurd (none-some view is)
next_was false leader me own taken view is = absurd (none-some view is)

-- an older view is taken as any other
pub aged : (tick : ℕ) (m : NamingMaker) (leader : ℕ) (view : View) → followed_by_age tick m leader ≡ Some view → followed_view m.maker leader ≡ Some view
aged tick m leader view = by_known (maker.is_configured m.maker leader)
  where
    by_known : (b : Bool) → (if b then option_and_then (λ seen. if is_newer_of m leader seen || is_proven tick m then Some seen else None) (followed_view m.maker leader) else None) ≡ Some view
        → followed_view m.maker leader ≡ Some view
    by_known true is = (filtered (λ seen. is_newer_of m leader seen || is_proven tick m) (followed_view m.maker leader) view is).0
    by_known false is = absurd (none-some view is)

-- the view of a look of a node that knows names
pub name_way : (tick : ℕ) (m : NamingMaker) (view : View) → view_by_name tick m ≡ Some view
    → NextBy (may_begin tick (looked_by_name tick m) (company_now (seeing_names tick m))) (led_by (looked_by_name tick m).maker) (looked_by_name tick m).maker.me
    (own_by_name tick (looked_by_name tick m) (company_now (seeing_names tick m))) (followed_by_age tick (looked_by_name tick m)) view
name_way tick m view is = next_was _ _ _ _ _ view is

pub plain_way : (tick : ℕ) (m : Maker) (view : View) → view_at tick m ≡ Some view
    → NextBy (may_install tick (looked tick m) (company_at (looked tick m))) (leader_at (looked tick m)) m.me
    (own_view tick (looked tick m) (company_at (looked tick m))) (followed_view (looked tick m)) view
unfolding view_at
plain_way tick m view is = next_was _ _ _ _ _ view is

pub if_is : {A : Type 0} (c b : Bool) (x y : A) → b ≡ c → (if b then x else y) ≡ (if c then x else y)
if_is c b x y is = ap (λ test. if test then x else y) is

name_came : (tick : ℕ) (m : NamingMaker) (view : View) → is_own m knows_bit ≡ true → view_found tick m ≡ Some view → view_by_name tick m ≡ Some view
    → MakesView tick m view ⊎ TakesView tick m view
name_came tick m view own found is = by_way (name_way tick m view is)
  where
    same : (looked_by_name tick m).maker ≡ noted_then tick m
    same = looked_notes tick m

    leads_so : (who : ℕ) → led_by (looked_by_name tick m).maker ≡ Some who → leader_then tick m ≡ Some who
    leads_so who leads = if_is true (is_own m knows_bit) (led_by (looked_by_name tick m).maker) (leader_at (looked tick m.maker)) own ∙ leads

    by_came : (who : ℕ) → led_by (looked_by_name tick m).maker ≡ Some who
        → CameOf (own_by_name tick (looked_by_name tick m) (company_now (seeing_names tick m))) (followed_by_age tick (looked_by_name tick m) who) (who == (looked_by_name tick m).maker.me) view
        → MakesView tick m view ⊎ TakesView tick m view
    by_came who leads (inl made) =
        let me : who ≡ m.maker.me = eqb-true who (looked_by_name tick m).maker.me made.0 ∙ ap (λ (k : Maker). k.me) same in
        inl (record { leads = leads_so who leads ∙ ap Some me; gives = found })
    by_came who leads (inr taken) =
        let was : Followed (noted_then tick m) who view = subst (λ (k : Maker). Followed k who view) same
        (followed_was (looked_by_name tick m).maker who view (aged tick (looked_by_name tick m) who view taken.1)) in
        inr (record {
          leader = who;
          leads = leads_so who leads;
          announced = was.announced;
          has_leader = was.has_leader;
          has_own = was.has_own;
        })

    by_way : NextBy (may_begin tick (looked_by_name tick m) (company_now (seeing_names tick m))) (led_by (looked_by_name tick m).maker) (looked_by_name tick m).maker.me
        (own_by_name tick (looked_by_name tick m) (company_now (seeing_names tick m))) (followed_by_age tick (looked_by_name tick m)) view
        → MakesView tick m view ⊎ TakesView tick m view
    by_way way = by_came way.who way.leads way.came

plain_came : (tick : ℕ) (m : NamingMaker) (view : View) → is_own m knows_bit ≡ false → view_found tick m ≡ Some view → view_at tick m.maker ≡ Some view
    → MakesView tick m view ⊎ TakesView tick m view
plain_came tick m view own found is = by_way (plain_way tick m.maker view is)
  where
    leads_so : (who : ℕ) → leader_at (looked tick m.maker) ≡ Some who → leader_then tick m ≡ Some who
    leads_so who leads = if_is false (is_own m knows_bit) (led_by (looked_by_name tick m).maker) (leader_at (looked tick m.maker)) own ∙ leads

    by_came : (who : ℕ) → leader_at (looked tick m.maker) ≡ Some who
        → CameOf (own_view tick (looked tick m.maker) (company_at (looked tick m.maker))) (followed_view (looked tick m.maker) who) (who == m.maker.me) view
        → MakesView tick m view ⊎ TakesView tick m view
    by_came who leads (inl made) = inl (record { leads = leads_so who leads ∙ ap Some (eqb-true who m.maker.me made.0); gives = found })
    by_came who leads (inr taken) =
        let was : Followed (looked tick m.maker) who view = followed_was (looked tick m.maker) who view taken.1 in
        inr (record {
          leader = who;
          leads = leads_so who leads;
          announced = was.announced;
          has_leader = was.has_leader;
          has_own = was.has_own;
        })

    by_way : NextBy (may_install tick (looked tick m.maker) (company_at (looked tick m.maker))) (leader_at (looked tick m.maker)) m.maker.me
        (own_view tick (looked tick m.maker) (company_at (looked tick m.maker))) (followed_view (looked tick m.maker)) view
        → MakesView tick m view ⊎ TakesView tick m view
    by_way way = by_came way.who way.leads way.came

-- each view of a look was made or taken
pub made_or_taken : (tick : ℕ) (m : NamingMaker) (view : View) → view_found tick m ≡ Some view → MakesView tick m view ⊎ TakesView tick m view
unfolding view_found
made_or_taken tick m view found = by_own (is_own m knows_bit) refl
  where
    by_own : (b : Bool) → is_own m knows_bit ≡ b → MakesView tick m view ⊎ TakesView tick m view
    by_own true own = name_came tick m view own found (sym (if_is true (is_own m knows_bit) (view_by_name tick m) (view_at tick m.maker) own) ∙ found)
    by_own false own = plain_came tick m view own found (sym (if_is false (is_own m knows_bit) (view_by_name tick m) (view_at tick m.maker) own) ∙ found)
