-- A node takes the view that its leader announced.
use Rattle.std.proofs.Common.{◌≡◌, ℕ, Bool, true, false, not, ◌&&◌, ◌||◌, ◌==◌, Option, None, Some, if◌then◌else◌, refl, sym, ◌∙◌, ap}
use Rattle.std.specs.Prelude.{option_and_then}
use Rattle.std.specs.Option.{option_map_or}
use Rattle.std.proofs.lemmas.Bool.{and_parts, eqb-true, false≢true}
use Rattle.qn_base.specs.declared.ids.Mask.{Mask}
use Rattle.qn_base.specs.declared.ids.View.{View}
use Rattle.qn_base.specs.Members.{is_member}
use Rattle.qn_model.specs.NodeVotes.{is_same_view}
use Rattle.qn_member.specs.Maker.{Maker, followed_view, installed_beside, is_configured, is_taken, led_by, of_rank}
use Rattle.qn_member.specs.Naming.{NamingMaker, is_own, knows_bit}
use Rattle.qn_member.specs.NamingViews.{after_look, company_now, followed_by_age, is_newer_of, is_proven, looked_by_name, may_begin, own_by_name, seeing_names, view_by_name}
use Rattle.qn_member.specs.Maker as maker
use Rattle.qn_service.specs.Company.{IsLedByName}
use Rattle.qn_service.proofs.Company.{after_look_is}
use Rattle.qn_service.proofs.Made.{if_is, looked_notes, noted_then}

-- a view that is the present one in number and members is it
is_the_present : (view : View) (present : Option View) → option_map_or (λ own. is_same_view own view) present false ≡ true → present ≡ Some view
is_the_present view None same = absurd (false≢true same)
is_the_present view (Some own) same =
    let parts = and_parts (own.id == view.id) (own.members.0 == view.members.0) same in
    ap (λ n. Some (record { id = n; members = own.members })) (eqb-true own.id view.id parts.0)
    ∙ ap (λ n. Some (record { id = view.id; members = record { 0 = n } })) (eqb-true own.members.0 view.members.0 parts.1)

-- what a look follows, where the view is another one than the present one
module _ (tick : ℕ) (m : NamingMaker) (leader : ℕ) (view : View) (led : IsLedByName tick m leader view) where
  abbrev l : NamingMaker
  l = looked_by_name tick m

  notes : (looked_by_name tick m).maker ≡ noted_then tick m
  notes = looked_notes tick m

  abbrev is_present_view : Bool
  is_present_view = option_map_or (λ own. is_same_view own view) (looked_by_name tick m).maker.view false

  both : (is_member view.members (looked_by_name tick m).maker.me && is_member view.members leader) ≡ true
  both = ap (λ (k : Maker). is_member view.members k.me && is_member view.members leader) notes ∙ led.has_both

  follows : is_present_view ≡ false → followed_view (looked_by_name tick m).maker leader ≡ Some view
  follows fresh =
      ap (λ (o : Option View). option_and_then (λ v. if is_taken (looked_by_name tick m).maker leader v then Some v else None) o)
      (ap (λ (k : Maker). of_rank k.announced leader) notes ∙ led.announced)
      ∙ ap (λ b. if b && not is_present_view then Some view else None) both
      ∙ ap (λ b. if not b then Some view else None) fresh

  aged : is_present_view ≡ false → followed_by_age tick (looked_by_name tick m) leader ≡ Some view
  aged fresh =
      ap (λ b. if b then option_and_then (λ v. if is_newer_of (looked_by_name tick m) leader v || is_proven tick (looked_by_name tick m) then Some v else None) (followed_view (looked_by_name tick m).maker leader) else None)
      (ap (λ (k : Maker). is_configured k leader) notes ∙ led.configured)
      ∙ ap (λ (o : Option View). option_and_then (λ v. if is_newer_of (looked_by_name tick m) leader v || is_proven tick (looked_by_name tick m) then Some v else None) o) (follows fresh)
      ∙ ap (λ b. if b then Some view else None) led.newer

  leads : led_by (looked_by_name tick m).maker ≡ Some leader
  leads = sym (if_is true (is_own m knows_bit) (led_by (looked_by_name tick m).maker) (maker.leader_at (maker.looked tick m.maker)) led.knows) ∙ led.leads

  finds : may_begin tick (looked_by_name tick m) (company_now (seeing_names tick m)) ≡ true
  finds =
      ap (λ (k : Mask). may_begin tick (looked_by_name tick m) k)
      (sym (if_is true (is_own m knows_bit) (company_now (seeing_names tick m)) (maker.company_at (maker.looked tick m.maker)) led.knows))
      ∙ led.begins

  gives : is_present_view ≡ false → view_by_name tick m ≡ Some view
  gives fresh =
      ap (λ b. if b then option_and_then (λ who. if who == (looked_by_name tick m).maker.me then own_by_name tick (looked_by_name tick m) (company_now (seeing_names tick m)) else followed_by_age tick (looked_by_name tick m) who) (led_by (looked_by_name tick m).maker) else None) finds
      ∙ ap (λ (o : Option ℕ). option_and_then (λ who. if who == (looked_by_name tick m).maker.me then own_by_name tick (looked_by_name tick m) (company_now (seeing_names tick m)) else followed_by_age tick (looked_by_name tick m) who) o) leads
      ∙ ap (λ b. if b then own_by_name tick (looked_by_name tick m) (company_now (seeing_names tick m)) else followed_by_age tick (looked_by_name tick m) leader)
      (ap (λ (k : Maker). leader == k.me) notes ∙ led.other)
      ∙ aged fresh

  -- the present view is that one, and no other one is given
  none_given : is_present_view ≡ true → view_by_name tick m ≡ None
  none_given here =
      ap (λ b. if b then option_and_then (λ who. if who == (looked_by_name tick m).maker.me then own_by_name tick (looked_by_name tick m) (company_now (seeing_names tick m)) else followed_by_age tick (looked_by_name tick m) who) (led_by (looked_by_name tick m).maker) else None) finds
      ∙ ap (λ (o : Option ℕ). option_and_then (λ who. if who == (looked_by_name tick m).maker.me then own_by_name tick (looked_by_name tick m) (company_now (seeing_names tick m)) else followed_by_age tick (looked_by_name tick m) who) o) leads
      ∙ ap (λ b. if b then own_by_name tick (looked_by_name tick m) (company_now (seeing_names tick m)) else followed_by_age tick (looked_by_name tick m) leader)
      (ap (λ (k : Maker). leader == k.me) notes ∙ led.other)
      ∙ ap (λ b. if b then option_and_then (λ v. if is_newer_of (looked_by_name tick m) leader v || is_proven tick (looked_by_name tick m) then Some v else None) (followed_view (looked_by_name tick m).maker leader) else None)
      (ap (λ (k : Maker). is_configured k leader) notes ∙ led.configured)
      ∙ ap (λ (o : Option View). option_and_then (λ v. if is_newer_of (looked_by_name tick m) leader v || is_proven tick (looked_by_name tick m) then Some v else None) o) follows_none
    where
      follows_none : followed_view (looked_by_name tick m).maker leader ≡ None
      follows_none =
          ap (λ (o : Option View). option_and_then (λ v. if is_taken (looked_by_name tick m).maker leader v then Some v else None) o)
          (ap (λ (k : Maker). of_rank k.announced leader) notes ∙ led.announced)
          ∙ ap (λ b. if b && not is_present_view then Some view else None) both
          ∙ ap (λ b. if not b then Some view else None) here

  pub takes_view : (after_look tick m).maker.view ≡ Some view
  takes_view = ap (λ (k : Maker). k.view) (after_look_is tick m led.knows) ∙ by_present is_present_view refl
    where
      by_present : (b : Bool) → is_present_view ≡ b → (installed_beside (company_now (seeing_names tick m)) (view_by_name tick m) (looked_by_name tick m).maker).view ≡ Some view
      by_present true here =
          ap (λ (o : Option View). (installed_beside (company_now (seeing_names tick m)) o (looked_by_name tick m).maker).view) (none_given here)
          ∙ is_the_present view (looked_by_name tick m).maker.view here
      by_present false fresh = ap (λ (o : Option View). (installed_beside (company_now (seeing_names tick m)) o (looked_by_name tick m).maker).view) (gives fresh)
