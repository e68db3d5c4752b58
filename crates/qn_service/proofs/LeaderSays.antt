-- A leader that keeps its view announces it.
use Rattle.std.proofs.Common.{◌≡◌, ℕ, Bool, true, false, ◌&&◌, ◌==◌, List, ◌∷◌, Option, None, Some, if◌then◌else◌, refl, sym, ◌∙◌, ap, eq-eqb}
use Rattle.std.specs.Prelude.{option_and_then}
use Rattle.std.specs.Option.{option_map_or, option_or}
use Rattle.std.proofs.lemmas.Option.{same_Some}
use Rattle.qn_base.specs.declared.ids.View.{View}
use Rattle.qn_base.specs.Members.{is_member}
use Rattle.qn_model.specs.declared.configuration.Settings.{Settings}
use Rattle.qn_model.specs.Phases.{is_live, phase}
use Rattle.qn_member.specs.Announcing.{view_to_announce}
use Rattle.qn_member.specs.Maker.{Maker, installed_beside, leader_at, led_by, looked}
use Rattle.qn_member.specs.Naming.{NamingMaker, is_own, knows_all, knows_bit}
use Rattle.qn_member.specs.NamingViews.{after_by_name, after_found, after_look, after_plain_look, company_now, is_led_by, lead_since, looked_by_name, seeing_names, view_announced, view_by_name}
use Rattle.qn_joined.specs.Joints.{Happening}
use Rattle.qn_service.specs.KeptViews.{WasLeft}
use Rattle.qn_service.specs.Leading.{leader_then, names_then}
use Rattle.qn_service.specs.Looks.{LookOf}
use Rattle.qn_service.specs.NextLooks.{last_look, look_of_rank}
use Rattle.qn_service.specs.Unheard.{log_after}
use Rattle.qn_service.proofs.Made.{if_is, looked_notes, noted_then}

-- the view that a node announces, by what it knows then
abbrev announced_by : Bool → Maker → Option View
announced_by naming k =
    if naming
    then option_and_then (λ view. if option_map_or (λ leader. leader == k.me) (led_by k) false && is_member view.members k.me then Some view else None) k.view
    else view_to_announce k

module _ (tick : ℕ) (m : NamingMaker) (knows : is_own m knows_bit ≡ true) where
  -- what a look leaves knows names as that did
  names_left : knows_all (after_by_name tick m) (after_by_name tick m).maker.seen ≡ names_then tick m
  names_left = by_lead (is_led_by (record (seeing_names tick m) { maker = noted_then tick m }) (led_by (noted_then tick m))) (view_by_name tick m)
    where
      by_lead : (b : Bool) (found : Option View)
          → knows_all (record (if b
          then record (seeing_names tick m) { maker = noted_then tick m }
          else record (record (seeing_names tick m) { maker = noted_then tick m }) { lead = lead_since tick (led_by (noted_then tick m)); came = record { 0 = 0 } }) {
            maker = installed_beside (company_now (seeing_names tick m)) found (if b
                then record (seeing_names tick m) { maker = noted_then tick m }
                else record (record (seeing_names tick m) { maker = noted_then tick m }) { lead = lead_since tick (led_by (noted_then tick m)); came = record { 0 = 0 } }).maker;
          })
          (installed_beside (company_now (seeing_names tick m)) found (if b
          then record (seeing_names tick m) { maker = noted_then tick m }
          else record (record (seeing_names tick m) { maker = noted_then tick m }) { lead = lead_since tick (led_by (noted_then tick m)); came = record { 0 = 0 } }).maker).seen
          ≡ names_then tick m
      by_lead true None = refl
      by_lead true (Some view) = refl
      by_lead false None = refl
      by_lead false (Some view) = refl

  found_is : after_found tick m ≡ after_by_name tick m
  unfolding after_found
  found_is = if_is true (is_own m knows_bit) (after_by_name tick m) (after_plain_look tick m) knows

  leader_left : led_by (after_found tick m).maker ≡ leader_then tick m
  leader_left =
      ap (λ (n : NamingMaker). led_by n.maker) found_is ∙ installs (view_by_name tick m)
      ∙ sym (if_is true (is_own m knows_bit) (led_by (looked_by_name tick m).maker) (leader_at (looked tick m.maker)) knows)
    where
      installs : (found : Option View) → led_by (installed_beside (company_now (seeing_names tick m)) found (looked_by_name tick m).maker) ≡ led_by (looked_by_name tick m).maker
      installs None = refl
      installs (Some view) = refl

  me_left : (after_found tick m).maker.me ≡ m.maker.me
  me_left = ap (λ (n : NamingMaker). n.maker.me) found_is ∙ installs (view_by_name tick m) ∙ ap (λ (k : Maker). k.me) (looked_notes tick m)
    where
      installs : (found : Option View) → (installed_beside (company_now (seeing_names tick m)) found (looked_by_name tick m).maker).me ≡ (looked_by_name tick m).maker.me
      installs None = refl
      installs (Some view) = refl

  -- so a leader whose look leaves it with a view that has it announces that
  pub look_announces : (present : View) → names_then tick m ≡ true → leader_then tick m ≡ Some m.maker.me → is_member present.members m.maker.me ≡ true
      → (after_look tick m).maker.view ≡ Some present → view_announced (after_look tick m) ≡ Some present
  unfolding after_look
  look_announces present names leads member left =
      ap (λ b. announced_by b (after_found tick m).maker) (ap (λ (n : NamingMaker). knows_all n n.maker.seen) found_is ∙ names_left ∙ names)
      ∙ ap (λ (o : Option View). option_and_then (λ view. if option_map_or (λ leader. leader == (after_found tick m).maker.me) (led_by (after_found tick m).maker) false
      && is_member view.members (after_found tick m).maker.me then Some view else None) o) left
      ∙ ap (λ (o : Option ℕ). if option_map_or (λ leader. leader == (after_found tick m).maker.me) o false && is_member present.members (after_found tick m).maker.me then Some present else None)
      (leader_left ∙ leads)
      ∙ ap (λ r. if m.maker.me == r && is_member present.members r then Some present else None) me_left
      ∙ ap (λ b. if b && is_member present.members m.maker.me then Some present else None) (eq-eqb m.maker.me m.maker.me refl)
      ∙ ap (λ b. if b then Some present else None) member

-- a look of which the joint after it left a view left it
pub look_left : (s : Settings) (image : ℕ → List ℕ) (rank : ℕ) (present : View) (newest : Happening) (earlier : List Happening) (look : LookOf)
    → is_live (phase s (log_after s image (newest ∷ earlier) rank)) ≡ true → look_of_rank s image rank newest earlier ≡ Some look → WasLeft s image rank present (newest ∷ earlier)
    → (after_look look.tick look.maker).maker.view ≡ Some present
unfolding last_look
look_left s image rank present newest earlier look live found was =
    ap (λ (l : LookOf). (after_look l.tick l.maker).maker.view) same ∙ was.left
  where
    same : look ≡ was.look
    same =
        same_Some look was.look
        (sym (ap (λ o. option_or o (last_look s image rank earlier)) found)
        ∙ sym (ap (λ b. if b then option_or (look_of_rank s image rank newest earlier) (last_look s image rank earlier) else None) live)
        ∙ was.last)
