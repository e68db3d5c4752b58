-- While the looks of a running node keep its view, its log shows it.
use Rattle.std.proofs.Common.{◌≡◌, ◌⊎◌, inl, inr, ℕ, Bool, true, false, not, ◌&&◌, ◌||◌, ◌==◌, List, ◌∷◌, ◌++◌, Option, None, Some, if◌then◌else◌, refl, sym, ◌∙◌, ap, eq-eqb}
use Rattle.std.specs.Prelude.{nat_lt, slice_index_or}
use Rattle.std.specs.Option.{option_map_or, option_or}
use Rattle.std.proofs.lemmas.Bool.{and_from, and_parts, eqb-true, false≢true, true≢false}
use Rattle.std.proofs.lemmas.Option.{same_Some}
use Rattle.qn_base.specs.declared.ids.Mask.{Mask}
use Rattle.qn_base.specs.declared.ids.View.{View}
use Rattle.qn_base.specs.Members.{is_member}
use Rattle.qn_model.specs.declared.configuration.Settings.{Settings}
use Rattle.qn_model.specs.declared.times.Timing.{Timing}
use Rattle.qn_model.specs.Moments.{Before, Itself, Later}
use Rattle.qn_model.specs.NodeVotes.{is_same_view}
use Rattle.qn_model.specs.Phases.{is_live, phase}
use Rattle.qn_member.specs.Maker.{Maker, after_tick, installed_beside, led_by, looked}
use Rattle.qn_member.specs.Naming.{NamingMaker, barred_bit, has_bit, holds_bit, is_own, knows_bit, unfit_bit}
use Rattle.qn_member.specs.NamingViews.{after_by_name, after_found, after_look, after_plain_look, chosen_by, company_now, followed_by_age, is_closed_to, looked_by_name, may_begin, may_not_start, own_by_name, seeing_names, view_by_name, view_found}
use Rattle.qn_member.specs.Maker as maker
use Rattle.qn_safety.specs.Earlier.{before_tail}
use Rattle.qn_joined.specs.Joints.{Happening}
use Rattle.qn_service.specs.Company.{IsNextLook}
use Rattle.qn_service.specs.KeptViews.{FollowsView, KeepsOneView, KeepsView, LeadsMembers, LooksServe, ViewsAreKept, WasLeft}
use Rattle.qn_service.specs.Leading.{company_then, leader_then}
use Rattle.qn_service.specs.Looks.{LookOf, look_of}
use Rattle.qn_service.specs.NextLooks.{last_look, look_of_rank}
use Rattle.qn_service.specs.Serving.{HasView, MembersServe}
use Rattle.qn_service.specs.Shown.{copy_shown}
use Rattle.qn_service.specs.Unheard.{log_after}
use Rattle.qn_service.proofs.Flags.{found_flags}
use Rattle.qn_service.proofs.Least.{keeps_view, view_stays}
use Rattle.qn_service.proofs.LogViews.{shows_last}
use Rattle.qn_service.proofs.Made.{CameOf, Followed, NextBy, aged, filtered, followed_was, if_is, leading_keeps, looked_notes, name_way, noted_then, plain_way}
use Rattle.qn_service.proofs.NextLooks.{looks_follow}

-- ## One look

found_me : (tick : ℕ) (m : NamingMaker) → (after_found tick m).maker.me ≡ m.maker.me
unfolding after_found after_tick
found_me tick m = by_own (is_own m knows_bit)
  where
    installs : (company : Mask) (found : Option View) (k : Maker) → (installed_beside company found k).me ≡ k.me
    installs company None k = refl
    installs company (Some v) k = refl

    by_own : (b : Bool) → (if b then after_by_name tick m else after_plain_look tick m).maker.me ≡ m.maker.me
    by_own true =
        installs (company_now (seeing_names tick m)) (view_by_name tick m) (looked_by_name tick m).maker ∙ ap (λ (k : Maker). k.me) (looked_notes tick m)
    by_own false =
        ap (λ (k : Maker). k.me) (leading_keeps tick (maker.led_by (after_tick tick m.maker)) (record m { maker = after_tick tick m.maker }) (after_tick tick m.maker) refl)
        ∙ installs (maker.company_at (looked tick m.maker)) (maker.view_at tick m.maker) (looked tick m.maker)

-- a node that may start hands its view on as it is
pub open_after : (tick : ℕ) (m : NamingMaker) (present : View) → may_not_start m ≡ false → (after_look tick m).maker.view ≡ Some present → (after_look tick m).closed ≡ false
unfolding after_look
open_after tick m present may is =
    ap (λ o. option_map_or (is_closed_to (after_found tick m)) o false) is
    ∙ ap (λ b. b && option_map_or (λ rank. rank == (after_found tick m).maker.me) (chosen_by (after_found tick m).maker present) false) (same ∙ may)
  where
    bit : (b : ℕ) → is_own (after_found tick m) b ≡ is_own m b
    bit b =
        ap (λ r. nat_lt r 32 && has_bit (slice_index_or (after_found tick m).flags r 0) b) (found_me tick m)
        ∙ ap (λ flags. nat_lt m.maker.me 32 && has_bit (slice_index_or flags m.maker.me 0) b) (found_flags tick m).flags

    same : may_not_start (after_found tick m) ≡ may_not_start m
    same =
        ap (λ b. b || is_own (after_found tick m) unfit_bit && not (is_own (after_found tick m) holds_bit)) (bit barred_bit)
        ∙ ap (λ b. is_own m barred_bit || b && not (is_own (after_found tick m) holds_bit)) (bit unfit_bit)
        ∙ ap (λ b. is_own m barred_bit || is_own m unfit_bit && not b) (bit holds_bit)

-- what a leader announced last is not taken again by a node that has it
not_again : (k : Maker) (leader : ℕ) (v : View) → maker.followed_view k leader ≡ Some v → k.view ≡ Some v → ⊥
not_again k leader v is had =
    let taken = filtered (maker.is_taken k leader) (maker.of_rank k.announced leader) v is in
    let fresh = (and_parts (is_member v.members k.me && is_member v.members leader) _ taken.1).1 in
    let same : is_same_view v v ≡ true = and_from (v.id == v.id) _ (eq-eqb v.id v.id refl) (eq-eqb v.members.0 v.members.0 refl) in
    true≢false (sym fresh ∙ ap (λ (o : Option View). not (option_map_or (λ own. is_same_view own v) o false)) had ∙ ap not same)

-- so its look gives none
module _ (tick : ℕ) (m : NamingMaker) (leader : ℕ) (present : View) (leads : leader_then tick m ≡ Some leader) (other : (leader == m.maker.me) ≡ false)
    (announced : maker.of_rank m.maker.announced leader ≡ Some present) (had : m.maker.view ≡ Some present) where
  -- by what the look knows
  none_by : (k : Maker) (v : View) (who : ℕ) → k.announced ≡ m.maker.announced → k.view ≡ m.maker.view → who ≡ leader → maker.followed_view k who ≡ Some v → ⊥
  none_by k v who heard seen same is =
      let was : Followed k who v = followed_was k who v is in
      let is_present : v ≡ present = same_Some v present
      (sym was.announced ∙ ap (λ items. maker.of_rank items who) heard ∙ ap (λ r. maker.of_rank m.maker.announced r) same ∙ announced) in
      not_again k who v is (seen ∙ had ∙ ap Some (sym is_present))

  by_name : (v : View) → is_own m knows_bit ≡ true → view_by_name tick m ≡ Some v → ⊥
  by_name v knows is = by_came way.who way.leads way.came
    where
      l : NamingMaker
      l = looked_by_name tick m

      same : (looked_by_name tick m).maker ≡ noted_then tick m
      same = looked_notes tick m

      led : led_by (looked_by_name tick m).maker ≡ Some leader
      led = sym (if_is true (is_own m knows_bit) (led_by (looked_by_name tick m).maker) (maker.leader_at (looked tick m.maker)) knows) ∙ leads

      way : NextBy (may_begin tick l (company_now (seeing_names tick m))) (led_by l.maker) l.maker.me
          (own_by_name tick l (company_now (seeing_names tick m))) (followed_by_age tick l) v
      way = name_way tick m v is

      by_came : (who : ℕ) → led_by (looked_by_name tick m).maker ≡ Some who
          → CameOf (own_by_name tick (looked_by_name tick m) (company_now (seeing_names tick m))) (followed_by_age tick (looked_by_name tick m) who) (who == (looked_by_name tick m).maker.me) v
          → ⊥
      by_came who is_led (inl made) =
          false≢true (sym other ∙ ap (λ r. r == m.maker.me) (same_Some leader who (sym led ∙ is_led)) ∙ ap (λ (k : Maker). who == k.me) (sym same) ∙ made.0)
      by_came who is_led (inr taken) =
          none_by (looked_by_name tick m).maker v who (ap (λ (k : Maker). k.announced) same) (ap (λ (k : Maker). k.view) same) (same_Some who leader (sym is_led ∙ led))
          (aged tick (looked_by_name tick m) who v taken.1)

  by_plain : (v : View) → is_own m knows_bit ≡ false → maker.view_at tick m.maker ≡ Some v → ⊥
  by_plain v plain is = by_came way.who way.leads way.came
    where
      k : Maker
      k = looked tick m.maker

      led : maker.leader_at (looked tick m.maker) ≡ Some leader
      led = sym (if_is false (is_own m knows_bit) (led_by (looked_by_name tick m).maker) (maker.leader_at (looked tick m.maker)) plain) ∙ leads

      way : NextBy (maker.may_install tick k (maker.company_at k)) (maker.leader_at k) m.maker.me (maker.own_view tick k (maker.company_at k)) (maker.followed_view k) v
      way = plain_way tick m.maker v is

      by_came : (who : ℕ) → maker.leader_at (looked tick m.maker) ≡ Some who
          → CameOf (maker.own_view tick (looked tick m.maker) (maker.company_at (looked tick m.maker))) (maker.followed_view (looked tick m.maker) who) (who == m.maker.me) v → ⊥
      by_came who is_led (inl made) = false≢true (sym other ∙ ap (λ r. r == m.maker.me) (same_Some leader who (sym led ∙ is_led)) ∙ made.0)
      by_came who is_led (inr taken) = none_by (looked tick m.maker) v who refl refl (same_Some who leader (sym is_led ∙ led)) taken.1

  follows_none : view_found tick m ≡ None
  unfolding view_found
  follows_none = by_found (view_found tick m) refl
    where
      by_own : (v : View) (b : Bool) → is_own m knows_bit ≡ b → view_found tick m ≡ Some v → ⊥
      by_own v true own found = by_name v own (sym (if_is true (is_own m knows_bit) (view_by_name tick m) (maker.view_at tick m.maker) own) ∙ found)
      by_own v false own found = by_plain v own (sym (if_is false (is_own m knows_bit) (view_by_name tick m) (maker.view_at tick m.maker) own) ∙ found)

      by_found : (o : Option View) → view_found tick m ≡ o → view_found tick m ≡ None
      by_found None none = none
      by_found (Some v) found = absurd (by_own v (is_own m knows_bit) refl found)

-- a look that keeps the view leaves it
keeps_it : (leader : ℕ) (present : View) (look : LookOf) → KeepsView leader present look → look.maker.maker.view ≡ Some present
    → (after_look look.tick look.maker).maker.view ≡ Some present
keeps_it leader present look keeps had = by_way keeps.keeps
  where
    by_way : LeadsMembers present look ⊎ FollowsView leader present look → (after_look look.tick look.maker).maker.view ≡ Some present
    by_way (inl leads) =
        let here : maker.is_present look.maker.maker (company_then look.tick look.maker) ≡ true =
        ap (λ (company : Mask). maker.is_present look.maker.maker company) leads.finds
        ∙ ap (λ (o : Option View). option_map_or (λ seen. seen.members.0 == present.members.0) o false) had
        ∙ eq-eqb present.members.0 present.members.0 refl in
        keeps_view look.maker look.tick (view_stays look.maker look.tick leads.leads here leads.named) ∙ had
    by_way (inr follows) =
        keeps_view look.maker look.tick (follows_none look.tick look.maker leader present follows.leads follows.other follows.announced had) ∙ had

-- ## From joint to joint

module _ (s : Settings) (image : ℕ → List ℕ) (rank leader : ℕ) (present : View) where
  -- what the next happening leaves
  pub next_left : (newest : Happening) (earlier : List Happening) → is_live (phase s (log_after s image (newest ∷ earlier) rank)) ≡ true
      → ((look : LookOf) → look_of_rank s image rank newest earlier ≡ Some look → KeepsView leader present look)
      → WasLeft s image rank present earlier → WasLeft s image rank present (newest ∷ earlier)
  unfolding last_look
  next_left newest earlier live keeps before = by_look (look_of_rank s image rank newest earlier) refl
    where
      last_so : (o : Option LookOf) → look_of_rank s image rank newest earlier ≡ o → last_look s image rank (newest ∷ earlier) ≡ option_or o (last_look s image rank earlier)
      last_so o is =
          ap (λ b. if b then option_or (look_of_rank s image rank newest earlier) (last_look s image rank earlier) else None) live
          ∙ ap (λ found. option_or found (last_look s image rank earlier)) is

      by_look : (o : Option LookOf) → look_of_rank s image rank newest earlier ≡ o → WasLeft s image rank present (newest ∷ earlier)
      by_look None none = record { look = before.look; last = last_so None none ∙ before.last; left = before.left; free = before.free }
      by_look (Some look) some =
          let parts = filtered (λ (l : LookOf). l.rank == rank) (look_of s image newest earlier) look some in
          let follows : IsNextLook (after_look before.look.tick before.look.maker).maker look.maker.maker =
          looks_follow s image newest earlier before.look look (ap (λ r. last_look s image r earlier) (eqb-true look.rank rank parts.1) ∙ before.last) parts.0 in
          let left : (after_look look.tick look.maker).maker.view ≡ Some present = keeps_it leader present look (keeps look some) (follows.view ∙ before.left) in
          record { look = look; last = last_so (Some look) some; left = left; free = open_after look.tick look.maker present (keeps look some).may left }

  -- so at each joint
  pub left_at : (old new : List Happening) → KeepsOneView s image rank leader present old new
      → ((at : List Happening) → Before old at → Before at new → is_live (phase s (log_after s image at rank)) ≡ true)
      → (mid : List Happening) → Before old mid → Before mid new → WasLeft s image rank present mid
  left_at old new keeps live mid Itself back = keeps.first
  left_at old new keeps live (newest ∷ mid) (Later newest' since) back =
      next_left newest mid (live (newest ∷ mid) (Later newest since) back) (λ look found. keeps.looks mid newest look since back found)
      (left_at old new keeps live mid since (before_tail back))

pub views_are_kept : (s : Settings) → ViewsAreKept s
views_are_kept s image rank leader present newer older mid few under keeps live since back =
    let was = left_at s image rank leader present older (newer ++ older) keeps live mid since back in
    shows_last s image rank under few mid was.look was.last present was.left ∙ ap (λ c. Some (copy_shown c present)) was.free

-- so a majority whose looks agree on a view serves
pub looks_serve : (s : Settings) (t : Timing) → MembersServe s t → LooksServe s t
looks_serve s t serve image pace post rank leader present newer older joined agree may late =
    serve image pace post rank present newer older joined (record { members = members; serves = may }) late
  where
    members : (other : ℕ) → is_member present.members other ≡ true → (mid : List Happening) → Before older mid → Before mid (newer ++ older)
        → HasView s image present other mid
    members other member mid since back =
        let up = agree.ups other member mid since back in
        record {
          on = up.on;
          up = up.up;
          sees = views_are_kept s image other leader present newer older mid joined.fits.few (may.majority.configured other member) (agree.keeps other member)
              (λ at after before. ap is_live (agree.ups other member at after before).up) since back;
        }
