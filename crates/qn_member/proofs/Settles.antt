-- A company becomes the view of its leader.
use Rattle.std.proofs.Common.{◌≡◌, ℕ, ◌+◌, ◌≤◌, Bool, true, false, not, List, [], ◌∷◌, Option, Some, None, IfSome, refl, sym, ap, ◌∙◌, subst, arith, ◌==◌, if◌then◌else◌, ◌⊎◌, inl, inr, nat_le}
use Rattle.std.specs.Option.{option_map_or}
use Rattle.std.specs.Prelude.{is_some, option_and_then, option_map}
use Rattle.std.proofs.lemmas.Bool.{eq-eqb, false≢true, le-leb, or_left}
use Rattle.qn_base.specs.declared.ids.Mask.{Mask}
use Rattle.qn_base.specs.declared.ids.View.{View}
use Rattle.qn_model.specs.declared.configuration.Settings.{Settings}
use Rattle.qn_model.specs.Votes.{are_all_in}
use Rattle.qn_member.specs.declared.change.Change.{Change}
use Rattle.qn_candidate.specs.Numbers.{next_plain}
use Rattle.qn_member.specs.Maker.{Maker, after_tick, change_at, changed, disputed_nodes, enough_of, first_maker, followed_view, installed, is_present, is_quiet, is_steady, kept_nodes, known_nodes, leader_at, looked, may_install, members_at, overdue_nodes, own_view, view_at, view_under}
use Rattle.qn_member.specs.MakerCalls.{Announce, Due, Finds, Hello, Look, LooksBackTo, MakerCall, MakerRun, NeverFalls, PlainHello, after_calls, first_of, maker_of}
use Rattle.qn_member.specs.Settling.{IsSteady, Keeps}
use Rattle.qn_member.proofs.Calls.{change_by_calls, same_set}
use Rattle.qn_member.proofs.Heard.{Kept, Still, kept_calls, still_announce, still_due, still_hello, still_plain}

-- these are the present members, or the present change has them since a tick at the latest
data Goes (since : ℕ) (company : Mask) (m : Maker) : Type 0 where
  Present : is_present m company ≡ true → Goes since company m
  Changes : (change : Change) → m.change ≡ Some change → change.visible ≡ company → change.since ≤ since → Goes since company m

goes_still : {since : ℕ} {company : Mask} {m after : Maker} → Still m after → Goes since company m → Goes since company after
goes_still {company = company} still (Present is) = Present (ap (λ v. option_map_or (λ present. present.members.0 == company.0) v false) still.view ∙ is)
goes_still still (Changes c is same by') = Changes c (still.change ∙ is) same by'

-- a look back to which the others go is no later than the next one
pub saw_by : (IsSo : ℕ → Maker → Type 0) (since tick : ℕ) (first : Maker) (calls : List MakerCall) → LooksBackTo IsSo since first calls → NeverFalls tick calls → since ≤ tick
saw_by IsSo since tick first [] saw rises = absurd saw
saw_by IsSo since tick first (Look at ∷ earlier) saw rises = by_how saw.1 (λ rest. saw_by IsSo since at first earlier rest rises.1)
  where
    by_how : (at ≡ since) ⊎ LooksBackTo IsSo since first earlier → (LooksBackTo IsSo since first earlier → since ≤ at) → since ≤ tick
    by_how (inl same) rest = let low = rises.0 in omega arith
    by_how (inr back) rest = let low = rises.0 in let far = rest back in omega arith
saw_by IsSo since tick first (Hello at from said ∷ earlier) saw rises = saw_by IsSo since tick first earlier saw rises
saw_by IsSo since tick first (PlainHello at from ∷ earlier) saw rises = saw_by IsSo since tick first earlier saw rises
saw_by IsSo since tick first (Announce from view ∷ earlier) saw rises = saw_by IsSo since tick first earlier saw rises
saw_by IsSo since tick first (Due at ∷ earlier) saw rises = saw_by IsSo since tick first earlier saw rises

looks : (run : MakerRun) (since tick : ℕ) (company : Mask) → Keeps company tick (maker_of run)
    → NeverFalls tick run.calls → (tick ≡ since) ⊎ Goes since company (maker_of run) → Goes since company (after_tick tick (maker_of run))
unfolding after_tick
looks run since tick company keeps rises how = by_view (view_at tick (maker_of run)) refl
  where
    m : Maker
    m = maker_of run

    fresh : (before : Option Change) → ((c : Change) → before ≡ Some c → (tick ≡ since → c.since ≤ since))
        → (tick ≡ since) ⊎ ((c : Change) × (before ≡ Some c) × (c.visible ≡ company) × (c.since ≤ since))
        → ((changed tick before company).visible ≡ company) × ((changed tick before company).since ≤ since)
    fresh None known (inl here) = (refl, omega arith)
    fresh None known (inr found) = absurd cc
    fresh (Some c) known found = by_test (c.visible.0 == company.0) refl found
      where
        by_test : (b : Bool) → (c.visible.0 == company.0) ≡ b
            → (tick ≡ since) ⊎ ((d : Change) × (Some c ≡ Some d) × (d.visible ≡ company) × (d.since ≤ since))
            → ((if b then c else record { visible = company; since = tick; begun = c.begun }).visible ≡ company)
            × ((if b then c else record { visible = company; since = tick; begun = c.begun }).since ≤ since)
        by_test true same (inl here) = (same_set c.visible company same, known c refl here)
        by_test true same (inr found) =
            let it : c ≡ found.0 = cc in (same_set c.visible company same, subst (λ (d : Change). d.since ≤ since) (sym it) found.3)
        by_test false other (inl here) = (refl, omega arith)
        by_test false other (inr found) =
            let it : c ≡ found.0 = cc in
            let same : c.visible ≡ company = ap (λ (d : Change). d.visible) it ∙ found.2 in
            absurd (false≢true (sym other ∙ eq-eqb c.visible.0 company.0 (ap (λ (v : Mask). v.0) same)))

    known : (c : Change) → (maker_of run).change ≡ Some c → (tick ≡ since → c.since ≤ since)
    known c is here = let by' = saw_by (Finds c.visible) c.since tick (first_of run) run.calls (change_by_calls run c is).saw rises in omega arith

    found_of : is_present (maker_of run) company ≡ false → (tick ≡ since) ⊎ Goes since company (maker_of run)
        → (tick ≡ since) ⊎ ((c : Change) × ((maker_of run).change ≡ Some c) × (c.visible ≡ company) × (c.since ≤ since))
    found_of away (inl here) = inl here
    found_of away (inr (Present is)) = absurd (false≢true (sym away ∙ is))
    found_of away (inr (Changes c is same by')) = inr (c, is, same, by')

    by_present : (b : Bool) → is_present (maker_of run) company ≡ b → Goes since company (looked tick (maker_of run))
    by_present true is = Present is
    by_present false away =
        let next = fresh (maker_of run).change known (found_of away how) in
        Changes (changed tick (maker_of run).change company)
        (ap (λ (v : Mask). change_at tick (maker_of run) v) keeps.0 ∙ ap (λ b. if b then None else Some (changed tick (maker_of run).change company)) away)
        next.0 next.1

    by_view : (found : Option View) → view_at tick (maker_of run) ≡ found → Goes since company (installed found (looked tick (maker_of run)))
    by_view None none = by_present (is_present (maker_of run) company) refl
    by_view (Some view) is =
        let members : view.members ≡ company = subst (λ (o : Option View). IfSome o (λ v. v.members ≡ company)) is keeps.1 in
        Present (eq-eqb view.members.0 company.0 (ap (λ (v : Mask). v.0) members))

goes : (s : Settings) (me loop_ms : ℕ) (calls : List MakerCall) (since tick : ℕ) (company : Mask)
    → NeverFalls tick calls → LooksBackTo (Keeps company) since (first_maker s me loop_ms) calls → Goes since company (after_calls calls (first_maker s me loop_ms))
unfolding after_calls
goes s me loop_ms [] since tick company rises saw = absurd saw
goes s me loop_ms (Look at ∷ earlier) since tick company rises saw =
    looks (record { settings = s; me = me; loop_ms = loop_ms; calls = earlier }) since at company saw.0 rises.1
    (by_how saw.1 (λ back. goes s me loop_ms earlier since at company rises.1 back))
  where
    by_how : (at ≡ since) ⊎ LooksBackTo (Keeps company) since (first_maker s me loop_ms) earlier
        → (LooksBackTo (Keeps company) since (first_maker s me loop_ms) earlier → Goes since company (after_calls earlier (first_maker s me loop_ms)))
        → (at ≡ since) ⊎ Goes since company (after_calls earlier (first_maker s me loop_ms))
    by_how (inl here) rest = inl here
    by_how (inr back) rest = inr (rest back)
goes s me loop_ms (Hello at from said ∷ earlier) since tick company rises saw =
    goes_still (still_hello at from said (after_calls earlier (first_maker s me loop_ms))) (goes s me loop_ms earlier since tick company rises saw)
goes s me loop_ms (PlainHello at from ∷ earlier) since tick company rises saw =
    goes_still (still_plain at from (after_calls earlier (first_maker s me loop_ms))) (goes s me loop_ms earlier since tick company rises saw)
goes s me loop_ms (Announce from view ∷ earlier) since tick company rises saw =
    goes_still (still_announce from view (after_calls earlier (first_maker s me loop_ms))) (goes s me loop_ms earlier since tick company rises saw)
goes s me loop_ms (Due at ∷ earlier) since tick company rises saw =
    goes_still (still_due at (after_calls earlier (first_maker s me loop_ms))) (goes s me loop_ms earlier since tick company rises saw)

-- where the company is steady, and nobody is in dispute, a view is of it
members_settled : (tick : ℕ) (m : Maker) (company : Mask) (change : Change) → m.change ≡ Some change → change.since + m.loop_ms ≤ tick
    → ((disputed_nodes tick m company).0 == 0) ≡ true → members_at tick m company ≡ Some company
members_settled tick m company change is late agreed = by_known (are_all_in m.nodes (known_nodes m company)) (is_some m.view)
  where
    past : nat_le (change.since + m.loop_ms) tick ≡ true
    past = le-leb _ _ late

    steady : is_steady tick m ≡ true
    steady = ap (λ (o : Option Change). option_map_or (λ c. nat_le (c.since + m.loop_ms) tick) o false) is ∙ past

    quiet : option_map_or (is_quiet tick m) m.change false ≡ true
    quiet = ap (λ (o : Option Change). option_map_or (is_quiet tick m) o false) is ∙ or_left (nat_le (change.since + m.loop_ms) tick) _ past

    by_known : (known has : Bool)
        → (if known then Some company
        else (if not has then (if option_map_or (is_quiet tick m) m.change false then Some company else None)
        else (if not ((disputed_nodes tick m company).0 == 0) then None
        else (if is_steady tick m then Some company else (if (overdue_nodes tick m).0 == 0 then None else Some (kept_nodes tick m company)))))) ≡ Some company
    by_known true has = refl
    by_known false false = ap (λ b. if b then Some company else None) quiet
    by_known false true =
        ap (λ b. if not b then None else (if is_steady tick m then Some company else (if (overdue_nodes tick m).0 == 0 then None else Some (kept_nodes tick m company)))) agreed
        ∙ ap (λ b. if b then Some company else (if (overdue_nodes tick m).0 == 0 then None else Some (kept_nodes tick m company))) steady

-- the members of its view, once it has looked
pub settles : (run : MakerRun) (since tick : ℕ) (company : Mask) → IsSteady run since tick company
    → option_map (λ view. view.members) (after_tick tick (maker_of run)).view ≡ Some company
unfolding after_tick view_at
settles run since tick company steady = by_present (is_present (maker_of run) company) refl
  where
    kept : Kept run.settings.nodes run.me run.loop_ms (enough_of run.settings) (maker_of run)
    kept = kept_calls run.settings run.me run.loop_ms run.calls

    gone : Goes since company (maker_of run)
    gone = goes run.settings run.me run.loop_ms run.calls since tick company steady.rises steady.saw

    members : (present : Option View) → option_map_or (λ p. p.members.0 == company.0) present false ≡ true → option_map (λ v. v.members) present ≡ Some company
    members None is = absurd (false≢true is)
    members (Some view) is = ap Some (same_set view.members company is)

    change_is : (c : Change) → (maker_of run).change ≡ Some c → c.visible ≡ company → is_present (maker_of run) company ≡ false
        → (looked tick (maker_of run)).change ≡ Some c
    change_is c is same away =
        ap (λ (v : Mask). change_at tick (maker_of run) v) steady.sees
        ∙ ap (λ b. if b then None else Some (changed tick (maker_of run).change company)) away
        ∙ ap (λ (o : Option Change). Some (changed tick o company)) is
        ∙ ap (λ b. Some (if b then c else record { visible = company; since = tick; begun = c.begun })) (eq-eqb c.visible.0 company.0 (ap (λ (v : Mask). v.0) same))

    view_is : view_at tick (maker_of run) ≡ own_view tick (looked tick (maker_of run)) company
    view_is =
        ap (λ (c : Mask). if may_install tick (looked tick (maker_of run)) c then option_and_then (view_under tick (looked tick (maker_of run)) c) (leader_at (looked tick (maker_of run))) else None) steady.sees
        ∙ ap (λ b. if b then option_and_then (view_under tick (looked tick (maker_of run)) company) (leader_at (looked tick (maker_of run))) else None) steady.begins
        ∙ ap (λ (o : Option ℕ). option_and_then (view_under tick (looked tick (maker_of run)) company) o) (steady.leads ∙ ap Some (sym kept.me))
        ∙ ap (λ b. if b then own_view tick (looked tick (maker_of run)) company else followed_view (looked tick (maker_of run)) (maker_of run).me)
        (eq-eqb (maker_of run).me (maker_of run).me refl)

    gives : (found : Option View) → own_view tick (looked tick (maker_of run)) company ≡ found
        → (after_tick tick (maker_of run)).view ≡ (installed found (looked tick (maker_of run))).view
    gives found is = ap (λ (o : Option View). (installed o (looked tick (maker_of run))).view) (view_is ∙ is)

    own : is_present (maker_of run) company ≡ false → members_at tick (looked tick (maker_of run)) company ≡ Some company
        → own_view tick (looked tick (maker_of run)) company ≡ Some (record { id = next_plain (maker_of run).greatest; members = company })
    own away made =
        ap (λ b. if b then None
        else option_and_then (λ members. if is_present (maker_of run) members then None else Some (record { id = next_plain (maker_of run).greatest; members = members })) (members_at tick (looked tick (maker_of run)) company)) away
        ∙ ap (λ (o : Option Mask). option_and_then (λ members. if is_present (maker_of run) members then None else Some (record { id = next_plain (maker_of run).greatest; members = members })) o) made
        ∙ ap (λ b. if b then None else Some (record { id = next_plain (maker_of run).greatest; members = company })) away

    by_goes : is_present (maker_of run) company ≡ false → Goes since company (maker_of run)
        → option_map (λ v. v.members) (after_tick tick (maker_of run)).view ≡ Some company
    by_goes away (Present is) = absurd (false≢true (sym away ∙ is))
    by_goes away (Changes c is same by') =
        let late : c.since + (maker_of run).loop_ms ≤ tick = let span = kept.loop_ms in let late = steady.late in omega arith in
        let settled = members_settled tick (looked tick (maker_of run)) company c (change_is c is same away) late (eq-eqb _ 0 steady.agreed) in
        ap (λ (o : Option View). option_map (λ v. v.members) o) (gives _ (own away settled))

    by_present : (b : Bool) → is_present (maker_of run) company ≡ b → option_map (λ v. v.members) (after_tick tick (maker_of run)).view ≡ Some company
    by_present true is =
        let none : own_view tick (looked tick (maker_of run)) company ≡ None =
        ap (λ b. if b then None
        else option_and_then (λ members. if is_present (maker_of run) members then None else Some (record { id = next_plain (maker_of run).greatest; members = members })) (members_at tick (looked tick (maker_of run)) company)) is in
        ap (λ (o : Option View). option_map (λ v. v.members) o) (gives None none) ∙ members (maker_of run).view is
    by_present false away = by_goes away gone
