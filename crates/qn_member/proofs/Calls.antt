-- A view maker after any list of its calls: ids, the first view, changes, and who differs from the present view.
use Rattle.std.proofs.Common.{◌≡◌, inl, inr, ℕ, ◌+◌, ◌*◌, ◌<◌, ◌≤◌, Bool, true, false, not, ◌==◌, ◌&&◌, ◌||◌, max, List, [], ◌∷◌, length, Option, None, Some, if◌then◌else◌, refl, sym, ap, subst, ◌∙◌, arith, nat_lt, nat_le, ◌⊎◌}
use Rattle.std.specs.Prelude.{is_some, option_and_then, unwrap_or}
use Rattle.std.specs.Option.{option_map_or, option_or}
use Rattle.std.proofs.lemmas.List.{get_or-replicate}
use Rattle.std.proofs.lemmas.Bool.Decides.{nat_tests, Decides-eqb}
use Rattle.qn_base.specs.declared.ids.Mask.{Mask}
use Rattle.qn_base.specs.declared.ids.View.{View}
use Rattle.qn_base.specs.Members.{is_member}
use Rattle.qn_model.specs.declared.nodelist.NodeEntry.{NodeEntry}
use Rattle.qn_model.specs.declared.configuration.Settings.{Settings}
use Rattle.qn_model.specs.Votes.{are_all_in}
use Rattle.qn_member.specs.declared.change.Change.{Change}
use Rattle.qn_base.specs.declared.ids.Said.{Said}
use Rattle.qn_member.specs.Announcing.{is_hello_due}
use Rattle.qn_candidate.specs.Numbers.{without_name}
use Rattle.qn_member.specs.Maker.{Maker, after_hello, after_tick, changed, company_at, differs_at, differs_still, enough_of, first_loops, first_maker, has_configured, installed, is_configured, is_in_one, is_present, is_present_member, leader_at, looked, may_install, of_rank, plain, says_more, seeing, view_at, view_under}
use Rattle.qn_member.specs.MakerCalls.{Announce, ChangeOf, Differs, Due, Finds, Hello, Look, LooksBackTo, MakerCall, MakerRun, MayBegin, Misses, NeverFalls, PlainHello, after_calls, company_of, first_look_before, first_of, greatest_of, ids_had, maker_of}
use Rattle.qn_member.proofs.Differs.{item_of_rank, length-with_ranks}
use Rattle.qn_member.proofs.Heard.{Kept, Still, greeted, kept_calls, still_announce, still_due, still_hello, still_plain, told}

-- ## Ids

greatest_announce : (m : Maker) (from : ℕ) (view : View) (ids : List ℕ) (b : Bool) → m.greatest ≡ greatest_of ids
    → (if b then told from view m else m).greatest
    ≡ greatest_of (if b then view.id ∷ ids else ids)
greatest_announce m from view ids true is = ap (λ (n : ℕ). max n (without_name view.id)) is
greatest_announce m from view ids false is = is

greatest_look : (tick : ℕ) (m : Maker) (found : Option View) (ids : List ℕ) → m.greatest ≡ greatest_of ids
    → (installed found (looked tick m)).greatest ≡ greatest_of (option_map_or (λ view. view.id ∷ ids) found ids)
greatest_look tick m None ids is = is
greatest_look tick m (Some view) ids is = ap (λ (n : ℕ). max n (without_name view.id)) is

greatest_if : (b : Bool) (m other : Maker) (n : ℕ) → other.greatest ≡ n → m.greatest ≡ n → (if b then other else m).greatest ≡ n
greatest_if true m other n same is = same
greatest_if false m other n same is = is

greatest_hello : (tick from : ℕ) (said : Said) (m : Maker) (n : ℕ) → m.greatest ≡ n → (after_hello tick from said m).greatest ≡ n
greatest_hello tick from said m n is = greatest_if (is_configured m from) m (greeted tick from said m) n is is

-- the greatest id is that of the views that were announced and installed
pub greatest_by_calls : (s : Settings) (me loop_ms : ℕ) (calls : List MakerCall)
    → (after_calls calls (first_maker s me loop_ms)).greatest ≡ greatest_of (ids_had (first_maker s me loop_ms) calls)
unfolding after_calls after_tick
greatest_by_calls s me loop_ms [] = refl
greatest_by_calls s me loop_ms (Hello tick from said ∷ earlier) =
    greatest_hello tick from said (after_calls earlier (first_maker s me loop_ms)) _ (greatest_by_calls s me loop_ms earlier)
greatest_by_calls s me loop_ms (PlainHello tick from ∷ earlier) =
    let m = after_calls earlier (first_maker s me loop_ms) in
    let before = greatest_by_calls s me loop_ms earlier in
    greatest_if (is_configured m from && not (says_more tick m from)) m (after_hello tick from plain m) _ (greatest_hello tick from plain m _ before) before
greatest_by_calls s me loop_ms (Announce from view ∷ earlier) =
    let first = first_maker s me loop_ms in
    let m = after_calls earlier first in
    greatest_announce m from view (ids_had first earlier) (is_configured m from && has_configured m.nodes view.members) (greatest_by_calls s me loop_ms earlier)
    ∙ ap (λ (n : List NodeEntry). greatest_of (if nat_lt from (length n) && has_configured n view.members then view.id ∷ ids_had first earlier else ids_had first earlier))
    ((kept_calls s me loop_ms earlier).nodes)
greatest_by_calls s me loop_ms (Look tick ∷ earlier) =
    let first = first_maker s me loop_ms in
    let m = after_calls earlier first in
    greatest_look tick m (view_at tick m) (ids_had first earlier) (greatest_by_calls s me loop_ms earlier)
greatest_by_calls s me loop_ms (Due tick ∷ earlier) =
    let m = after_calls earlier (first_maker s me loop_ms) in
    let before = greatest_by_calls s me loop_ms earlier in
    greatest_if (is_hello_due tick m) m _ _ before before

-- ## The first view

first_look_look : (at tick : ℕ) (found : Option View) (m : Maker) → (installed found (looked at m)).first_look ≡ option_or m.first_look (Some at)
first_look_look at tick None m = refl
first_look_look at tick (Some view) m = refl

first_look_still : {m after : Maker} (tick first : ℕ) → Still m after → option_or m.first_look (Some tick) ≡ Some first → option_or after.first_look (Some tick) ≡ Some first
first_look_still tick first still is = ap (λ (o : Option ℕ). option_or o (Some tick)) still.first_look ∙ is

-- the first look, where one at a tick follows
pub first_look_of_calls : (s : Settings) (me loop_ms : ℕ) (calls : List MakerCall) (tick : ℕ)
    → option_or (after_calls calls (first_maker s me loop_ms)).first_look (Some tick) ≡ Some (first_look_before tick calls)
unfolding after_calls after_tick
first_look_of_calls s me loop_ms [] tick = refl
first_look_of_calls s me loop_ms (Look at ∷ earlier) tick =
    let m = after_calls earlier (first_maker s me loop_ms) in
    ap (λ (first : Option ℕ). option_or first (Some tick)) (first_look_look at tick (view_at at m) m ∙ first_look_of_calls s me loop_ms earlier at)
first_look_of_calls s me loop_ms (Hello at from said ∷ earlier) tick =
    first_look_still tick _ (still_hello at from said (after_calls earlier (first_maker s me loop_ms))) (first_look_of_calls s me loop_ms earlier tick)
first_look_of_calls s me loop_ms (PlainHello at from ∷ earlier) tick =
    first_look_still tick _ (still_plain at from (after_calls earlier (first_maker s me loop_ms))) (first_look_of_calls s me loop_ms earlier tick)
first_look_of_calls s me loop_ms (Announce from view ∷ earlier) tick =
    first_look_still tick _ (still_announce from view (after_calls earlier (first_maker s me loop_ms))) (first_look_of_calls s me loop_ms earlier tick)
first_look_of_calls s me loop_ms (Due at ∷ earlier) tick =
    first_look_still tick _ (still_due at (after_calls earlier (first_maker s me loop_ms))) (first_look_of_calls s me loop_ms earlier tick)

-- a view comes only where one may be installed
installs : (tick : ℕ) (m : Maker) (view : View) → view_at tick m ≡ Some view → may_install tick (looked tick m) (company_of tick m) ≡ true
unfolding view_at
installs tick m view some = by_test (may_install tick (looked tick m) (company_of tick m)) refl some
  where
    by_test : (may : Bool) → may_install tick (looked tick m) (company_of tick m) ≡ may
        → (if may then option_and_then (view_under tick (looked tick m) (company_at (looked tick m))) (leader_at (looked tick m)) else None) ≡ Some view
        → may_install tick (looked tick m) (company_of tick m) ≡ true
    by_test true is some = is
    by_test false is none = absurd cc

pub first_view_by_calls : (run : MakerRun) (tick : ℕ) (view : View) → (maker_of run).view ≡ None → view_at tick (maker_of run) ≡ Some view → MayBegin run tick
first_view_by_calls run tick view none some =
    by_tests (are_all_in m.nodes (company_of tick m)) refl (installs tick m view some)
  where
    m : Maker
    m = maker_of run

    kept : Kept run.settings.nodes run.me run.loop_ms (enough_of run.settings) m
    kept = kept_calls run.settings run.me run.loop_ms run.calls

    wait : ℕ
    wait = first_loops tick m (company_of tick m)

    by_tests : (all : Bool) → are_all_in m.nodes (company_of tick m) ≡ all → may_install tick (looked tick m) (company_of tick m) ≡ true → MayBegin run tick
    by_tests true all may = inl (ap (λ (n : List NodeEntry). are_all_in n (company_of tick m)) (sym kept.nodes) ∙ all)
    by_tests false all may =
        let waited : option_map_or (λ first. nat_le (first + wait * m.loop_ms) tick) (option_or m.first_look (Some tick)) false ≡ true =
        sym (ap (λ (v : Option View). is_some v || are_all_in m.nodes (company_of tick m) || option_map_or (λ first. nat_le (first + wait * m.loop_ms) tick) (option_or m.first_look (Some tick)) false) none
        ∙ ap (λ (b : Bool). b || option_map_or (λ first. nat_le (first + wait * m.loop_ms) tick) (option_or m.first_look (Some tick)) false) all) ∙ may in
        let past : nat_le (first_look_before tick run.calls + wait * run.loop_ms) tick ≡ true =
        ap (λ (l : ℕ). nat_le (first_look_before tick run.calls + wait * l) tick) (sym kept.loop_ms)
        ∙ (ap (λ (o : Option ℕ). option_map_or (λ first. nat_le (first + wait * m.loop_ms) tick) o false) (sym (first_look_of_calls run.settings run.me run.loop_ms run.calls tick)) ∙ waited) in
        inr (grind (arith, nat_tests))

-- ## Changes

-- the change after a look
record FromLook (tick : ℕ) (m : Maker) (change : Change) : Type 0 where
  none : view_at tick m ≡ None
  other : is_present m (company_of tick m) ≡ false
  is : changed tick m.change (company_of tick m) ≡ change

from_look : (tick : ℕ) (m : Maker) (change : Change) → (after_tick tick m).change ≡ Some change → FromLook tick m change
unfolding after_tick
from_look tick m change is = by_view (view_at tick m) refl is
  where
    by_present : (present : Bool) → is_present m (company_of tick m) ≡ present → view_at tick m ≡ None
        → (if present then None else Some (changed tick m.change (company_of tick m))) ≡ Some change → FromLook tick m change
    by_present true at none is = absurd cc
    by_present false at none is = record { none = none; other = at; is = cc }

    by_view : (found : Option View) → view_at tick m ≡ found → (installed found (looked tick m)).change ≡ Some change → FromLook tick m change
    by_view None none is = by_present (is_present m (company_of tick m)) refl none is
    by_view (Some view) some is = absurd cc

-- the looks that a change goes by
record Looks (first : Maker) (calls : List MakerCall) (change : Change) : Type 0 where
  saw : LooksBackTo (Finds change.visible) change.since first calls
  missed : LooksBackTo Misses change.begun first calls

pub same_set : (one other : Mask) → (one.0 == other.0) ≡ true → one ≡ other
same_set one other is = let same : one.0 ≡ other.0 = (Decides-eqb one.0 other.0).0 is in ap (λ (n : ℕ). record { 0 = n }) same

module _ (first : Maker) where
  looks_changed : (tick : ℕ) (earlier : List MakerCall) (before : Option Change) (change : Change)
      → Misses tick (after_calls earlier first)
      → ((c : Change) → before ≡ Some c → Looks first earlier c)
      → changed tick before (company_of tick (after_calls earlier first)) ≡ change → Looks first (Look tick ∷ earlier) change
  looks_changed tick earlier None change misses known is =
      subst (λ (c : Change). Looks first (Look tick ∷ earlier) c) is (record { saw = (refl, inl refl); missed = (misses, inl refl) })
  looks_changed tick earlier (Some c) change misses known is =
      by_test (c.visible.0 == (company_of tick (after_calls earlier first)).0) refl is
    where
      old : Looks first earlier c
      old = known c refl

      by_test : (same : Bool) → (c.visible.0 == (company_of tick (after_calls earlier first)).0) ≡ same
          → (if same then c else record { visible = company_of tick (after_calls earlier first); since = tick; begun = c.begun }) ≡ change
          → Looks first (Look tick ∷ earlier) change
      by_test true same is =
          subst (λ (c : Change). Looks first (Look tick ∷ earlier) c) is
          (record { saw = (sym (same_set c.visible (company_of tick (after_calls earlier first)) same), inr old.saw); missed = (misses, inr old.missed) })
      by_test false other is =
          subst (λ (c : Change). Looks first (Look tick ∷ earlier) c) is (record { saw = (refl, inl refl); missed = (misses, inr old.missed) })

module _ (s : Settings) (me loop_ms : ℕ) where
  abbrev first_one : Maker
  first_one = first_maker s me loop_ms

  looks_of_calls : (calls : List MakerCall) (change : Change) → (after_calls calls first_one).change ≡ Some change → Looks first_one calls change
  unfolding after_calls
  looks_of_calls [] change is = absurd cc
  looks_of_calls (Look tick ∷ earlier) change is =
      let m = after_calls earlier (first_maker s me loop_ms) in
      let from = from_look tick m change is in
      looks_changed (first_maker s me loop_ms) tick earlier m.change change (from.other, from.none) (λ c before. looks_of_calls earlier c before) from.is
  looks_of_calls (Hello tick from said ∷ earlier) change is =
      let old = looks_of_calls earlier change (sym (still_hello tick from said (after_calls earlier (first_maker s me loop_ms))).change ∙ is) in
      record { saw = old.saw; missed = old.missed }
  looks_of_calls (PlainHello tick from ∷ earlier) change is =
      let old = looks_of_calls earlier change (sym (still_plain tick from (after_calls earlier (first_maker s me loop_ms))).change ∙ is) in
      record { saw = old.saw; missed = old.missed }
  looks_of_calls (Announce from view ∷ earlier) change is =
      let old = looks_of_calls earlier change (sym (still_announce from view (after_calls earlier (first_maker s me loop_ms))).change ∙ is) in
      record { saw = old.saw; missed = old.missed }
  looks_of_calls (Due tick ∷ earlier) change is =
      let old = looks_of_calls earlier change (sym (still_due tick (after_calls earlier (first_maker s me loop_ms))).change ∙ is) in
      record { saw = old.saw; missed = old.missed }

  -- where ticks do not fall, a change began no later than its company was found, and this no later than the last look
  order_changed : (tick : ℕ) (before : Option Change) (visible : Mask) (change : Change)
      → ((c : Change) → before ≡ Some c → (c.begun ≤ c.since) × (c.since ≤ tick)) → changed tick before visible ≡ change
      → (change.begun ≤ change.since) × (change.since ≤ tick)
  order_changed tick None visible change known is =
      subst (λ (c : Change). (c.begun ≤ c.since) × (c.since ≤ tick)) is (omega arith, omega arith)
  order_changed tick (Some c) visible change known is = by_test (c.visible.0 == visible.0) is
    where
      old : (c.begun ≤ c.since) × (c.since ≤ tick)
      old = known c refl

      by_test : (same : Bool) → (if same then c else record { visible = visible; since = tick; begun = c.begun }) ≡ change
          → (change.begun ≤ change.since) × (change.since ≤ tick)
      by_test true is = subst (λ (c : Change). (c.begun ≤ c.since) × (c.since ≤ tick)) is old
      by_test false is =
          let first = old.0 in
          let second = old.1 in
          subst (λ (c : Change). (c.begun ≤ c.since) × (c.since ≤ tick)) is (omega (arith, first, second), omega arith)

  order_of_calls : (calls : List MakerCall) (change : Change) (tick : ℕ) → NeverFalls tick calls → (after_calls calls first_one).change ≡ Some change
      → (change.begun ≤ change.since) × (change.since ≤ tick)
  unfolding after_calls
  order_of_calls [] change tick rises is = absurd cc
  order_of_calls (Look at ∷ earlier) change tick rises is =
      let m = after_calls earlier (first_maker s me loop_ms) in
      let from = from_look at m change is in
      let within = order_changed at m.change (company_of at m) change (λ c before. order_of_calls earlier c at rises.1 before) from.is in
      let late = rises.0 in
      let since = within.1 in
      (within.0, omega (arith, late, since))
  order_of_calls (Hello at from said ∷ earlier) change tick rises is =
      order_of_calls earlier change tick rises (sym (still_hello at from said (after_calls earlier (first_maker s me loop_ms))).change ∙ is)
  order_of_calls (PlainHello at from ∷ earlier) change tick rises is =
      order_of_calls earlier change tick rises (sym (still_plain at from (after_calls earlier (first_maker s me loop_ms))).change ∙ is)
  order_of_calls (Announce from view ∷ earlier) change tick rises is =
      order_of_calls earlier change tick rises (sym (still_announce from view (after_calls earlier (first_maker s me loop_ms))).change ∙ is)
  order_of_calls (Due at ∷ earlier) change tick rises is =
      order_of_calls earlier change tick rises (sym (still_due at (after_calls earlier (first_maker s me loop_ms))).change ∙ is)

pub change_by_calls : (run : MakerRun) (change : Change) → (maker_of run).change ≡ Some change → ChangeOf run change
change_by_calls run change is =
    let looks = looks_of_calls run.settings run.me run.loop_ms run.calls change is in
    record {
      saw = looks.saw;
      missed = looks.missed;
      order = λ tick rises. (order_of_calls run.settings run.me run.loop_ms run.calls change tick rises is).0;
    }

-- ## Who differs

-- one that differs after a look is found so by it, and for the first time, or differed before
looked_differs : (tick : ℕ) (m : Maker) (rank since : ℕ) → rank < 32 → length m.differs ≡ 32 → of_rank (looked tick m).differs rank ≡ Some since
    → Differs rank tick m × ((tick ≡ since) ⊎ (of_rank m.differs rank ≡ Some since))
looked_differs tick m rank since below room is =
    by_test (is_in_one (is_present_member m rank) (is_member (company_of tick m) rank)) refl
    (sym (item_of_rank (differs_at tick (seeing tick m) (company_of tick m)) 32 m.differs rank (omega arith) below) ∙ is)
  where
    by_old : (old : Option ℕ) → of_rank m.differs rank ≡ old → Some (unwrap_or old tick) ≡ Some since → (tick ≡ since) ⊎ (of_rank m.differs rank ≡ Some since)
    by_old None was is = inl (cc)
    by_old (Some at) was is = inr (was ∙ is)

    by_test : (differs : Bool) → is_in_one (is_present_member m rank) (is_member (company_of tick m) rank) ≡ differs
        → (if differs then Some (unwrap_or (of_rank m.differs rank) tick) else None) ≡ Some since
        → Differs rank tick m × ((tick ≡ since) ⊎ (of_rank m.differs rank ≡ Some since))
    by_test true differs is = (differs, by_old (of_rank m.differs rank) refl is)
    by_test false same is = absurd cc

-- a new view leaves it as it was, or ends it
installed_differs : (found : Option View) (m : Maker) (rank since : ℕ) → rank < 32 → length m.differs ≡ 32 → of_rank (installed found m).differs rank ≡ Some since
    → of_rank m.differs rank ≡ Some since
installed_differs None m rank since below room is = is
installed_differs (Some view) m rank since below room is =
    by_test (not (is_in_one (is_member view.members rank) (is_present_member m rank)) && is_in_one (is_member view.members rank) (is_member (company_at m) rank))
    (sym (item_of_rank (differs_still m (company_at m) view) 32 m.differs rank (omega arith) below) ∙ is)
  where
    by_test : (stays : Bool) → (if stays then of_rank m.differs rank else None) ≡ Some since → of_rank m.differs rank ≡ Some since
    by_test true is = is
    by_test false is = absurd cc

module _ (s : Settings) (me loop_ms rank : ℕ) (below : rank < 32) where
  differs_of_calls : (calls : List MakerCall) (since : ℕ) → of_rank (after_calls calls (first_maker s me loop_ms)).differs rank ≡ Some since
      → LooksBackTo (Differs rank) since (first_maker s me loop_ms) calls
  unfolding after_calls after_tick
  differs_of_calls [] since is = absurd (let none = get_or-replicate {A = Option ℕ} 32 rank None None below in cc)
  differs_of_calls (Look tick ∷ earlier) since is =
      let m = after_calls earlier (first_maker s me loop_ms) in
      let room = (kept_calls s me loop_ms earlier).differs in
      let found = looked_differs tick m rank since below room (installed_differs (view_at tick m) (looked tick m) rank since below (length-with_ranks _ 32 m.differs ∙ room) is) in
      (found.0, back found.1 (λ was. differs_of_calls earlier since was))
    where
      back : (tick ≡ since) ⊎ (of_rank (after_calls earlier (first_maker s me loop_ms)).differs rank ≡ Some since)
          → (of_rank (after_calls earlier (first_maker s me loop_ms)).differs rank ≡ Some since → LooksBackTo (Differs rank) since (first_maker s me loop_ms) earlier)
          → (tick ≡ since) ⊎ LooksBackTo (Differs rank) since (first_maker s me loop_ms) earlier
      back (inl here) rest = inl here
      back (inr was) rest = inr (rest was)
  differs_of_calls (Hello tick from said ∷ earlier) since is =
      differs_of_calls earlier since (ap (λ (d : List (Option ℕ)). of_rank d rank) (sym (still_hello tick from said (after_calls earlier (first_maker s me loop_ms))).differs) ∙ is)
  differs_of_calls (PlainHello tick from ∷ earlier) since is =
      differs_of_calls earlier since (ap (λ (d : List (Option ℕ)). of_rank d rank) (sym (still_plain tick from (after_calls earlier (first_maker s me loop_ms))).differs) ∙ is)
  differs_of_calls (Announce from view ∷ earlier) since is =
      differs_of_calls earlier since (ap (λ (d : List (Option ℕ)). of_rank d rank) (sym (still_announce from view (after_calls earlier (first_maker s me loop_ms))).differs) ∙ is)
  differs_of_calls (Due tick ∷ earlier) since is =
      differs_of_calls earlier since (ap (λ (d : List (Option ℕ)). of_rank d rank) (sym (still_due tick (after_calls earlier (first_maker s me loop_ms))).differs) ∙ is)

pub differs_by_calls : (run : MakerRun) (rank since : ℕ) → rank < 32 → of_rank (maker_of run).differs rank ≡ Some since
    → LooksBackTo (Differs rank) since (first_of run) run.calls
differs_by_calls run rank since below is = differs_of_calls run.settings run.me run.loop_ms rank below run.calls since is
