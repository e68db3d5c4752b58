-- A company that a leader finds for long becomes its view, whoever was in dispute or in doubt.
use Rattle.std.proofs.Common.{◌≡◌, ℕ, suc, zero, ◌+◌, ◌*◌, ◌^◌, ◌<◌, ◌≤◌, Bool, true, false, not, List, [], ◌∷◌, length, Option, Some, None, IfSome, refl, sym, ap, ◌∙◌, subst, arith, ◌||◌, ◌&&◌, ◌==◌, if◌then◌else◌, ◌⊎◌, inl, inr, nat_le}
use Rattle.std.specs.Option.{option_map_or}
use Rattle.std.specs.Prelude.{is_some, option_map, unwrap_or, bit_or}
use Rattle.std.proofs.lemmas.Bool.{and_parts, false≢true, not-true, le-leb, lt-ltb, or_cases, or_right}
use Rattle.qn_base.specs.declared.ids.Mask.{Mask}
use Rattle.qn_base.specs.declared.ids.View.{View}
use Rattle.qn_base.specs.Members.{is_member}
use Rattle.qn_model.specs.declared.nodelist.NodeEntry.{NodeEntry}
use Rattle.qn_model.specs.declared.configuration.Settings.{Settings}
use Rattle.qn_model.specs.Votes.{are_all_in}
use Rattle.qn_member.specs.Maker.{Maker, after_tick, first_loops, may_install, outside_nodes, company_at, differs_at, differs_still, disputed_nodes, enough_of, first_maker, has_left, installed, is_disputed, is_heard, is_in_one, is_kept, is_led, is_missed, is_overdue, is_present_member, kept_nodes, leader_at, led_nodes, looked, of_rank, own_view, ranks_that, seeing, three_loops_after, view_at}
use Rattle.qn_member.specs.MakerCalls.{Announce, Differs, Due, Finds, Hello, Look, LooksBackTo, MakerCall, MakerRun, NeverFalls, OwnView, PlainHello, after_calls, company_of, first_look_before, first_of, maker_of}
use Rattle.qn_member.specs.Settling.{IsLasting, Keeps, Leads}
use Rattle.qn_member.proofs.Calls.{differs_by_calls, first_look_of_calls}
use Rattle.qn_member.proofs.Differs.{item_of_rank, length-with_ranks}
use Rattle.qn_member.proofs.Heard.{Kept, Still, kept_calls, still_announce, still_due, still_hello, still_plain}
use Rattle.qn_member.proofs.Owning.{Doubted, First, Known, Made, Steady, company_is, made_of, own_of_look, own_parts, own_views_by_calls}
use Rattle.qn_member.proofs.Ranks.{member_of-ranks_that, ranks_that-same}
use Rattle.qn_member.proofs.Settles.{saw_by, settles}

-- where none passes the set is empty
no_ranks : (test : ℕ → Bool) (count : ℕ) → ((rank : ℕ) → rank < count → test rank ≡ false) → ranks_that test count ≡ 0
unfolding ranks_that
no_ranks test zero none = refl
no_ranks test (suc count) none =
    ap (λ b. if b then bit_or (ranks_that test count) (2 ^ count) else ranks_that test count) (none count (omega arith))
    ∙ no_ranks test count (λ rank below. none rank (omega arith))

-- a rank that differs from the view does so since a tick that is no later than this one
Early : ℕ → Mask → Maker → Type 0
Early since company m =
    (rank : ℕ) → rank < 32 → is_in_one (is_present_member m rank) (is_member company rank) ≡ true
    → (at : ℕ) × (of_rank m.differs rank ≡ Some at) × (at ≤ since)

early_still : (since : ℕ) (company : Mask) (m after : Maker) → Still m after → Early since company m → Early since company after
unfolding Early
early_still since company m after still early = λ rank below differs.
    let was : is_in_one (is_present_member m rank) (is_member company rank) ≡ true =
    ap (λ (v : Option View). is_in_one (option_map_or (λ present. is_member present.members rank) v false) (is_member company rank)) (sym still.view) ∙ differs in
    let found = early rank below was in
    (found.0, ap (λ (d : List (Option ℕ)). of_rank d rank) still.differs ∙ found.1, found.2)

-- a look from that tick on
early_look : (since tick : ℕ) (company : Mask) (m : Maker) → length m.differs ≡ 32 → Finds company tick m
    → ((rank at : ℕ) → rank < 32 → of_rank m.differs rank ≡ Some at → at ≤ tick)
    → (tick ≡ since) ⊎ Early since company m → Early since company (looked tick m)
unfolding Early
early_look since tick company m room finds known how = λ rank below differs.
    by_old rank below differs (of_rank m.differs rank) refl how
  where
    item_is : (rank : ℕ) → rank < 32 → is_in_one (is_present_member m rank) (is_member company rank) ≡ true
        → of_rank (looked tick m).differs rank ≡ Some (unwrap_or (of_rank m.differs rank) tick)
    item_is rank below differs =
        item_of_rank (differs_at tick (seeing tick m) (company_of tick m)) 32 m.differs rank (omega arith) below
        ∙ (ap (λ (c : Mask). if is_in_one (is_present_member m rank) (is_member c rank) then Some (unwrap_or (of_rank m.differs rank) tick) else None) finds
        ∙ ap (λ b. if b then Some (unwrap_or (of_rank m.differs rank) tick) else None) differs)

    by_old : (rank : ℕ) → rank < 32 → is_in_one (is_present_member m rank) (is_member company rank) ≡ true
        → (old : Option ℕ) → of_rank m.differs rank ≡ old → (tick ≡ since) ⊎ Early since company m
        → (at : ℕ) × (of_rank (looked tick m).differs rank ≡ Some at) × (at ≤ since)
    by_old rank below differs None was (inl here) =
        (tick, item_is rank below differs ∙ ap (λ (o : Option ℕ). Some (unwrap_or o tick)) was, omega arith)
    by_old rank below differs None was (inr early) = let found = early rank below differs in absurd (let e = sym was ∙ found.1 in cc)
    by_old rank below differs (Some at) was (inl here) =
        let before = known rank at below was in
        (at, item_is rank below differs ∙ ap (λ (o : Option ℕ). Some (unwrap_or o tick)) was, omega arith)
    by_old rank below differs (Some at) was (inr early) =
        let found = early rank below differs in
        let same : Some at ≡ Some found.0 = sym was ∙ found.1 in
        let it : at ≡ found.0 = cc in
        let low = found.2 in
        (at, item_is rank below differs ∙ ap (λ (o : Option ℕ). Some (unwrap_or o tick)) was, omega arith)

-- and the view that it gives, at the leader
early_view : (since tick : ℕ) (company : Mask) (m : Maker) (found : Option View) → length m.differs ≡ 32 → company_at m ≡ company
    → IfSome found (λ view. OwnView tick m view) → Early since company m → Early since company (installed found m)
unfolding Early
early_view since tick company m None room same own early = early
early_view since tick company m (Some view) room same own early = λ rank below differs.
    by_tests rank below (is_member view.members rank) (is_member company rank) refl refl differs
  where
    in_doubt : (rank : ℕ) → is_member view.members rank ≡ true → is_member company rank ≡ false → is_present_member m rank ≡ true
    in_doubt rank in_view out =
        by_case (or_cases (is_member (company_at m) rank) _ (own.members rank in_view))
      where
        by_case : (is_member (company_at m) rank ≡ true) ⊎ ((is_missed tick m (company_at m) rank && not (is_heard tick m rank)) ≡ true)
            → is_present_member m rank ≡ true
        by_case (inl in_it) = absurd (false≢true (sym out ∙ (ap (λ (c : Mask). is_member c rank) (sym same) ∙ in_it)))
        by_case (inr doubt) =
            let missed = (and_parts (is_missed tick m (company_at m) rank) (not (is_heard tick m rank)) doubt).0 in
            let one = (and_parts (is_present_member m rank && not (is_member (company_at m) rank) && not (has_left m rank)) (not (is_overdue tick m rank)) missed).0 in
            let two = (and_parts (is_present_member m rank && not (is_member (company_at m) rank)) (not (has_left m rank)) one).0 in
            (and_parts (is_present_member m rank) (not (is_member (company_at m) rank)) two).0

    still_is : (rank : ℕ) → rank < 32 → is_member view.members rank ≡ true → is_member company rank ≡ false → is_present_member m rank ≡ true
        → of_rank (installed (Some view) m).differs rank ≡ of_rank m.differs rank
    still_is rank below in_view out present =
        item_of_rank (differs_still m (company_at m) view) 32 m.differs rank (omega arith) below
        ∙ (ap (λ b. if not (is_in_one b (is_present_member m rank)) && is_in_one b (is_member (company_at m) rank) then of_rank m.differs rank else None) in_view
        ∙ (ap (λ b. if not (not b) && not (is_member (company_at m) rank) then of_rank m.differs rank else None) present
        ∙ ap (λ b. if true && not b then of_rank m.differs rank else None) (ap (λ (c : Mask). is_member c rank) same ∙ out)))

    by_tests : (rank : ℕ) → rank < 32 → (in_view in_company : Bool) → is_member view.members rank ≡ in_view → is_member company rank ≡ in_company
        → is_in_one in_view in_company ≡ true → (at : ℕ) × (of_rank (installed (Some view) m).differs rank ≡ Some at) × (at ≤ since)
    by_tests rank below true true one other differs = absurd (false≢true differs)
    by_tests rank below false false one other differs = absurd (false≢true differs)
    by_tests rank below false true one other differs =
        absurd (false≢true (sym one ∙ own.company rank (ap (λ (c : Mask). is_member c rank) same ∙ other)))
    by_tests rank below true false one other differs =
        let present = in_doubt rank one other in
        let was : is_in_one (is_present_member m rank) (is_member company rank) ≡ true =
        ap (λ b. is_in_one b (is_member company rank)) present ∙ ap not other in
        let found = early rank below was in
        (found.0, still_is rank below one other present ∙ found.1, found.2)

module _ (s : Settings) (me loop_ms : ℕ) where
  abbrev run_of : List MakerCall → MakerRun
  run_of calls = record { settings = s; me = me; loop_ms = loop_ms; calls = calls }

  known_before : (tick : ℕ) (earlier : List MakerCall) → NeverFalls tick earlier
      → (rank at : ℕ) → rank < 32 → of_rank (after_calls earlier (first_maker s me loop_ms)).differs rank ≡ Some at → at ≤ tick
  known_before tick earlier rises rank at below is =
      saw_by (Differs rank) at tick (first_maker s me loop_ms) earlier (differs_by_calls (run_of earlier) rank at below is) rises

  early_looked : (since tick : ℕ) (company : Mask) (earlier : List MakerCall) → Leads me company tick (after_calls earlier (first_maker s me loop_ms)) → NeverFalls tick earlier
      → (tick ≡ since) ⊎ Early since company (after_calls earlier (first_maker s me loop_ms))
      → Early since company (looked tick (after_calls earlier (first_maker s me loop_ms)))
  early_looked since tick company earlier leads rises how =
      early_look since tick company (after_calls earlier (first_maker s me loop_ms)) (kept_calls s me loop_ms earlier).differs leads.1 (known_before tick earlier rises) how

  own_found : (tick : ℕ) (company : Mask) (earlier : List MakerCall) → Leads me company tick (after_calls earlier (first_maker s me loop_ms)) → (found : Option View)
      → view_at tick (after_calls earlier (first_maker s me loop_ms)) ≡ found → IfSome found (λ view. OwnView tick (looked tick (after_calls earlier (first_maker s me loop_ms))) view)
  own_found tick company earlier leads None is = tt
  own_found tick company earlier leads (Some view) is =
      own_views_by_calls (run_of earlier) tick view (leads.0 ∙ ap Some (sym (kept_calls s me loop_ms earlier).me)) is

  early_calls : (calls : List MakerCall) (since tick : ℕ) (company : Mask) → NeverFalls tick calls → LooksBackTo (Leads me company) since (first_maker s me loop_ms) calls
      → Early since company (after_calls calls (first_maker s me loop_ms))
  unfolding after_calls after_tick
  early_calls [] since tick company rises saw = absurd saw
  early_calls (Look at ∷ earlier) since tick company rises saw =
      let m = after_calls earlier (first_maker s me loop_ms) in
      early_view since at company (looked at m) (view_at at m) (length-with_ranks _ 32 m.differs ∙ (kept_calls s me loop_ms earlier).differs) saw.0.1
      (own_found at company earlier saw.0 (view_at at m) refl)
      (early_looked since at company earlier saw.0 rises.1 (by_how saw.1 (λ back. early_calls earlier since at company rises.1 back)))
    where
      by_how : (at ≡ since) ⊎ LooksBackTo (Leads me company) since (first_maker s me loop_ms) earlier
          → (LooksBackTo (Leads me company) since (first_maker s me loop_ms) earlier → Early since company (after_calls earlier (first_maker s me loop_ms)))
          → (at ≡ since) ⊎ Early since company (after_calls earlier (first_maker s me loop_ms))
      by_how (inl here) rest = inl here
      by_how (inr back) rest = inr (rest back)
  early_calls (Hello at from said ∷ earlier) since tick company rises saw =
      early_still since company _ _ (still_hello at from said (after_calls earlier (first_maker s me loop_ms))) (early_calls earlier since tick company rises saw)
  early_calls (PlainHello at from ∷ earlier) since tick company rises saw =
      early_still since company _ _ (still_plain at from (after_calls earlier (first_maker s me loop_ms))) (early_calls earlier since tick company rises saw)
  early_calls (Announce from view ∷ earlier) since tick company rises saw =
      early_still since company _ _ (still_announce from view (after_calls earlier (first_maker s me loop_ms))) (early_calls earlier since tick company rises saw)
  early_calls (Due at ∷ earlier) since tick company rises saw =
      early_still since company _ _ (still_due at (after_calls earlier (first_maker s me loop_ms))) (early_calls earlier since tick company rises saw)

-- three loops later nobody is missed
none_missed : (since tick : ℕ) (company : Mask) (m : Maker) → Early since company m → since + 3 * m.loop_ms ≤ tick
    → (rank : ℕ) → rank < 32 → is_missed tick m company rank ≡ false
unfolding Early
none_missed since tick company m early long rank below = by_test (is_missed tick m company rank) refl
  where
    overdue_is : (at : ℕ) → of_rank m.differs rank ≡ Some at → at ≤ since → has_left m rank ≡ false → is_overdue tick m rank ≡ true
    overdue_is at is low stayed =
        ap (λ b. not b && option_map_or (λ since. nat_le (three_loops_after m since) tick) (of_rank m.differs rank) false) stayed
        ∙ (ap (λ (o : Option ℕ). option_map_or (λ since. nat_le (three_loops_after m since) tick) o false) is
        ∙ le-leb (at + 3 * m.loop_ms) tick (omega arith))

    by_test : (b : Bool) → is_missed tick m company rank ≡ b → b ≡ false
    by_test false is = refl
    by_test true is =
        let first = and_parts (is_present_member m rank && not (is_member company rank) && not (has_left m rank)) (not (is_overdue tick m rank)) is in
        let second = and_parts (is_present_member m rank && not (is_member company rank)) (not (has_left m rank)) first.0 in
        let third = and_parts (is_present_member m rank) (not (is_member company rank)) second.0 in
        let differs : is_in_one (is_present_member m rank) (is_member company rank) ≡ true =
        ap (λ b. is_in_one b (is_member company rank)) third.0 ∙ third.1 in
        let found = early rank below differs in
        let overdue = overdue_is found.0 found.1 found.2 (not-true (has_left m rank) second.1) in
        absurd (false≢true (sym (not-true (is_overdue tick m rank) first.1) ∙ overdue))

module _ (run : MakerRun) (few : length run.settings.nodes ≤ 32) where
  abbrev made_by : List MakerCall → Maker
  made_by calls = after_calls calls (first_of run)

  module _ (since tick : ℕ) (company : Mask) (earlier : List MakerCall) (leads : Leads run.me company tick (made_by earlier)) (rises : NeverFalls tick earlier)
      (how : (tick ≡ since) ⊎ LooksBackTo (Leads run.me company) since (first_of run) earlier) (long : since + 3 * run.loop_ms ≤ tick) where
    kept : Kept run.settings.nodes run.me run.loop_ms (enough_of run.settings) (made_by earlier)
    kept = kept_calls run.settings run.me run.loop_ms earlier

    early : Early since company (looked tick (made_by earlier))
    early = early_looked run.settings run.me run.loop_ms since tick company earlier leads rises (by_how how)
      where
        by_how : (tick ≡ since) ⊎ LooksBackTo (Leads run.me company) since (first_of run) earlier → (tick ≡ since) ⊎ Early since company (made_by earlier)
        by_how (inl here) = inl here
        by_how (inr back) = inr (early_calls run.settings run.me run.loop_ms earlier since tick company rises back)

    missed : (rank : ℕ) → rank < length (made_by earlier).nodes → is_missed tick (looked tick (made_by earlier)) company rank ≡ false
    missed rank below =
        let count = ap (λ (n : List NodeEntry). length n) kept.nodes in
        let span = kept.loop_ms in
        none_missed since tick company (looked tick (made_by earlier)) early (omega arith) rank (omega arith)

    agreed : (disputed_nodes tick (looked tick (made_by earlier)) company).0 ≡ 0
    agreed =
        no_ranks (is_disputed tick (looked tick (made_by earlier)) company) (length (made_by earlier).nodes)
        (λ rank below. ap (λ b. b && is_heard tick (looked tick (made_by earlier)) rank) (missed rank below))

    own_leads : leader_at (looked tick (made_by earlier)) ≡ Some (made_by earlier).me
    own_leads = leads.0 ∙ ap Some (sym kept.me)

    kept_same : kept_nodes tick (looked tick (made_by earlier)) company ≡ company
    kept_same =
        let led_is : led_nodes (looked tick (made_by earlier)) (looked tick (made_by earlier)).seen ≡ company = sym (company_is (looked tick (made_by earlier)) own_leads) ∙ leads.1 in
        ap (λ (n : ℕ). record { 0 = n })
        (ranks_that-same (is_kept tick (looked tick (made_by earlier)) company) (is_led (looked tick (made_by earlier)) (looked tick (made_by earlier)).seen) (length (made_by earlier).nodes)
        (λ rank below.
        ap (λ b. is_member company rank || b && not (is_heard tick (looked tick (made_by earlier)) rank)) (missed rank below)
        ∙ (or_none (is_member company rank)
        ∙ (ap (λ (c : Mask). is_member c rank) (sym led_is)
        ∙ (member_of-ranks_that (is_led (looked tick (made_by earlier)) (looked tick (made_by earlier)).seen) (length (made_by earlier).nodes) rank
        ∙ ap (λ b. b && is_led (looked tick (made_by earlier)) (looked tick (made_by earlier)).seen rank) (lt-ltb rank (length (made_by earlier).nodes) below))))))
        ∙ led_is
      where
        or_none : (b : Bool) → (b || false) ≡ b
        or_none true = refl
        or_none false = refl

    members_same : (members : Mask) → Made tick (looked tick (made_by earlier)) company members → members ≡ company
    members_same members (Known known same) = same
    members_same members (First none same) = same
    members_same members (Steady none same) = same
    members_same members (Doubted none same) = same ∙ kept_same

    keeps : Keeps company tick (made_by earlier)
    keeps = (leads.1, by_view (view_at tick (made_by earlier)) refl)
      where
        by_view : (found : Option View) → view_at tick (made_by earlier) ≡ found → IfSome found (λ view. view.members ≡ company)
        by_view None is = tt
        by_view (Some view) is =
            let own : own_view tick (looked tick (made_by earlier)) company ≡ Some view =
            subst (λ (c : Mask). own_view tick (looked tick (made_by earlier)) c ≡ Some view) leads.1 (own_of_look tick (made_by earlier) view own_leads is) in
            members_same view.members (made_of tick (looked tick (made_by earlier)) company view.members (own_parts tick (looked tick (made_by earlier)) company view own).members)

  row_keeps : (since mid tick : ℕ) (company : Mask) (calls : List MakerCall) → NeverFalls tick calls → since + 3 * run.loop_ms ≤ mid
      → LooksBackTo (Leads run.me company) since (first_of run) calls → LooksBackTo (Leads run.me company) mid (first_of run) calls
      → LooksBackTo (Keeps company) mid (first_of run) calls
  row_keeps since mid tick company [] rises long saw then_saw = absurd saw
  row_keeps since mid tick company (Look at ∷ earlier) rises long saw then_saw =
      let low : mid ≤ at = by_low then_saw.1 in (
        keeps since at company earlier saw.0 rises.1 saw.1 (omega arith),
        by_how saw.1 then_saw.1 (λ back then_back. row_keeps since mid at company earlier rises.1 long back then_back),
      )
    where
      by_low : (at ≡ mid) ⊎ LooksBackTo (Leads run.me company) mid (first_of run) earlier → mid ≤ at
      by_low (inl here) = omega arith
      by_low (inr back) = saw_by (Leads run.me company) mid at (first_of run) earlier back rises.1

      by_how : (at ≡ since) ⊎ LooksBackTo (Leads run.me company) since (first_of run) earlier → (at ≡ mid) ⊎ LooksBackTo (Leads run.me company) mid (first_of run) earlier
          → (LooksBackTo (Leads run.me company) since (first_of run) earlier → LooksBackTo (Leads run.me company) mid (first_of run) earlier → LooksBackTo (Keeps company) mid (first_of run) earlier)
          → (at ≡ mid) ⊎ LooksBackTo (Keeps company) mid (first_of run) earlier
      by_how how (inl here) rest = inl here
      by_how (inl here) (inr then_back) rest = let low = saw_by (Leads run.me company) mid at (first_of run) earlier then_back rises.1 in inl (omega arith)
      by_how (inr back) (inr then_back) rest = inr (rest back then_back)
  row_keeps since mid tick company (Hello at from said ∷ earlier) rises long saw then_saw = row_keeps since mid tick company earlier rises long saw then_saw
  row_keeps since mid tick company (PlainHello at from ∷ earlier) rises long saw then_saw = row_keeps since mid tick company earlier rises long saw then_saw
  row_keeps since mid tick company (Announce from view ∷ earlier) rises long saw then_saw = row_keeps since mid tick company earlier rises long saw then_saw
  row_keeps since mid tick company (Due at ∷ earlier) rises long saw then_saw = row_keeps since mid tick company earlier rises long saw then_saw

-- ## The first view

first_by : (tick : ℕ) (calls : List MakerCall) → NeverFalls tick calls → first_look_before tick calls ≤ tick
first_by tick [] rises = omega arith
first_by tick (Look at ∷ earlier) rises = let low = rises.0 in let rest = first_by at earlier rises.1 in omega arith
first_by tick (Hello at from said ∷ earlier) rises = first_by tick earlier rises
first_by tick (PlainHello at from ∷ earlier) rises = first_by tick earlier rises
first_by tick (Announce from view ∷ earlier) rises = first_by tick earlier rises
first_by tick (Due at ∷ earlier) rises = first_by tick earlier rises

-- the first look is no later than one to which the others go back
first_before : (IsSo : ℕ → Maker → Type 0) (since tick : ℕ) (first : Maker) (calls : List MakerCall) → LooksBackTo IsSo since first calls → NeverFalls tick calls
    → first_look_before tick calls ≤ since
first_before IsSo since tick first [] saw rises = absurd saw
first_before IsSo since tick first (Look at ∷ earlier) saw rises = by_how saw.1 (λ back. first_before IsSo since at first earlier back rises.1)
  where
    by_how : (at ≡ since) ⊎ LooksBackTo IsSo since first earlier → (LooksBackTo IsSo since first earlier → first_look_before at earlier ≤ since) → first_look_before at earlier ≤ since
    by_how (inl here) rest = let low = first_by at earlier rises.1 in omega arith
    by_how (inr back) rest = rest back
first_before IsSo since tick first (Hello at from said ∷ earlier) saw rises = first_before IsSo since tick first earlier saw rises
first_before IsSo since tick first (PlainHello at from ∷ earlier) saw rises = first_before IsSo since tick first earlier saw rises
first_before IsSo since tick first (Announce from view ∷ earlier) saw rises = first_before IsSo since tick first earlier saw rises
first_before IsSo since tick first (Due at ∷ earlier) saw rises = first_before IsSo since tick first earlier saw rises

-- four loops after the first look a first view may come
begins_by : (tick first : ℕ) (m : Maker) (company : Mask) → m.first_look ≡ Some first → first + 4 * m.loop_ms ≤ tick → may_install tick m company ≡ true
begins_by tick first m company is late =
    or_right (is_some m.view || are_all_in m.nodes company) _
    (ap (λ (o : Option ℕ). option_map_or (λ first. nat_le (first + first_loops tick m company * m.loop_ms) tick) o false) is
    ∙ by_outside ((outside_nodes tick m company).0 == 0))
  where
    by_outside : (b : Bool) → nat_le (first + (if b then 3 else 4) * m.loop_ms) tick ≡ true
    by_outside true = le-leb (first + 3 * m.loop_ms) tick (omega arith)
    by_outside false = le-leb (first + 4 * m.loop_ms) tick late

pub settles_at_last : (run : MakerRun) (since mid tick : ℕ) (company : Mask) → length run.settings.nodes ≤ 32 → IsLasting run since mid tick company
    → option_map (λ view. view.members) (after_tick tick (maker_of run)).view ≡ Some company
settles_at_last run since mid tick company few lasting =
    settles run mid tick company
    (record {
      saw = row_keeps run few since mid tick company run.calls lasting.rises lasting.long lasting.saw lasting.then_saw;
      sees = lasting.sees;
      rises = lasting.rises;
      late = lasting.late;
      begins =
          let first = first_before (Leads run.me company) since tick (first_of run) run.calls lasting.saw lasting.rises in
          let span = (kept_calls run.settings run.me run.loop_ms run.calls).loop_ms in
          let three = lasting.long in
          let one = lasting.late in
          begins_by tick (first_look_before tick run.calls) (looked tick (maker_of run)) company (first_look_of_calls run.settings run.me run.loop_ms run.calls tick) (omega arith);
      agreed =
          let first = lasting.long in
          let second = lasting.late in
          agreed run few since tick company run.calls (lasting.leads, lasting.sees) lasting.rises (inr lasting.saw) (omega arith);
      leads = lasting.leads;
    })
