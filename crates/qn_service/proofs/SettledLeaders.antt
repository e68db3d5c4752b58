-- A leader whose looks agree with those of the others comes to have a view of them, and keeps it.
use Rattle.std.proofs.Common.{◌≡◌, inl, inr, ℕ, ◌+◌, ◌*◌, ◌<◌, ◌≤◌, true, false, ◌==◌, List, ◌∷◌, ◌++◌, Option, None, Some, length, refl, sym, ◌∙◌, ap, subst, arith, eq-eqb}
use Rattle.std.specs.Prelude.{option_map}
use Rattle.std.specs.Option.{option_map_or}
use Rattle.std.proofs.Math.Nat.{le-max_left, le-max_right}
use Rattle.std.proofs.lemmas.Bool.{eqb-true}
use Rattle.std.proofs.lemmas.Option.{none-some, same_Some}
use Rattle.qn_base.specs.declared.ids.Mask.{Mask}
use Rattle.qn_base.specs.declared.ids.View.{View}
use Rattle.qn_model.specs.declared.configuration.Settings.{Settings}
use Rattle.qn_model.specs.declared.times.Timing.{Timing}
use Rattle.qn_model.specs.Moments.{Before, Itself, Later}
use Rattle.qn_model.specs.Phases.{is_live, phase}
use Rattle.qn_member.specs.Maker.{is_present}
use Rattle.qn_member.specs.Naming.{is_own, knows_bit}
use Rattle.qn_member.specs.NamingViews.{after_look, is_named_anew, looked_by_name, may_begin, view_of}
use Rattle.qn_safety.specs.Earlier.{before_tail, before_then}
use Rattle.qn_joined.specs.Joints.{Happening, IsJoined, joint_after}
use Rattle.qn_joined.specs.Moves.{EachIsOneEvent}
use Rattle.qn_joined.specs.WorldOf.{EveryJointHasAWorld}
use Rattle.qn_service.specs.Leaders.{HasSettled, LeadersSettle, LooksAgree, MaySettle, SettlesIn, found_ticks, settle_ticks}
use Rattle.qn_service.specs.Company.{FindsCompany}
use Rattle.qn_service.specs.Hellos.{HasLooked}
use Rattle.qn_service.specs.KeptViews.{KeepsOneView, KeepsView, WasLeft}
use Rattle.qn_service.specs.Leading.{company_then, leader_then}
use Rattle.qn_service.specs.Looks.{LookOf, look_of}
use Rattle.qn_service.specs.NextLooks.{FoundAt, FoundBack, IsSettledAt, last_look, look_of_rank}
use Rattle.qn_service.specs.Unheard.{log_after}
use Rattle.qn_service.proofs.ByTheImage.{HeadersReadBack}
use Rattle.qn_service.proofs.FoundCompanies.{company_found}
use Rattle.qn_service.proofs.JointClocks.{ClockLaws}
use Rattle.qn_service.proofs.LastLooks.{LastLook, last_from}
use Rattle.qn_service.proofs.Led.{FindsIt, begins}
use Rattle.qn_service.proofs.LedLooks.{LedLong, led_long}
use Rattle.qn_service.proofs.LogViews.{looks_know_names}
use Rattle.qn_service.proofs.Made.{filtered}
use Rattle.qn_service.proofs.NextLooks.{companies_settle, looks_follow}
use Rattle.qn_service.proofs.OneView.{next_left, open_after}
use Rattle.qn_service.proofs.RankSteps.{host_after}
use Rattle.qn_service.proofs.NearLooks.{still_late}
use Rattle.qn_service.proofs.SeenLooks.{looked_late}
use Rattle.qn_service.proofs.Waking.{IsLate, LastSince, clock_grows, clocks_of, last_since, late_fewer, live_of, loop_of_look, own_of_look, past_of_look, tick_of_look, ticks_passed, time_grows}

found_order : (found loop gaze turn ticks : ℕ) → found + loop + gaze + gaze + turn + 4 ≤ ticks → (found + gaze + 2) + (loop + gaze + turn) + 2 ≤ ticks
found_order found loop gaze turn ticks order = omega (arith, order)

led_order : (loop gaze turn ticks : ℕ) → 4 * loop + turn + gaze + gaze + 6 ≤ ticks → ((gaze + 2) + (4 * loop + turn) + 2) + gaze + 2 ≤ ticks
led_order loop gaze turn ticks order = omega (arith, order)

module _ (s : Settings) (t : Timing) (worlds : EveryJointHasAWorld s t) (one : EachIsOneEvent s t) (back : HeadersReadBack) (laws : ClockLaws)
    (image : ℕ → List ℕ) (turn post gaze : ℕ) (set : Mask) (leader : ℕ) (newer older : List Happening) (joined : IsJoined s t image (newer ++ older))
    (agree : LooksAgree s t image turn post gaze set leader older (newer ++ older)) (joins : SettlesIn s image turn gaze set leader older (newer ++ older)) where
  abbrev all : List Happening
  all = newer ++ older

  lives : (at : List Happening) → Before older at → Before at all → is_live (phase s (log_after s image at leader)) ≡ true
  lives = live_of s t worlds one back laws image turn leader newer older joined joins.awake

  knows : (at : List Happening) (happening : Happening) (look : LookOf) → look_of_rank s image leader happening at ≡ Some look → is_own look.maker knows_bit ≡ true
  knows at happening look found =
      let parts = filtered (λ (l : LookOf). l.rank == leader) (look_of s image happening at) look found in
      looks_know_names s image happening at look joined.fits.few (subst (λ r. r < length s.nodes) (sym (eqb-true look.rank leader parts.1)) joins.configured) parts.0

  -- a late look finds the set, and may settle
  module _ (at : List Happening) (happening : Happening) (look : LookOf) (since : Before older at) (until : Before (happening ∷ at) all)
      (found : look_of_rank s image leader happening at ≡ Some look) (late : IsLate s image (found_ticks t turn post gaze) older at) where
    company_set : company_then look.tick look.maker ≡ set
    company_set = company_found s t worlds one back laws image turn post gaze set leader newer older joined agree at happening look since until found late joins.configured joins.awake joins.member

    settles : MaySettle set look
    settles = joins.settles at happening look since until found company_set

    leads_own : leader_then look.tick look.maker ≡ Some look.maker.maker.me
    leads_own =
        (agree.finds leader joins.member at happening look since until found).leads
        ∙ ap Some (sym (own_of_look s t worlds one back laws image turn leader newer older joined joins.awake joins.configured happening at look since until found))

    finds_set : FindsCompany set look.tick look.maker
    finds_set = record { knows = knows at happening look found; finds = company_set; gives = settles.gives }

  -- from a first late look on each is so
  module _ (base : List Happening) (first : Happening) (begun : LookOf) (since : Before older base) (found : look_of_rank s image leader first base ≡ Some begun)
      (late : IsLate s image (found_ticks t turn post gaze) older base) where
    late_from : (h : List Happening) → Before base h → Before h all → IsLate s image (found_ticks t turn post gaze) older h
    late_from h order until =
        still_late (found_ticks t turn post gaze) (joint_after s image older).time (joint_after s image base).time (joint_after s image h).time
        (time_grows s t worlds one back laws image turn leader newer older joined joins.awake base h since order until) late

    found_back : (h : List Happening) → Before (first ∷ base) h → Before h all → FoundBack s image leader set begun.tick h
    found_back h Itself until =
        subst (λ (o : Option LookOf). FoundAt set begun.tick o (last_look s image leader base) (FoundBack s image leader set begun.tick base)) (sym found) (
          finds_set base first begun since until found late,
          inl (refl, (past_of_look s t worlds one back laws image turn leader newer older joined joins.awake first base begun since until found).change),
        )
    found_back (newest ∷ earlier) (Later same order) until =
        by_look (look_of_rank s image leader newest earlier) refl (found_back earlier order (before_tail until))
      where
        last : LastLook s image leader base earlier
        last =
            last_from s image leader base base first begun earlier Itself found order
            (λ h after before. lives h (before_then (Later first since) after) (before_then before (before_tail until)))

        by_look : (o : Option LookOf) → look_of_rank s image leader newest earlier ≡ o → FoundBack s image leader set begun.tick earlier
            → FoundBack s image leader set begun.tick (newest ∷ earlier)
        by_look None none rest =
            subst (λ (o : Option LookOf). FoundAt set begun.tick o (last_look s image leader earlier) (FoundBack s image leader set begun.tick earlier)) (sym none) rest
        by_look (Some l) some rest =
            subst (λ (o : Option LookOf). FoundAt set begun.tick o (last_look s image leader earlier) (FoundBack s image leader set begun.tick earlier)) (sym some) (
              finds_set earlier newest l (before_then (Later first since) order) until some (late_from earlier (before_then (Later first Itself) order) (before_tail until)),
              inr ((last.look, last.last), rest),
            )

  -- ## Its view

  finds_it : (at : List Happening) (happening : Happening) (look : LookOf) → Before older at → Before (happening ∷ at) all → look_of_rank s image leader happening at ≡ Some look
      → FindsIt leader look.tick look.maker
  finds_it at happening look since until found =
      record { knows = knows at happening look found; leads = (agree.finds leader joins.member at happening look since until found).leads }

  module _ (at : List Happening) (since : Before older at) (until : Before at all) (late : IsLate s image (settle_ticks t turn post gaze) older at) where
    late_found : IsLate s image ((found_ticks t turn post gaze + gaze + 2) + (t.loop_ms + gaze + turn) + 2) older at
    late_found =
        late_fewer ((found_ticks t turn post gaze + gaze + 2) + (t.loop_ms + gaze + turn) + 2) (settle_ticks t turn post gaze) (joint_after s image older).time (joint_after s image at).time
        (found_order (found_ticks t turn post gaze) t.loop_ms gaze turn (settle_ticks t turn post gaze)
        (le-max_left (found_ticks t turn post gaze + t.loop_ms + gaze + gaze + turn + 4) (4 * t.loop_ms + turn + gaze + gaze + 6))) late

    late_led : IsLate s image (((gaze + 2) + (4 * t.loop_ms + turn) + 2) + gaze + 2) older at
    late_led =
        late_fewer (((gaze + 2) + (4 * t.loop_ms + turn) + 2) + gaze + 2) (settle_ticks t turn post gaze) (joint_after s image older).time (joint_after s image at).time
        (led_order t.loop_ms gaze turn (settle_ticks t turn post gaze)
        (le-max_right (found_ticks t turn post gaze + t.loop_ms + gaze + gaze + turn + 4) (4 * t.loop_ms + turn + gaze + gaze + 6))) late

    loop_ago : LastSince s t worlds one back laws image turn leader newer older joined joins.awake (t.loop_ms + gaze) at
    loop_ago =
        last_since s t worlds one back laws image turn leader newer older joined joins.awake (t.loop_ms + gaze) at since until
        (ticks_passed (t.loop_ms + gaze) (host_after s image leader older).clock (host_after s image leader at).clock (joint_after s image older).time (joint_after s image at).time
        (clocks_of s t worlds one back laws image turn leader newer older joined joins.awake older at Itself since until).slow
        (late_fewer (t.loop_ms + gaze + 2) ((found_ticks t turn post gaze + gaze + 2) + (t.loop_ms + gaze + turn) + 2) (joint_after s image older).time (joint_after s image at).time
        (omega arith) late_found))

    ago_all : Before loop_ago.at all
    ago_all = before_then loop_ago.until until

    late_ago : IsLate s image (found_ticks t turn post gaze + gaze + 2) older loop_ago.at
    late_ago =
        looked_late (found_ticks t turn post gaze + gaze + 2) (t.loop_ms + gaze + turn) (host_after s image leader loop_ago.at).clock (host_after s image leader at).clock
        (joint_after s image older).time (joint_after s image loop_ago.at).time (joint_after s image at).time
        (clocks_of s t worlds one back laws image turn leader newer older joined joins.awake loop_ago.at at loop_ago.since loop_ago.until until).slow
        (let close = loop_ago.close in omega (arith, close)) late_found

    -- the first late look
    begun : HasLooked s image gaze leader older loop_ago.at
    begun =
        joins.looks loop_ago.at loop_ago.since ago_all
        (ticks_passed gaze (host_after s image leader older).clock (host_after s image leader loop_ago.at).clock (joint_after s image older).time (joint_after s image loop_ago.at).time
        (clocks_of s t worlds one back laws image turn leader newer older joined joins.awake older loop_ago.at Itself loop_ago.since ago_all).slow
        (late_fewer (gaze + 2) (found_ticks t turn post gaze + gaze + 2) (joint_after s image older).time (joint_after s image loop_ago.at).time (omega arith) late_ago))

    late_begun : IsLate s image (found_ticks t turn post gaze) older begun.at
    late_begun =
        looked_late (found_ticks t turn post gaze) gaze (host_after s image leader begun.at).clock (host_after s image leader loop_ago.at).clock (joint_after s image older).time
        (joint_after s image begun.at).time (joint_after s image loop_ago.at).time
        (clocks_of s t worlds one back laws image turn leader newer older joined joins.awake begun.at loop_ago.at begun.after (before_tail begun.back) ago_all).slow begun.soon late_ago

    begun_before : Before (begun.happening ∷ begun.at) at
    begun_before = before_then begun.back loop_ago.until

    -- the last look
    looked : HasLooked s image gaze leader older at
    looked =
        joins.looks at since until
        (ticks_passed gaze (host_after s image leader older).clock (host_after s image leader at).clock (joint_after s image older).time (joint_after s image at).time
        (clocks_of s t worlds one back laws image turn leader newer older joined joins.awake older at Itself since until).slow
        (late_fewer (gaze + 2) (((gaze + 2) + (4 * t.loop_ms + turn) + 2) + gaze + 2) (joint_after s image older).time (joint_after s image at).time (omega arith) late_led))

    last : LastLook s image leader looked.at at
    last =
        last_from s image leader looked.at looked.at looked.happening looked.look at Itself looked.is looked.back
        (λ h after before. lives h (before_then (Later looked.happening looked.after) after) (before_then before until))

    last_since_older : Before older last.at
    last_since_older = before_then looked.after last.after

    last_all : Before (last.happening ∷ last.at) all
    last_all = before_then last.back until

    late_last : IsLate s image ((gaze + 2) + (4 * t.loop_ms + turn) + 2) older last.at
    late_last =
        still_late ((gaze + 2) + (4 * t.loop_ms + turn) + 2) (joint_after s image older).time (joint_after s image looked.at).time (joint_after s image last.at).time
        (time_grows s t worlds one back laws image turn leader newer older joined joins.awake looked.at last.at looked.after last.after (before_tail last_all))
        (looked_late ((gaze + 2) + (4 * t.loop_ms + turn) + 2) gaze (host_after s image leader looked.at).clock (host_after s image leader at).clock (joint_after s image older).time
        (joint_after s image looked.at).time (joint_after s image at).time
        (clocks_of s t worlds one back laws image turn leader newer older joined joins.awake looked.at at looked.after (before_tail looked.back) until).slow looked.soon late_led)

    -- a loop after the first one
    loop_later : begun.look.tick + last.look.maker.maker.loop_ms ≤ last.look.tick
    loop_later =
        let first_tick = tick_of_look s t worlds one back laws image turn leader newer older joined joins.awake begun.happening begun.at begun.look begun.after (before_then begun_before until) begun.is in
        let last_tick = tick_of_look s t worlds one back laws image turn leader newer older joined joins.awake last.happening last.at last.look last_since_older last_all last.is in
        let loop = loop_of_look s t worlds one back laws image turn leader newer older joined joins.awake last.happening last.at last.look last_since_older last_all last.is in
        let first_grows = clock_grows s t worlds one back laws image turn leader newer older joined joins.awake begun.at loop_ago.at begun.after (before_tail begun.back) ago_all in
        let last_grows = clock_grows s t worlds one back laws image turn leader newer older joined joins.awake looked.at last.at looked.after last.after (before_tail last_all) in
        let early = loop_ago.early in
        let soon = looked.soon in
        omega (arith, first_tick, last_tick, loop, first_grows, last_grows, early, soon)

    late_finds : IsLate s image (found_ticks t turn post gaze) older last.at
    late_finds =
        still_late (found_ticks t turn post gaze) (joint_after s image older).time (joint_after s image looked.at).time (joint_after s image last.at).time
        (time_grows s t worlds one back laws image turn leader newer older joined joins.awake looked.at last.at looked.after last.after (before_tail last_all))
        (looked_late (found_ticks t turn post gaze) gaze (host_after s image leader looked.at).clock (host_after s image leader at).clock (joint_after s image older).time
        (joint_after s image looked.at).time (joint_after s image at).time
        (clocks_of s t worlds one back laws image turn leader newer older joined joins.awake looked.at at looked.after (before_tail looked.back) until).slow looked.soon
        (late_fewer (found_ticks t turn post gaze + gaze + 2) ((found_ticks t turn post gaze + gaze + 2) + (t.loop_ms + gaze + turn) + 2) (joint_after s image older).time (joint_after s image at).time
        (more_ticks (found_ticks t turn post gaze + gaze + 2) (t.loop_ms + gaze + turn)) late_found))
      where
        more_ticks : (ticks more : ℕ) → ticks ≤ ticks + more + 2
        more_ticks ticks more = omega arith

    led : LedLong s t image leader leader last.at last.look
    led =
        led_long s t worlds one back laws image turn gaze leader leader newer older joined joins.awake joins.looks finds_it last.at last.happening last.look last_since_older last_all last.is late_last

    found_it : FindsIt leader last.look.tick last.look.maker
    found_it = finds_it last.at last.happening last.look last_since_older last_all last.is

    settled : IsSettledAt s image leader set begun.look.tick last.look at
    settled =
        record {
          last = last.last;
          found = found_back begun.at begun.happening begun.look begun.after begun.is late_begun at begun_before until;
          late = loop_later;
          leads = leads_own last.at last.happening last.look last_since_older last_all last.is late_finds;
          begins = ap (may_begin last.look.tick (looked_by_name last.look.tick last.look.maker)) (sym (company_set last.at last.happening last.look last_since_older last_all last.is late_finds))
              ∙ begins last.look.tick leader last.look.maker found_it.knows found_it.leads led.limit led.led led.long;
          agreed = (settles last.at last.happening last.look last_since_older last_all last.is late_finds).agreed;
        }

    -- from then on it keeps the view that this look left
    module _ (present : View) (left : (after_look last.look.tick last.look.maker).maker.view ≡ Some present) (is : present.members ≡ set) where
      first_left : WasLeft s image leader present at
      first_left =
          record {
            look = last.look;
            last = last.last;
            left = left;
            free = open_after last.look.tick last.look.maker present (settles last.at last.happening last.look last_since_older last_all last.is late_finds).may left;
          }

      late_on : (h : List Happening) → Before at h → Before h all → IsLate s image (found_ticks t turn post gaze) older h
      late_on h order before =
          still_late (found_ticks t turn post gaze) (joint_after s image older).time (joint_after s image last.at).time (joint_after s image h).time
          (time_grows s t worlds one back laws image turn leader newer older joined joins.awake last.at h last_since_older (before_then (before_tail last.back) order) before) late_finds

      keeps_at : (h : List Happening) (newest : Happening) (look : LookOf) → Before at h → Before (newest ∷ h) all → look_of_rank s image leader newest h ≡ Some look
          → WasLeft s image leader present h → KeepsView leader present look
      keeps_at h newest look order before found was =
          record {
            may = may_settle.may;
            keeps = inl (record {
              leads = leads_own h newest look after before found late_h;
              finds = company_set h newest look after before found late_h ∙ sym is;
              named = ap (λ company. is_named_anew look.tick (looked_by_name look.tick look.maker) (view_of (looked_by_name look.tick look.maker) company))
                  (company_set h newest look after before found late_h) ∙ may_settle.named here;
            });
          }
        where
          after : Before older h
          after = before_then since order

          late_h : IsLate s image (found_ticks t turn post gaze) older h
          late_h = late_on h order (before_tail before)

          may_settle : MaySettle set look
          may_settle = settles h newest look after before found late_h

          parts : (look_of s image newest h ≡ Some look) × ((look.rank == leader) ≡ true)
          parts = filtered (λ (l : LookOf). l.rank == leader) (look_of s image newest h) look found

          had : look.maker.maker.view ≡ Some present
          had = (looks_follow s image newest h was.look look (ap (λ r. last_look s image r h) (eqb-true look.rank leader parts.1) ∙ was.last) parts.0).view ∙ was.left

          here : is_present look.maker.maker set ≡ true
          here =
              ap (λ (o : Option View). option_map_or (λ view. view.members.0 == set.0) o false) had
              ∙ ap (λ (members : Mask). members.0 == set.0) is ∙ eq-eqb set.0 set.0 refl

      left_on : (h : List Happening) → Before at h → Before h all → WasLeft s image leader present h
      left_on h Itself before = first_left
      left_on (newest ∷ h) (Later same order) before =
          next_left s image leader leader present newest h (lives (newest ∷ h) (Later newest (before_then since order)) before)
          (λ look found. keeps_at h newest look order before found (left_on h order (before_tail before))) (left_on h order (before_tail before))

      keeps : KeepsOneView s image leader leader present at all
      keeps = record { first = first_left; looks = λ h newest look order before found. keeps_at h newest look order before found (left_on h order (before_tail before)) }

    pub has_settled : HasSettled s image set leader at all
    has_settled = by_view (after_look last.look.tick last.look.maker).maker.view refl (companies_settle s image at leader set begun.look.tick last.look settled)
      where
        by_view : (o : Option View) → (after_look last.look.tick last.look.maker).maker.view ≡ o → option_map (λ view. view.members) o ≡ Some set → HasSettled s image set leader at all
        by_view None none same = absurd (none-some set same)
        by_view (Some view) left same =
            let is : view.members ≡ set = same_Some view.members set same in record { present = view; is = is; keeps = keeps view left is }

pub leaders_settle : (s : Settings) (t : Timing) → EveryJointHasAWorld s t → EachIsOneEvent s t → HeadersReadBack → ClockLaws → LeadersSettle s t
leaders_settle s t worlds one back laws image turn post gaze set leader newer older at joined agree joins since until late =
    has_settled s t worlds one back laws image turn post gaze set leader newer older joined agree joins at since until late
