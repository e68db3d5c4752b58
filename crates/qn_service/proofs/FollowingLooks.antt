-- The others take the view of a leader that keeps it.
use Rattle.std.proofs.Common.{◌≡◌, ◌⊎◌, inl, inr, ℕ, ◌+◌, ◌*◌, ◌<◌, ◌≤◌, Bool, true, false, ◌==◌, List, ◌∷◌, ◌++◌, Some, length, refl, sym, ◌∙◌, ap, subst, arith}
use Rattle.std.proofs.Math.Nat.{le-max_left, le-max_right}
use Rattle.std.proofs.lemmas.Bool.{and_from, cases_eq, eqb-true, lt-ltb, or_right}
use Rattle.qn_base.specs.declared.ids.View.{View}
use Rattle.qn_base.specs.Members.{is_member}
use Rattle.qn_model.specs.declared.configuration.Settings.{Settings}
use Rattle.qn_model.specs.declared.nodelist.NodeEntry.{NodeEntry}
use Rattle.qn_model.specs.declared.times.Timing.{Timing}
use Rattle.qn_model.specs.Moments.{Before, Itself, Later}
use Rattle.qn_model.specs.Phases.{is_live, phase}
use Rattle.qn_member.specs.Maker.{has_configured, is_configured, of_rank}
use Rattle.qn_member.specs.Naming.{NamingMaker, is_own, knows_bit}
use Rattle.qn_member.specs.NamingViews.{after_look, is_newer_of, is_proven, looked_by_name, view_announced}
use Rattle.qn_live.specs.Choosing.{told}
use Rattle.qn_safety.specs.Earlier.{before_tail, before_then}
use Rattle.qn_joined.specs.Joints.{Happening, IsJoined, joint_after}
use Rattle.qn_joined.specs.Moves.{EachIsOneEvent}
use Rattle.qn_joined.specs.WorldOf.{EveryJointHasAWorld}
use Rattle.qn_service.specs.Announcements.{IsAnnouncing, announce_ticks}
use Rattle.qn_service.specs.Following.{FollowersTakeIt, FollowsLeader, KeepsLeading, LooksComeToAgree, follow_ticks}
use Rattle.qn_service.specs.Company.{IsLedByName}
use Rattle.qn_service.specs.Hellos.{HasLooked}
use Rattle.qn_service.specs.KeptViews.{AgreeOnView, FollowsView, IsUpAt, KeepsOneView, LeadsMembers, WasLeft}
use Rattle.qn_service.specs.Leading.{leader_then}
use Rattle.qn_service.specs.Looks.{LookOf, look_of}
use Rattle.qn_service.specs.NextLooks.{look_of_rank}
use Rattle.qn_service.specs.Serving.{clock_at}
use Rattle.qn_service.specs.Unheard.{log_after}
use Rattle.qn_service.proofs.AnnouncedViews.{WasHeard, view_known, was_heard}
use Rattle.qn_service.proofs.ByTheImage.{HeadersReadBack}
use Rattle.qn_service.proofs.Followers.{takes_view}
use Rattle.qn_service.proofs.JointClocks.{ClockLaws}
use Rattle.qn_service.proofs.Keeping.{ToldAt, kept_after, kept_on, told_at}
use Rattle.qn_service.proofs.LastLooks.{LastLook, last_from}
use Rattle.qn_service.proofs.LeaderSays.{look_announces, look_left}
use Rattle.qn_service.proofs.Led.{FindsIt, HasCome, IsLedSince, begins, come_keeping, comes_now, led_keeping, look_come, look_led, proven, told_come, told_led}
use Rattle.qn_service.proofs.LedLooks.{LedLong, led_late, led_long}
use Rattle.qn_service.proofs.LogViews.{looks_know_names}
use Rattle.qn_service.proofs.Made.{filtered}
use Rattle.qn_service.proofs.OneView.{left_at, open_after}
use Rattle.qn_service.proofs.RankSteps.{host_after}
use Rattle.qn_service.proofs.Sound.{told_beat}
use Rattle.qn_service.proofs.NearLooks.{still_late}
use Rattle.qn_service.proofs.SeenLooks.{looked_late}
use Rattle.qn_service.proofs.Waking.{IsLate, clocks_of, late_fewer, live_of, nodes_of_look, own_of_look, ticks_passed, time_grows}

-- ## Numbers

module _ (s : Settings) (t : Timing) (worlds : EveryJointHasAWorld s t) (one : EachIsOneEvent s t) (back : HeadersReadBack) (laws : ClockLaws)
    (image : ℕ → List ℕ) (turn post gaze leader : ℕ) (present : View) (newer older : List Happening) (joined : IsJoined s t image (newer ++ older))
    (k : KeepsLeading s image turn post gaze leader present older (newer ++ older)) where
  abbrev all : List Happening
  all = newer ++ older

  -- a look is one of a node that knows names
  knows_names : (rank : ℕ) → rank < length s.nodes → (newest : Happening) (at : List Happening) (look : LookOf) → look_of_rank s image rank newest at ≡ Some look
      → is_own look.maker knows_bit ≡ true
  knows_names rank under newest at look found =
      let parts = filtered (λ (l : LookOf). l.rank == rank) (look_of s image newest at) look found in
      looks_know_names s image newest at look joined.fits.few (subst (λ r. r < length s.nodes) (sym (eqb-true look.rank rank parts.1)) under) parts.0

  -- ## The leader

  leader_lives : (at : List Happening) → Before older at → Before at all → is_live (phase s (log_after s image at leader)) ≡ true
  leader_lives = live_of s t worlds one back laws image turn leader newer older joined k.awake

  leader_left : (at : List Happening) → Before older at → Before at all → WasLeft s image leader present at
  leader_left = left_at s image leader leader present older all k.keeps leader_lives

  leads_itself : (at : List Happening) (happening : Happening) (look : LookOf) → Before older at → Before (happening ∷ at) all → look_of_rank s image leader happening at ≡ Some look
      → leader_then look.tick look.maker ≡ Some look.maker.maker.me
  leads_itself at happening look since until found = by_way (k.keeps.looks at happening look since until found).keeps
    where
      own : look.maker.maker.me ≡ leader
      own = own_of_look s t worlds one back laws image turn leader newer older joined k.awake (k.configured leader k.member) happening at look since until found

      by_way : LeadsMembers present look ⊎ FollowsView leader present look → leader_then look.tick look.maker ≡ Some look.maker.maker.me
      by_way (inl leads) = leads.leads
      by_way (inr follows) = follows.leads ∙ ap Some (sym own)

  announces : (at : List Happening) (happening : Happening) (look : LookOf) → Before older at → Before (happening ∷ at) all → look_of_rank s image leader happening at ≡ Some look
      → view_announced (after_look look.tick look.maker) ≡ Some present
  announces at happening look since until found =
      look_announces look.tick look.maker (knows_names leader (k.configured leader k.member) happening at look found) present (k.names at happening look since until found)
      (leads_itself at happening look since until found)
      (ap (is_member present.members) own ∙ k.member)
      (look_left s image leader present happening at look (leader_lives (happening ∷ at) (Later happening since) until) found (leader_left (happening ∷ at) (Later happening since) until))
    where
      own : look.maker.maker.me ≡ leader
      own = own_of_look s t worlds one back laws image turn leader newer older joined k.awake (k.configured leader k.member) happening at look since until found

  -- ## Another one

  module _ (rank : ℕ) (member : is_member present.members rank ≡ true) (other : rank ≡ leader → ⊥) where
    abbrev f : FollowsLeader s image turn post gaze rank leader older all
    f = k.follows rank member other

    under : rank < length s.nodes
    under = k.configured rank member

    announcing : IsAnnouncing s t image turn post gaze present leader rank older all
    announcing =
        record {
          configured = (k.configured leader k.member, under);
          apart = other;
          members = k.members;
          sender = k.awake;
          hearer = f.awake;
          come = f.come;
          looks = k.looks;
          own = f.own;
          announces = announces;
        }

    finds_it : (at : List Happening) (happening : Happening) (look : LookOf) → Before older at → Before (happening ∷ at) all → look_of_rank s image rank happening at ≡ Some look
        → FindsIt leader look.tick look.maker
    finds_it at happening look since until found =
        record { knows = knows_names rank under happening at look found; leads = (f.finds at happening look since until found).leads }

    module _ (at : List Happening) (happening : Happening) (look : LookOf) (since : Before older at) (until : Before (happening ∷ at) all)
        (found : look_of_rank s image rank happening at ≡ Some look) (late : IsLate s image (follow_ticks t turn post gaze) older at) where
      until_at : Before at all
      until_at = before_tail until

      late_announced : IsLate s image (announce_ticks t turn post gaze) older at
      late_announced =
          late_fewer (announce_ticks t turn post gaze) (follow_ticks t turn post gaze) (joint_after s image older).time (joint_after s image at).time
          (le-max_left (announce_ticks t turn post gaze) (4 * t.loop_ms + turn + gaze + 4)) late

      late_loops : IsLate s image ((gaze + 2) + (4 * t.loop_ms + turn) + 2) older at
      late_loops =
          late_fewer ((gaze + 2) + (4 * t.loop_ms + turn) + 2) (follow_ticks t turn post gaze) (joint_after s image older).time (joint_after s image at).time
          (let order = le-max_right (announce_ticks t turn post gaze) (4 * t.loop_ms + turn + gaze + 4) in loops_order gaze turn t.loop_ms (follow_ticks t turn post gaze) order) late
        where
          loops_order : (gaze turn loop ticks : ℕ) → 4 * loop + turn + gaze + 4 ≤ ticks → (gaze + 2) + (4 * loop + turn) + 2 ≤ ticks
          loops_order gaze turn loop ticks order = omega (arith, order)

      -- for so long the leader led it
      led : LedLong s t image rank leader at look
      led =
          led_long s t worlds one back laws image turn gaze rank leader newer older joined f.awake f.looks finds_it at happening look since until found late_loops

      -- and it heard an announcement since
      came : WasHeard s t worlds one back laws image turn post gaze present leader rank newer older joined announcing at
      came = was_heard s t worlds one back laws image turn post gaze present leader rank newer older joined announcing at happening look since until found late_announced

      came_all : Before (came.happening ∷ came.at) all
      came_all = before_then came.before until_at

      came_has : IsLedSince leader (clock_at s image came.at rank) came.look.maker × HasCome leader came.look.maker
      came_has = (
        subst (IsLedSince leader (clock_at s image came.at rank)) (sym it.is) (told_led leader (clock_at s image came.at rank) came.look.tick it.own it.packet it.before it.holds),
        subst (HasCome leader) (sym it.is)
            (subst (λ p. HasCome leader (told came.look.tick it.own p it.before)) (sym came.hears ∙ it.heard)
            (comes_now leader came.look.tick it.own present it.before configured (ap (λ (list : List NodeEntry). has_configured list present.members) nodes ∙ k.members))),
      )
        where
          it : ToldAt s t worlds one back laws image turn rank newer older joined f.awake (led_keeping leader (clock_at s image came.at rank)) came.at came.look
          it =
              told_at s t worlds one back laws image turn rank newer older joined f.awake (led_keeping leader (clock_at s image came.at rank)) came.happening came.at came.look came.after came_all
              came.is
              (led_late s t worlds one back laws image turn gaze rank leader newer older joined f.awake f.looks finds_it came.at came.after (before_tail came_all)
              (late_fewer (gaze + 2) (gaze + post + 4) (joint_after s image older).time (joint_after s image came.at).time (omega arith) came.late))

          nodes : it.before.maker.nodes ≡ s.nodes
          nodes =
              sym (told_beat came.look.tick it.own it.packet it.before).nodes ∙ ap (λ (m : NamingMaker). m.maker.nodes) (sym it.is)
              ∙ nodes_of_look s t worlds one back laws image turn rank newer older joined f.awake came.happening came.at came.look came.after came_all came.is

          configured : is_configured it.before.maker leader ≡ true
          configured = lt-ltb leader (length it.before.maker.nodes) (subst (λ (list : List NodeEntry). leader < length list) (sym nodes) (k.configured leader k.member))

      come : HasCome leader look.maker
      come = subst (HasCome leader) (sym it.is) (told_come leader look.tick it.own it.packet it.before it.holds.1)
        where
          finds : FindsIt leader came.look.tick came.look.maker
          finds = finds_it came.at came.happening came.look came.after came_all came.is

          it : ToldAt s t worlds one back laws image turn rank newer older joined f.awake (come_keeping leader (clock_at s image came.at rank)) at look
          it =
              told_at s t worlds one back laws image turn rank newer older joined f.awake (come_keeping leader (clock_at s image came.at rank)) happening at look since until found
              (kept_on s t worlds one back laws image turn rank newer older joined f.awake (come_keeping leader (clock_at s image came.at rank)) (came.happening ∷ came.at) at
              (Later came.happening came.after) came.before until_at
              (record { hears = λ h order before chosen is. tt; looks = λ h newest l order before is. finds_it h newest l (before_then (Later came.happening came.after) order) before is })
              (kept_after s t worlds one back laws image turn rank newer older joined f.awake (come_keeping leader (clock_at s image came.at rank)) came.happening came.at came.look came.after came_all came.is (
                look_led came.look.tick leader came.look.maker finds.knows finds.leads (clock_at s image came.at rank) came_has.0,
                look_come came.look.tick leader came.look.maker finds.knows finds.leads (clock_at s image came.at rank) came_has.0 came_has.1,
              )))

      -- so its look takes the view
      own_is : look.maker.maker.me ≡ rank
      own_is = own_of_look s t worlds one back laws image turn rank newer older joined f.awake under happening at look since until found

      apart : (leader == look.maker.maker.me) ≡ false
      apart = by_same (leader == look.maker.maker.me) refl
        where
          by_same : (b : Bool) → (leader == look.maker.maker.me) ≡ b → b ≡ false
          by_same true same = absurd (other (sym (eqb-true leader look.maker.maker.me same ∙ own_is)))
          by_same false none = refl

      finds : FindsIt leader look.tick look.maker
      finds = finds_it at happening look since until found

      pub announced : of_rank look.maker.maker.announced leader ≡ Some present
      announced = view_known s t worlds one back laws image turn post gaze present leader rank newer older joined announcing at happening look since until found late_announced

      is_led : IsLedByName look.tick look.maker leader present
      is_led =
          record {
            knows = finds.knows;
            leads = finds.leads;
            other = apart;
            configured = lt-ltb leader (length look.maker.maker.nodes)
                (subst (λ (list : List NodeEntry). leader < length list)
                (sym (nodes_of_look s t worlds one back laws image turn rank newer older joined f.awake happening at look since until found)) (k.configured leader k.member));
            announced = announced;
            has_both = and_from (is_member present.members look.maker.maker.me) (is_member present.members leader) (ap (is_member present.members) own_is ∙ member) k.member;
            newer = or_right (is_newer_of (looked_by_name look.tick look.maker) leader present) (is_proven look.tick (looked_by_name look.tick look.maker))
                (proven look.tick leader look.maker finds.knows finds.leads led.limit led.led come (let long = led.long in omega (arith, long)));
            begins = begins look.tick leader look.maker finds.knows finds.leads led.limit led.led led.long;
          }

      pub takes_it : (after_look look.tick look.maker).maker.view ≡ Some present
      takes_it = takes_view look.tick look.maker leader present is_led

      pub follows_it : FollowsView leader present look
      follows_it = record { leads = finds.leads; other = apart; announced = announced }

pub followers_take_it : (s : Settings) (t : Timing) → EveryJointHasAWorld s t → EachIsOneEvent s t → HeadersReadBack → ClockLaws → FollowersTakeIt s t
followers_take_it s t worlds one back laws image turn post gaze leader present rank newer older at happening look joined k member other since until found late =
    takes_it s t worlds one back laws image turn post gaze leader present newer older joined k rank member other at happening look since until found late

-- ## The looks agree

module _ (s : Settings) (t : Timing) (worlds : EveryJointHasAWorld s t) (one : EachIsOneEvent s t) (back : HeadersReadBack) (laws : ClockLaws)
    (image : ℕ → List ℕ) (turn post gaze leader : ℕ) (present : View) (newer older : List Happening) (joined : IsJoined s t image (newer ++ older))
    (k : KeepsLeading s image turn post gaze leader present older (newer ++ older)) (at : List Happening) (since : Before older at) (until : Before at (newer ++ older))
    (late : IsLate s image (follow_ticks t turn post gaze + gaze + 2) older at) where
  leader_keeps : KeepsOneView s image leader leader present at (newer ++ older)
  leader_keeps =
      record {
        first = leader_left s t worlds one back laws image turn post gaze leader present newer older joined k at since until;
        looks = λ h happening look after before found. k.keeps.looks h happening look (before_then since after) before found;
      }

  module _ (rank : ℕ) (member : is_member present.members rank ≡ true) (other : rank ≡ leader → ⊥) where
    abbrev follower : FollowsLeader s image turn post gaze rank leader older (newer ++ older)
    follower = k.follows rank member other

    lives : (h : List Happening) → Before older h → Before h (newer ++ older) → is_live (phase s (log_after s image h rank)) ≡ true
    lives = live_of s t worlds one back laws image turn rank newer older joined follower.awake

    looked : HasLooked s image gaze rank older at
    looked =
        follower.looks at since until
        (ticks_passed gaze (host_after s image rank older).clock (host_after s image rank at).clock (joint_after s image older).time (joint_after s image at).time
        (clocks_of s t worlds one back laws image turn rank newer older joined follower.awake older at Itself since until).slow
        (late_fewer (gaze + 2) (follow_ticks t turn post gaze + gaze + 2) (joint_after s image older).time (joint_after s image at).time (more_gaze (follow_ticks t turn post gaze) gaze) late))
      where
        more_gaze : (ticks gaze : ℕ) → gaze + 2 ≤ ticks + gaze + 2
        more_gaze ticks gaze = omega arith

    late_looked : IsLate s image (follow_ticks t turn post gaze) older looked.at
    late_looked =
        looked_late (follow_ticks t turn post gaze) gaze (host_after s image rank looked.at).clock (host_after s image rank at).clock (joint_after s image older).time
        (joint_after s image looked.at).time (joint_after s image at).time
        (clocks_of s t worlds one back laws image turn rank newer older joined follower.awake looked.at at looked.after (before_tail looked.back) until).slow looked.soon late

    last : LastLook s image rank looked.at at
    last =
        last_from s image rank looked.at looked.at looked.happening looked.look at Itself looked.is looked.back
        (λ h after before. lives h (before_then (Later looked.happening looked.after) after) (before_then before until))

    late_from : (h : List Happening) → Before looked.at h → Before h (newer ++ older) → IsLate s image (follow_ticks t turn post gaze) older h
    late_from h order before =
        still_late (follow_ticks t turn post gaze) (joint_after s image older).time (joint_after s image looked.at).time (joint_after s image h).time
        (time_grows s t worlds one back laws image turn rank newer older joined follower.awake looked.at h looked.after order before) late_looked

    last_leaves : (after_look last.look.tick last.look.maker).maker.view ≡ Some present
    last_leaves =
        takes_it s t worlds one back laws image turn post gaze leader present newer older joined k rank member other last.at last.happening last.look
        (before_then looked.after last.after) (before_then last.back until) last.is (late_from last.at last.after (before_tail (before_then last.back until)))

    follower_keeps : KeepsOneView s image rank leader present at (newer ++ older)
    follower_keeps =
        record {
          first = record {
            look = last.look;
            last = last.last;
            left = last_leaves;
            free = open_after last.look.tick last.look.maker present
                (follower.finds last.at last.happening last.look (before_then looked.after last.after) (before_then last.back until) last.is).may last_leaves;
          };
          looks = λ h happening look after before found. record {
            may = (follower.finds h happening look (before_then since after) before found).may;
            keeps = inr (follows_it s t worlds one back laws image turn post gaze leader present newer older joined k rank member other h happening look (before_then since after) before found
                (late_from h (before_then (before_tail looked.back) after) (before_tail before)));
          };
        }

  member_keeps : (rank : ℕ) → is_member present.members rank ≡ true → KeepsOneView s image rank leader present at (newer ++ older)
  member_keeps rank member = by_rank (cases_eq rank leader)
    where
      by_rank : (rank ≡ leader) ⊎ (rank ≡ leader → ⊥) → KeepsOneView s image rank leader present at (newer ++ older)
      by_rank (inl same) = subst (λ r. KeepsOneView s image r leader present at (newer ++ older)) (sym same) leader_keeps
      by_rank (inr other) = follower_keeps rank member other

  member_up : (rank : ℕ) → is_member present.members rank ≡ true → (mid : List Happening) → Before at mid → Before mid (newer ++ older) → IsUpAt s image rank mid
  member_up rank member mid after before = by_rank (cases_eq rank leader)
    where
      by_rank : (rank ≡ leader) ⊎ (rank ≡ leader → ⊥) → IsUpAt s image rank mid
      by_rank (inl same) = subst (λ r. IsUpAt s image r mid) (sym same) (k.awake mid (before_then since after) before).is
      by_rank (inr other) = ((k.follows rank member other).awake mid (before_then since after) before).is

  pub agree_then : AgreeOnView s image leader present at (newer ++ older)
  agree_then = record { ups = member_up; keeps = member_keeps }

pub looks_come_to_agree : (s : Settings) (t : Timing) → EveryJointHasAWorld s t → EachIsOneEvent s t → HeadersReadBack → ClockLaws → LooksComeToAgree s t
looks_come_to_agree s t worlds one back laws image turn post gaze leader present newer older at joined k since until late =
    agree_then s t worlds one back laws image turn post gaze leader present newer older joined k at since until late
