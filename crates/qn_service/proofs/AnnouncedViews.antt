-- What a running node has of the view that another one announces: that is what the other one said last.
use Rattle.std.proofs.Common.{◌≡◌, inr, ℕ, ◌+◌, ◌*◌, ◌<◌, ◌≤◌, List, ◌∷◌, ◌++◌, Some, refl, sym, ◌∙◌, ap, subst, arith}
use Rattle.std.proofs.lemmas.Option.{same_Some}
use Rattle.qn_base.specs.declared.ids.View.{View}
use Rattle.qn_io.specs.Answered.{time_of}
use Rattle.qn_model.specs.declared.configuration.Settings.{Settings}
use Rattle.qn_model.specs.declared.packets.Packet.{Packet}
use Rattle.qn_model.specs.declared.packets.Packet.TheVariants as packet
use Rattle.qn_model.specs.declared.times.Timing.{Timing}
use Rattle.qn_model.specs.Moments.{Before, Itself, Later}
use Rattle.qn_model.specs.Wanted.{rank_of}
use Rattle.qn_member.specs.Maker.{of_rank}
use Rattle.qn_member.specs.Naming.{NamingMaker}
use Rattle.qn_safety.specs.Earlier.{before_tail, before_then}
use Rattle.qn_live.specs.Choosing.{told}
use Rattle.qn_live.specs.declared.place.Choice.{Choice}
use Rattle.qn_live.specs.Running.{RunState}
use Rattle.qn_joined.specs.Joints.{Happening, IsJoined, joint_after}
use Rattle.qn_joined.specs.Moves.{EachIsOneEvent}
use Rattle.qn_joined.specs.Stands.{Looking}
use Rattle.qn_joined.specs.WorldOf.{EveryJointHasAWorld}
use Rattle.qn_service.specs.Announcements.{AnnouncementsCome, IsAnnouncing, WasSaidLately, announce_ticks}
use Rattle.qn_service.specs.Hellos.{IsHeardBy, SaidHello, Says, beat_ticks, packet_chosen, packet_to_hear, packet_waiting}
use Rattle.qn_service.specs.Looks.{LookOf, look_at}
use Rattle.qn_service.specs.NextLooks.{look_of_rank}
use Rattle.qn_service.specs.Serving.{clock_at}
use Rattle.qn_service.proofs.Announcing.{SaidSince, announce_telling, said_since}
use Rattle.qn_service.proofs.ByTheImage.{HeadersReadBack}
use Rattle.qn_service.proofs.FreshHellos.{LookIs, look_is, sound_before}
use Rattle.qn_service.proofs.HeardViews.{HasView, NoOtherView, look_view, told_anew, told_view, view_keeping}
use Rattle.qn_service.proofs.JointClocks.{ClockLaws, ReturnOf}
use Rattle.qn_service.proofs.Keeping.{HasKept, KeepsOn, kept_after, kept_on, kept_places}
use Rattle.qn_service.proofs.RankSteps.{host_after}
use Rattle.qn_service.proofs.Sound.{always_sound}
use Rattle.qn_service.proofs.Telling.{IsSaying, says_late}
use Rattle.qn_service.proofs.TurnSteps.{KnownAt}
use Rattle.qn_service.proofs.NearLooks.{still_late}
use Rattle.qn_service.proofs.SeenLooks.{looked_late}
use Rattle.qn_service.proofs.Waking.{IsLate, LastSince, before_by_clock, clock_grows, clocks_of, hello_by, last_since, late_fewer, look_by_call, ticks_passed, time_grows}

-- ## Numbers

-- how late the joints are from which on the view is announced and heard
mid_ticks : (beat turn post gaze time_first time_new : ℕ) → 100 * (beat + turn + turn + turn + gaze + post + post + 10) + 99 * time_first ≤ 99 * time_new
    → 100 * ((beat + turn + turn + gaze + post + 8) + (post + turn) + 2) + 99 * time_first ≤ 99 * time_new
mid_ticks beat turn post gaze time_first time_new late = omega (arith, late)

hello_ticks_left : (beat turn post gaze time_first time_new : ℕ) → 100 * (beat + turn + turn + gaze + post + 8) + 99 * time_first ≤ 99 * time_new
    → 100 * ((beat + gaze + post + 6) + (turn + turn) + 2) + 99 * time_first ≤ 99 * time_new
hello_ticks_left beat turn post gaze time_first time_new late = omega (arith, late)

said_ticks_left : (beat post gaze time_first time_new : ℕ) → 100 * (beat + gaze + post + 6) + 99 * time_first ≤ 99 * time_new
    → 100 * ((gaze + post + 4) + beat + 2) + 99 * time_first ≤ 99 * time_new
said_ticks_left beat post gaze time_first time_new late = omega (arith, late)

own_ticks_left : (post gaze time_first time_new : ℕ) → 100 * (gaze + post + 4) + 99 * time_first ≤ 99 * time_new → 100 * ((gaze + 2) + post + 2) + 99 * time_first ≤ 99 * time_new
own_ticks_left post gaze time_first time_new late = omega (arith, late)

module _ (s : Settings) (t : Timing) (worlds : EveryJointHasAWorld s t) (one : EachIsOneEvent s t) (back : HeadersReadBack) (laws : ClockLaws)
    (image : ℕ → List ℕ) (turn post gaze : ℕ) (present : View) (from to : ℕ) (newer older : List Happening) (joined : IsJoined s t image (newer ++ older))
    (a : IsAnnouncing s t image turn post gaze present from to older (newer ++ older)) where
  abbrev all : List Happening
  all = newer ++ older

  abbrev beat : ℕ
  beat = beat_ticks t turn

  -- what it is to send late
  late_sends : (p : Packet) (happening : Happening) (at : List Happening) → Before older at → Before (happening ∷ at) all → Says s image from to p happening at
      → IsLate s image (gaze + 2) older at
      → IsSaying s from (announce_telling s present from to a.configured.1 a.apart) (record { to = rank_of to; packet = p }) (host_after s image from at).stand.spot
  late_sends p happening at since until says late =
      says_late s t worlds one back laws image turn gaze from newer older joined a.sender a.looks (announce_telling s present from to a.configured.1 a.apart) a.announces
      to p happening at since until says late

  -- each announcement that comes late is of the view
  late_comes : (at : List Happening) → Before older at → Before at all → IsLate s image (gaze + post + 4) older at → (chosen : Choice × RunState)
      → (host_after s image to at).stand.spot ≡ Looking chosen → NoOtherView from present (packet_chosen chosen.0)
  late_comes at since until late chosen is view comes =
      (late_sends (packet.Announce (rank_of from) view) own.happening own.at own.after (before_then own.back until) own.says
      (looked_late (gaze + 2) post (host_after s image to own.at).clock (host_after s image to at).clock (joint_after s image older).time (joint_after s image own.at).time
      (joint_after s image at).time (clocks_of s t worlds one back laws image turn to newer older joined a.hearer own.at at own.after (before_tail own.back) until).slow own.soon
      (own_ticks_left post gaze (joint_after s image older).time (joint_after s image at).time late))).sends.0.0 (rank_of from) view refl
    where
      own : WasSaidLately s image from to post (packet.Announce (rank_of from) view) older at
      own = a.own at view since until (ap packet_waiting is ∙ comes)

  keeps_late : (base : List Happening) → Before older base → IsLate s image (gaze + post + 4) older base
      → KeepsOn s t worlds one back laws image turn to newer older joined a.hearer (view_keeping from present) base
  keeps_late base after late =
      record {
        hears = λ at order until chosen is. late_comes at (before_then after order) until
            (still_late (gaze + post + 4) (joint_after s image older).time (joint_after s image base).time (joint_after s image at).time
            (time_grows s t worlds one back laws image turn to newer older joined a.hearer base at after order until) late) chosen is;
        looks = λ at newest look order until found. tt;
      }

  -- before a joint a look heard an announcement of the view
  pub record WasHeard (new : List Happening) : Type 0 where
    pub at : List Happening
    pub happening : Happening
    pub look : LookOf
    pub after : Before older at
    pub before : Before (happening ∷ at) new
    pub is : look_of_rank s image to happening at ≡ Some look
    pub hears : packet_to_hear s image to at ≡ Some (packet.Announce (rank_of from) present)
    pub late : IsLate s image (gaze + post + 4) older at

  module _ (at : List Happening) (happening : Happening) (look : LookOf) (since : Before older at) (until : Before (happening ∷ at) all)
      (found : look_of_rank s image to happening at ≡ Some look) (late : IsLate s image (announce_ticks t turn post gaze) older at) where
    until_at : Before at all
    until_at = before_tail until

    late_at : IsLate s image ((beat + turn + turn + gaze + post + 8) + (post + turn) + 2) older at
    late_at = mid_ticks (beat_ticks t turn) turn post gaze (joint_after s image older).time (joint_after s image at).time late

    mid : LastSince s t worlds one back laws image turn to newer older joined a.hearer post at
    mid =
        last_since s t worlds one back laws image turn to newer older joined a.hearer post at since until_at
        (ticks_passed post (host_after s image to older).clock (host_after s image to at).clock (joint_after s image older).time (joint_after s image at).time
        (clocks_of s t worlds one back laws image turn to newer older joined a.hearer older at Itself since until_at).slow
        (late_fewer (post + 2) ((beat_ticks t turn + turn + turn + gaze + post + 8) + (post + turn) + 2) (joint_after s image older).time (joint_after s image at).time (omega arith) late_at))

    mid_all : Before mid.at all
    mid_all = before_then mid.until until_at

    late_mid : IsLate s image (beat + turn + turn + gaze + post + 8) older mid.at
    late_mid =
        looked_late (beat_ticks t turn + turn + turn + gaze + post + 8) (post + turn) (host_after s image to mid.at).clock (host_after s image to at).clock (joint_after s image older).time
        (joint_after s image mid.at).time (joint_after s image at).time
        (clocks_of s t worlds one back laws image turn to newer older joined a.hearer mid.at at mid.since mid.until until_at).slow
        (let close = mid.close in omega (arith, close)) late_at

    first : LastSince s t worlds one back laws image turn from newer older joined a.sender turn mid.at
    first =
        last_since s t worlds one back laws image turn from newer older joined a.sender turn mid.at mid.since mid_all
        (ticks_passed turn (host_after s image from older).clock (host_after s image from mid.at).clock (joint_after s image older).time (joint_after s image mid.at).time
        (clocks_of s t worlds one back laws image turn from newer older joined a.sender older mid.at Itself mid.since mid_all).slow
        (late_fewer (turn + 2) (beat_ticks t turn + turn + turn + gaze + post + 8) (joint_after s image older).time (joint_after s image mid.at).time (omega arith) late_mid))

    first_all : Before first.at all
    first_all = before_then first.until mid_all

    late_begun : IsLate s image (beat + gaze + post + 6) older first.at
    late_begun =
        looked_late (beat_ticks t turn + gaze + post + 6) (turn + turn) (host_after s image from first.at).clock (host_after s image from mid.at).clock (joint_after s image older).time
        (joint_after s image first.at).time (joint_after s image mid.at).time
        (clocks_of s t worlds one back laws image turn from newer older joined a.sender first.at mid.at first.since first.until mid_all).slow
        (let close = first.close in omega (arith, close))
        (hello_ticks_left (beat_ticks t turn) turn post gaze (joint_after s image older).time (joint_after s image mid.at).time late_mid)

    hello : SaidHello s image from to (beat_ticks t turn) older first.at
    hello =
        hello_by s t worlds one back laws image turn from newer older joined a.sender to a.configured.1 a.apart first.at first.since first_all
        (ticks_passed (beat_ticks t turn) (host_after s image from older).clock (host_after s image from first.at).clock (joint_after s image older).time (joint_after s image first.at).time
        (clocks_of s t worlds one back laws image turn from newer older joined a.sender older first.at Itself first.since first_all).slow
        (late_fewer (beat_ticks t turn + 2) (beat_ticks t turn + gaze + post + 6) (joint_after s image older).time (joint_after s image first.at).time (omega arith) late_begun))

    hello_all : Before (hello.happening ∷ hello.at) all
    hello_all = before_then hello.back first_all

    late_hello : IsLate s image (gaze + post + 4) older hello.at
    late_hello =
        looked_late (gaze + post + 4) (beat_ticks t turn) (host_after s image from hello.at).clock (host_after s image from first.at).clock (joint_after s image older).time
        (joint_after s image hello.at).time (joint_after s image first.at).time
        (clocks_of s t worlds one back laws image turn from newer older joined a.sender hello.at first.at hello.after (before_tail hello.back) first_all).slow
        hello.soon
        (said_ticks_left (beat_ticks t turn) post gaze (joint_after s image older).time (joint_after s image first.at).time late_begun)

    saying : IsSaying s from (announce_telling s present from to a.configured.1 a.apart) (record { to = rank_of to; packet = packet.Heard (rank_of from) hello.said hello.standing })
        (host_after s image from hello.at).stand.spot
    saying =
        late_sends (packet.Heard (rank_of from) hello.said hello.standing) hello.happening hello.at hello.after hello_all hello.says
        (late_fewer (gaze + 2) (gaze + post + 4) (joint_after s image older).time (joint_after s image hello.at).time (omega arith) late_hello)

    said : SaidSince s image from to (packet.Announce (rank_of from) present) hello.at mid.at
    said =
        said_since s t worlds one back laws image turn from to newer older joined a.sender (packet.Announce (rank_of from) present) hello.at mid.at
        (record { to = rank_of to; packet = packet.Heard (rank_of from) hello.said hello.standing }) saying.rest saying.st hello.after
        (before_then (before_tail hello.back) first.until) mid_all saying.is
        (inr (saying.sends.1.0 (rank_of from) hello.said hello.standing refl))
        (let grows = clock_grows s t worlds one back laws image turn from newer older joined a.sender hello.at first.at hello.after (before_tail hello.back) first_all in
        let early = first.early in
        omega (arith, grows, early))

    said_after : Before older said.at
    said_after = before_then hello.after said.after

    said_early : clock_at s image said.at to + post < clock_at s image at to
    said_early =
        let grows = clock_grows s t worlds one back laws image turn to newer older joined a.hearer said.at mid.at said_after (before_tail said.back) mid_all in
        let early = mid.early in
        omega (arith, grows, early)

    heard : IsHeardBy s image to (packet.Announce (rank_of from) present) (clock_at s image said.at to + post) (said.happening ∷ said.at) all
    heard =
        a.come said.at said.happening (packet.Announce (rank_of from) present) said_after (before_then said.back mid_all) said.says
        (let grows = clock_grows s t worlds one back laws image turn to newer older joined a.hearer at all since until_at Itself in
        let early = said_early in
        omega (arith, grows, early))

    heard_since : Before older heard.at
    heard_since = before_then (Later said.happening said_after) heard.after

    heard_before : Before (heard.happening ∷ heard.at) at
    heard_before =
        before_by_clock s t worlds one back laws image turn to newer older joined a.hearer heard.happening heard.at at heard_since heard.back since until_at
        (let soon = heard.soon in let early = said_early in omega (arith, soon, early))

    -- the look that heard it has it
    heard_has : HasView from present heard.look.maker.maker
    heard_has =
        subst (λ (m : NamingMaker). HasView from present m.maker) (sym is.told)
        (subst (λ p. HasView from present (told (time_of made.0.made) is.own p is.before).maker) (sym here)
        (told_anew from present s a.configured.0 joined.fits.few a.members is.chosen.1.log (time_of made.0.made) is.own is.before
        (sound_before s (host_after s image to heard.at).stand.spot made.0.made heard.look is (always_sound s image to heard.at))))
      where
        made : (r : ReturnOf s t image to heard.happening heard.at) × (look_at to (host_after s image to heard.at).stand.spot r.made ≡ Some heard.look)
        made = look_by_call s t worlds one back laws image turn to newer older joined a.hearer heard.happening heard.at heard.look heard_since heard.back heard.is

        is : LookIs (host_after s image to heard.at).stand.spot made.0.made heard.look
        is = look_is to (host_after s image to heard.at).stand.spot made.0.made heard.look made.1

        here : packet_chosen is.chosen.0 ≡ Some (packet.Announce (rank_of from) present)
        here = sym (ap packet_waiting is.is) ∙ heard.hears

    late_heard : IsLate s image (gaze + post + 4) older (heard.happening ∷ heard.at)
    late_heard =
        still_late (gaze + post + 4) (joint_after s image older).time (joint_after s image hello.at).time (joint_after s image (heard.happening ∷ heard.at)).time
        (time_grows s t worlds one back laws image turn to newer older joined a.hearer hello.at (heard.happening ∷ heard.at) hello.after
        (Later heard.happening (before_then said.after (before_tail heard.after))) heard.back) late_hello

    pub was_heard : WasHeard at
    was_heard =
        record {
          at = heard.at;
          happening = heard.happening;
          look = heard.look;
          after = heard_since;
          before = heard_before;
          is = heard.is;
          hears = heard.hears;
          late = still_late (gaze + post + 4) (joint_after s image older).time (joint_after s image hello.at).time (joint_after s image heard.at).time
              (time_grows s t worlds one back laws image turn to newer older joined a.hearer hello.at heard.at hello.after
              (before_then said.after (before_tail heard.after)) (before_tail heard.back)) late_hello;
        }

    known : KnownAt (kept_places (view_keeping from present)) (host_after s image to at).stand.spot
    known =
        kept_on s t worlds one back laws image turn to newer older joined a.hearer (view_keeping from present) (heard.happening ∷ heard.at) at (Later heard.happening heard_since) heard_before until_at
        (keeps_late (heard.happening ∷ heard.at) (Later heard.happening heard_since) late_heard)
        (kept_after s t worlds one back laws image turn to newer older joined a.hearer (view_keeping from present) heard.happening heard.at heard.look heard_since heard.back heard.is
        (look_view from present heard.look.tick heard.look.maker heard_has))

    pub view_known : of_rank look.maker.maker.announced from ≡ Some present
    view_known =
        subst (λ (m : NamingMaker). HasView from present m.maker) (sym is.told)
        (told_view from present (time_of made.0.made) is.own (packet_chosen is.chosen.0) is.before
        (late_comes at since until_at
        (still_late (gaze + post + 4) (joint_after s image older).time (joint_after s image (heard.happening ∷ heard.at)).time (joint_after s image at).time
        (time_grows s t worlds one back laws image turn to newer older joined a.hearer (heard.happening ∷ heard.at) at (Later heard.happening heard_since) heard_before until_at) late_heard)
        is.chosen is.is)
        before_has)
      where
        made : (r : ReturnOf s t image to happening at) × (look_at to (host_after s image to at).stand.spot r.made ≡ Some look)
        made = look_by_call s t worlds one back laws image turn to newer older joined a.hearer happening at look since until found

        is : LookIs (host_after s image to at).stand.spot made.0.made look
        is = look_is to (host_after s image to at).stand.spot made.0.made look made.1

        there : HasKept (view_keeping from present) is.chosen.1.maker
        there = subst (KnownAt (kept_places (view_keeping from present))) is.is known

        before_has : HasView from present is.before.maker
        before_has = subst (λ (k : NamingMaker). HasView from present k.maker) (same_Some there.maker is.before (sym there.is ∙ is.had)) there.holds

pub announcements_come : (s : Settings) (t : Timing) → EveryJointHasAWorld s t → EachIsOneEvent s t → HeadersReadBack → ClockLaws → AnnouncementsCome s t
announcements_come s t worlds one back laws image turn post gaze present from to newer older at happening look joined a since until found late =
    view_known s t worlds one back laws image turn post gaze present from to newer older joined a at happening look since until found late
