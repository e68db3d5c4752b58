-- A running node whose looks find one leader knows since when.
use Rattle.std.proofs.Common.{◌≡◌, ℕ, ◌+◌, ◌*◌, ◌≤◌, List, ◌∷◌, ◌++◌, Some, sym, subst, arith}
use Rattle.qn_model.specs.declared.configuration.Settings.{Settings}
use Rattle.qn_model.specs.declared.times.Timing.{Timing}
use Rattle.qn_model.specs.Moments.{Before, Itself, Later}
use Rattle.qn_member.specs.NamingViews.{after_look}
use Rattle.qn_safety.specs.Earlier.{before_tail, before_then}
use Rattle.qn_joined.specs.Joints.{Happening, IsJoined, joint_after}
use Rattle.qn_joined.specs.Moves.{EachIsOneEvent}
use Rattle.qn_joined.specs.WorldOf.{EveryJointHasAWorld}
use Rattle.qn_service.specs.Leaders.{EachLookIs}
use Rattle.qn_service.specs.Hellos.{HasLooked, LooksOften, StaysAwake}
use Rattle.qn_service.specs.Looks.{LookOf}
use Rattle.qn_service.specs.NextLooks.{look_of_rank}
use Rattle.qn_service.specs.Serving.{clock_at}
use Rattle.qn_service.proofs.ByTheImage.{HeadersReadBack}
use Rattle.qn_service.proofs.JointClocks.{ClockLaws}
use Rattle.qn_service.proofs.Keeping.{KeepsOn, ToldAt, kept_after, kept_on, kept_places, told_at}
use Rattle.qn_service.proofs.Led.{FindsIt, IsLedSince, led_keeping, led_later, look_first_led, told_led}
use Rattle.qn_service.proofs.RankSteps.{host_after}
use Rattle.qn_service.proofs.TurnSteps.{KnownAt}
use Rattle.qn_service.proofs.SeenLooks.{looked_late}
use Rattle.qn_service.proofs.Waking.{IsLate, LastSince, clock_grows, clocks_of, last_since, late_fewer, loop_of_look, past_of_look, tick_of_look, ticks_passed}

-- at a look the leader led for four loops
pub record LedLong (s : Settings) (t : Timing) (image : ℕ → List ℕ) (rank leader : ℕ) (at : List Happening) (look : LookOf) : Type 0 where
  pub limit : ℕ
  pub led : IsLedSince leader limit look.maker
  pub long : limit + 4 * look.maker.maker.loop_ms ≤ look.tick

module _ (s : Settings) (t : Timing) (worlds : EveryJointHasAWorld s t) (one : EachIsOneEvent s t) (back : HeadersReadBack) (laws : ClockLaws)
    (image : ℕ → List ℕ) (turn gaze rank leader : ℕ) (newer older : List Happening) (joined : IsJoined s t image (newer ++ older)) (awake : StaysAwake s image turn rank older (newer ++ older))
    (often : LooksOften s image gaze rank older (newer ++ older)) (finds : EachLookIs s image rank (λ look. FindsIt leader look.tick look.maker) older (newer ++ older)) where
  abbrev all : List Happening
  all = newer ++ older

  keeps_led : (limit : ℕ) (base : List Happening) → Before older base → KeepsOn s t worlds one back laws image turn rank newer older joined awake (led_keeping leader limit) base
  keeps_led limit base after =
      record { hears = λ at order until chosen is. tt; looks = λ at happening look order until found. finds at happening look (before_then after order) until found }

  -- once it has looked the leader led it
  pub led_late : (at : List Happening) → Before older at → Before at all → IsLate s image (gaze + 2) older at
      → KnownAt (kept_places (led_keeping leader (clock_at s image at rank))) (host_after s image rank at).stand.spot
  led_late at since until late =
      kept_on s t worlds one back laws image turn rank newer older joined awake (led_keeping leader (clock_at s image at rank)) (looked.happening ∷ looked.at) at
      (Later looked.happening looked.after) looked.back until (keeps_led (clock_at s image at rank) (looked.happening ∷ looked.at) (Later looked.happening looked.after))
      (kept_after s t worlds one back laws image turn rank newer older joined awake (led_keeping leader (clock_at s image at rank)) looked.happening looked.at looked.look looked.after
      (before_then looked.back until) looked.is
      (led_later leader looked.look.tick (clock_at s image at rank) (after_look looked.look.tick looked.look.maker) early
      (look_first_led looked.look.tick leader looked.look.maker it.knows it.leads
      (past_of_look s t worlds one back laws image turn rank newer older joined awake looked.happening looked.at looked.look looked.after (before_then looked.back until) looked.is))))
    where
      looked : HasLooked s image gaze rank older at
      looked =
          often at since until
          (ticks_passed gaze (host_after s image rank older).clock (host_after s image rank at).clock (joint_after s image older).time (joint_after s image at).time
          (clocks_of s t worlds one back laws image turn rank newer older joined awake older at Itself since until).slow late)

      it : FindsIt leader looked.look.tick looked.look.maker
      it = finds looked.at looked.happening looked.look looked.after (before_then looked.back until) looked.is

      early : looked.look.tick ≤ clock_at s image at rank
      early =
          let same = tick_of_look s t worlds one back laws image turn rank newer older joined awake looked.happening looked.at looked.look looked.after (before_then looked.back until) looked.is in
          let grows = clock_grows s t worlds one back laws image turn rank newer older joined awake looked.at at looked.after (before_tail looked.back) until in
          omega (arith, same, grows)

  -- and four loops later it led for so long
  pub led_long : (at : List Happening) (happening : Happening) (look : LookOf) → Before older at → Before (happening ∷ at) all → look_of_rank s image rank happening at ≡ Some look
      → IsLate s image ((gaze + 2) + (4 * t.loop_ms + turn) + 2) older at → LedLong s t image rank leader at look
  led_long at happening look since until found late =
      record {
        limit = clock_at s image first.at rank;
        led = subst (IsLedSince leader (clock_at s image first.at rank)) (sym it.is) (told_led leader (clock_at s image first.at rank) look.tick it.own it.packet it.before it.holds);
        long = let early = first.early in
            let same = tick_of_look s t worlds one back laws image turn rank newer older joined awake happening at look since until found in
            let loop = loop_of_look s t worlds one back laws image turn rank newer older joined awake happening at look since until found in
            omega (arith, early, same, loop);
      }
    where
      until_at : Before at all
      until_at = before_tail until

      first : LastSince s t worlds one back laws image turn rank newer older joined awake (4 * t.loop_ms) at
      first =
          last_since s t worlds one back laws image turn rank newer older joined awake (4 * t.loop_ms) at since until_at
          (ticks_passed (4 * t.loop_ms) (host_after s image rank older).clock (host_after s image rank at).clock (joint_after s image older).time (joint_after s image at).time
          (clocks_of s t worlds one back laws image turn rank newer older joined awake older at Itself since until_at).slow
          (late_fewer (4 * t.loop_ms + 2) ((gaze + 2) + (4 * t.loop_ms + turn) + 2) (joint_after s image older).time (joint_after s image at).time (omega arith) late))

      late_first : IsLate s image (gaze + 2) older first.at
      late_first =
          looked_late (gaze + 2) (4 * t.loop_ms + turn) (host_after s image rank first.at).clock (host_after s image rank at).clock (joint_after s image older).time (joint_after s image first.at).time
          (joint_after s image at).time (clocks_of s t worlds one back laws image turn rank newer older joined awake first.at at first.since first.until until_at).slow
          (let close = first.close in omega (arith, close)) late

      it : ToldAt s t worlds one back laws image turn rank newer older joined awake (led_keeping leader (clock_at s image first.at rank)) at look
      it =
          told_at s t worlds one back laws image turn rank newer older joined awake (led_keeping leader (clock_at s image first.at rank)) happening at look since until found
          (kept_on s t worlds one back laws image turn rank newer older joined awake (led_keeping leader (clock_at s image first.at rank)) first.at at first.since first.until until_at
          (keeps_led (clock_at s image first.at rank) first.at first.since) (led_late first.at first.since (before_then first.until until_at) late_first))
