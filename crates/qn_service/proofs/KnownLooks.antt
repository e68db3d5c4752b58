-- A look of a running node knows the view that one near it announces.
use Rattle.std.proofs.Common.{◌≡◌, inr, ℕ, ◌+◌, ◌*◌, ◌<◌, ◌≤◌, Bool, true, false, ◌==◌, List, ◌∷◌, ◌++◌, Some, refl, sym, ◌∙◌, ap, subst, arith}
use Rattle.std.proofs.lemmas.Bool.{eqb-true}
use Rattle.std.proofs.lemmas.Option.{same_Some}
use Rattle.qn_base.specs.declared.ids.View.{View}
use Rattle.qn_io.specs.Answered.{time_of}
use Rattle.qn_model.specs.declared.configuration.Settings.{Settings}
use Rattle.qn_model.specs.declared.packets.Packet.TheVariants as packet
use Rattle.qn_model.specs.declared.packets.Sent.{Sent}
use Rattle.qn_model.specs.declared.times.Timing.{Timing}
use Rattle.qn_model.specs.Moments.{Before, Itself, Later}
use Rattle.qn_model.specs.Phases.{is_live, phase}
use Rattle.qn_model.specs.Wanted.{rank_of}
use Rattle.qn_member.specs.Maker.{has_configured, of_rank}
use Rattle.qn_member.specs.Naming.{NamingMaker}
use Rattle.qn_member.specs.NamingViews.{after_look}
use Rattle.qn_live.specs.Choosing.{told}
use Rattle.qn_safety.specs.Earlier.{before_joined, before_tail, before_then}
use Rattle.qn_joined.specs.Joints.{Happening, IsJoined, joint_after}
use Rattle.qn_joined.specs.Moves.{EachIsOneEvent}
use Rattle.qn_joined.specs.Stands.{Spot, log_at}
use Rattle.qn_joined.specs.WorldOf.{EveryJointHasAWorld, HasWorld}
use Rattle.qn_service.specs.Announced.{FollowersKeep, HearsOneView, LooksKnowViews}
use Rattle.qn_service.specs.Hellos.{IsHeardBy, IsNear, Says, beat_ticks, hello_ticks, packet_chosen, packet_waiting}
use Rattle.qn_service.specs.KeptViews.{KeepsView}
use Rattle.qn_service.specs.Looks.{LookOf, look_at}
use Rattle.qn_service.specs.NextLooks.{look_of_rank}
use Rattle.qn_service.specs.Serving.{clock_at}
use Rattle.qn_service.proofs.ByTheImage.{HeadersReadBack}
use Rattle.qn_service.proofs.FreshHellos.{LookIs, look_is, sound_before}
use Rattle.qn_service.proofs.JointClocks.{ClockLaws, ReturnOf}
use Rattle.qn_service.proofs.KnownViews.{HasView, look_view, told_it, told_view, view_besides, view_leads, view_places}
use Rattle.qn_service.proofs.LookRanks.{look_me}
use Rattle.qn_service.proofs.NearHellos.{makers_loop, old_world}
use Rattle.qn_service.proofs.NearLooks.{LastBefore, Reached, from_runs, late_enough, later_time, made_look, mid, reaches, still_late, to_grows, to_runs, to_step}
use Rattle.qn_service.proofs.RankSteps.{host_after, returned_spot}
use Rattle.qn_service.proofs.SaidHellos.{SaidLately, said_lately, some_loop, up_leads}
use Rattle.qn_service.proofs.SaidViews.{IsAnnouncement, speaks_after, view_speech}
use Rattle.qn_service.proofs.Sound.{always_sound}
use Rattle.qn_service.proofs.Tracing.{Traced, traced}
use Rattle.qn_service.proofs.TurnSteps.{KnownAt, any_maker, spot_looked}

module _ (s : Settings) (t : Timing) (worlds : EveryJointHasAWorld s t) (one : EachIsOneEvent s t) (back : HeadersReadBack) (laws : ClockLaws)
    (image : ℕ → List ℕ) (turn post from to : ℕ) (view : View) (newer older : List Happening) (joined : IsJoined s t image (newer ++ older))
    (near : IsNear s t image turn post from to older (newer ++ older)) (same : HearsOneView s image from to view older (newer ++ older))
    (within : has_configured s.nodes view.members ≡ true) where
  abbrev all : List Happening
  all = newer ++ older

  -- it is known from a joint on
  view_on : (base at : List Happening) → Before older base → Before base at → Before at all
      → KnownAt (view_places from view) (host_after s image to base).stand.spot → KnownAt (view_places from view) (host_after s image to at).stand.spot
  view_on base at after Itself until known = known
  view_on base (newest ∷ at) after (Later less order) until known =
      up_leads s t image to newest at (view_besides s from view) (view_places from view) (view_places from view) (view_leads s to from view)
      (to_step s t worlds one back laws image turn post from to newer older joined near newest at (before_then after order) until)
      (λ chosen is tick told other comes. same at other (before_then after order) (before_tail until) (ap packet_waiting is ∙ comes)) (λ look is. tt) (λ sent rest st is says. tt)
      (ap is_live (near.hearer (newest ∷ at) (Later newest (before_then after order)) until).is.up) (any_maker (host_after s image to at).stand.spot)
      (view_on base at after order (before_tail until) known)

  -- a look that heard it knows it
  module _ (limit : ℕ) (since : List Happening) (after : Before older since) (h : IsHeardBy s image to (packet.Announce (rank_of from) view) limit since all) where
    made : (r : ReturnOf s t image to h.happening h.at) × (look_at to (host_after s image to h.at).stand.spot r.made ≡ Some h.look)
    made = made_look s t worlds one back laws image turn post from to newer older joined near h.happening h.at h.look (before_then after h.after) h.back h.is

    is : LookIs (host_after s image to h.at).stand.spot made.0.made h.look
    is = look_is to (host_after s image to h.at).stand.spot made.0.made h.look made.1

    knows_it : of_rank h.look.maker.maker.announced from ≡ Some view
    knows_it =
        ap (λ (m : NamingMaker). of_rank m.maker.announced from) is.told
        ∙ ap (λ p. of_rank (told (time_of made.0.made) is.own p is.before).maker.announced from) (sym (ap packet_waiting is.is) ∙ h.hears)
        ∙ told_it from view s is.chosen.1.log (time_of made.0.made) is.own is.before near.configured.0 joined.fits.few within
        (sound_before s (host_after s image to h.at).stand.spot made.0.made h.look is (always_sound s image to h.at))

    known_after : KnownAt (view_places from view) (host_after s image to (h.happening ∷ h.at)).stand.spot
    known_after =
        let there = made.0.stand ∙ returned_spot s to (joint_after s image h.at).time (host_after s image to h.at) made.0.made in
        subst (KnownAt (view_places from view)) (sym there)
        (spot_looked s to (view_besides s from view) (view_places from view) (view_places from view) (view_leads s to from view) h.look (host_after s image to h.at).leave
        (host_after s image to h.at).stand.turn (host_after s image to h.at).stand.more (host_after s image to h.at).stand.spot made.0.made made.1
        (any_maker (host_after s image to h.at).stand.spot)
        (subst (λ (spot : Spot). is_live (phase s (log_at spot)) ≡ true) there
        (ap is_live (near.hearer (h.happening ∷ h.at) (Later h.happening (before_then after h.after)) h.back).is.up))
        (λ log entry. record { maker = after_look h.look.tick h.look.maker; is = refl; knows = look_view from view h.look.tick h.look.maker knows_it }))

  -- ## A look

  module _ (lately : (mid : List Happening) → Before older mid → Before mid all → clock_at s image older from + beat_ticks t turn < clock_at s image mid from
      → SaidLately s image from (IsAnnouncement from to view) (beat_ticks t turn) older mid)
      (at : List Happening) (happening : Happening) (look : LookOf) (since : Before older at) (until : Before (happening ∷ at) all)
      (found : look_of_rank s image to happening at ≡ Some look)
      (late : 100 * hello_ticks t turn post + 99 * (joint_after s image older).time ≤ 99 * (joint_after s image at).time) where
    abbrev middle : LastBefore s t worlds one back laws image turn post from to newer older joined near (clock_at s image at to) at
    middle = mid s t worlds one back laws image turn post from to newer older joined near at happening look since until found late

    mid_all : Before middle.at all
    mid_all = before_then middle.until (before_tail until)

    said : SaidLately s image from (IsAnnouncement from to view) (beat_ticks t turn) older middle.at
    said =
        lately middle.at middle.since mid_all
        (late_enough (beat_ticks t turn) turn post (host_after s image from older).clock (host_after s image from middle.at).clock (host_after s image to middle.at).clock
        (host_after s image to at).clock (joint_after s image older).time (joint_after s image middle.at).time (joint_after s image at).time
        (from_runs s t worlds one back laws image turn post from to newer older joined near older middle.at Itself middle.since mid_all).slow
        (to_runs s t worlds one back laws image turn post from to newer older joined near middle.at at middle.since middle.until (before_tail until)).slow middle.close late)

    says : Says s image from to (packet.Announce (rank_of from) view) said.happening said.at
    says = said.says ∙ ap (λ (sent : Sent). Some (from, sent)) said.so

    comes_before : clock_at s image said.at to + post < clock_at s image at to
    comes_before =
        let grows = to_grows s t worlds one back laws image turn post from to newer older joined near said.at middle.at said.after (before_tail said.back) mid_all in
        let early = middle.early in
        omega (arith, grows, early)

    reached : Reached s t worlds one back laws image turn post from to newer older joined near (packet.Announce (rank_of from) view) (clock_at s image said.at to + post)
        (said.happening ∷ said.at) at
    reached =
        reaches s t worlds one back laws image turn post from to newer older joined near (packet.Announce (rank_of from) view) said.at said.happening at said.after
        (before_then said.back middle.until) (before_tail until) says comes_before

    heard_since : Before older reached.came.at
    heard_since = before_then (Later said.happening said.after) reached.came.after

    known : KnownAt (view_places from view) (host_after s image to at).stand.spot
    known =
        view_on (reached.came.happening ∷ reached.came.at) at (Later reached.came.happening heard_since) reached.before (before_tail until)
        (known_after (clock_at s image said.at to + post) (said.happening ∷ said.at) (Later said.happening said.after) reached.came)

    last_made : (r : ReturnOf s t image to happening at) × (look_at to (host_after s image to at).stand.spot r.made ≡ Some look)
    last_made = made_look s t worlds one back laws image turn post from to newer older joined near happening at look since until found

    last_is : LookIs (host_after s image to at).stand.spot last_made.0.made look
    last_is = look_is to (host_after s image to at).stand.spot last_made.0.made look last_made.1

    last_has : HasView from view last_is.chosen.1.maker
    last_has = subst (KnownAt (view_places from view)) last_is.is known

    pub look_knows : of_rank look.maker.maker.announced from ≡ Some view
    look_knows =
        ap (λ (m : NamingMaker). of_rank m.maker.announced from) last_is.told
        ∙ told_view from view (time_of last_made.0.made) last_is.own (packet_chosen last_is.chosen.0) last_is.before
        (λ other comes. same at other since (before_tail until) (ap packet_waiting last_is.is ∙ comes))
        (ap (λ (m : NamingMaker). of_rank m.maker.announced from) (same_Some last_is.before last_has.maker (sym last_is.had ∙ last_has.is)) ∙ last_has.knows)

pub looks_know_views : (s : Settings) (t : Timing) → EveryJointHasAWorld s t → EachIsOneEvent s t → HeadersReadBack → ClockLaws → LooksKnowViews s t
looks_know_views s t worlds one back laws image turn post from to view newer earlier first at happening look joined tells since until is late =
    look_knows s t worlds one back laws image turn post from to view newer (first ∷ earlier) joined tells.near tells.one tells.within
    (said_lately s t image turn from (first ∷ earlier) (newer ++ first ∷ earlier) has.events it.events laws it.trace joined.may tells.near.sender
    (makers_loop s t worlds back image newer (first ∷ earlier) joined turn from tells.near.sender) (some_loop t joined.fits.times)
    (view_speech s from to view tells.near.configured.1 tells.near.apart)
    (speaks_after s image from (view_speech s from to view tells.near.configured.1 tells.near.apart) first earlier tells.seen tells.is tells.leaves
    (ap is_live (tells.near.sender (first ∷ earlier) Itself (before_joined newer (first ∷ earlier))).is.up))
    (λ j newest other since' until' found'. tells.looks j newest other since' until' found'))
    at happening look since until is late
  where
    has : HasWorld s t (joint_after s image (first ∷ earlier))
    has = old_world s t worlds back image newer (first ∷ earlier) joined

    it : Traced s t image (first ∷ earlier) has.events (newer ++ first ∷ earlier)
    it = traced s t one joined.fits image newer (first ∷ earlier) joined.may has

-- ## A follower

pub followers_keep : (s : Settings) (t : Timing) → EveryJointHasAWorld s t → EachIsOneEvent s t → HeadersReadBack → ClockLaws → LooksKnowViews s t → FollowersKeep s t
followers_keep s t worlds one back laws know image turn post from to view newer earlier mid first joined tells since until late left led =
    record { first = left; looks = keeps }
  where
    time_grows : (at : List Happening) → Before mid at → Before at (newer ++ first ∷ earlier) → (joint_after s image mid).time ≤ (joint_after s image at).time
    time_grows at order within =
        let run = to_runs s t worlds one back laws image turn post from to newer (first ∷ earlier) joined tells.near mid at since order within in
        later_time (host_after s image to mid).clock (host_after s image to at).clock (joint_after s image mid).time (joint_after s image at).time run.fast run.grows

    other : (look : LookOf) → look.maker.maker.me ≡ to → (from == look.maker.maker.me) ≡ false
    other look own = by_same (from == look.maker.maker.me) refl
      where
        by_same : (b : Bool) → (from == look.maker.maker.me) ≡ b → (from == look.maker.maker.me) ≡ false
        by_same false same = same
        by_same true same = absurd (tells.near.apart (sym (eqb-true from look.maker.maker.me same ∙ own)))

    keeps : (at : List Happening) (happening : Happening) (look : LookOf) → Before mid at → Before (happening ∷ at) (newer ++ first ∷ earlier)
        → look_of_rank s image to happening at ≡ Some look → KeepsView from view look
    keeps at happening look order back_at found =
        record {
          may = (led at happening look order back_at found).0;
          keeps = inr (record {
            leads = (led at happening look order back_at found).1;
            other = other look (look_me s image to tells.near.configured.1 joined.fits.few happening at look found);
            announced = know image turn post from to view newer earlier first at happening look joined tells (before_then since order) back_at found
                (still_late (hello_ticks t turn post) (joint_after s image (first ∷ earlier)).time (joint_after s image mid).time (joint_after s image at).time
                (time_grows at order (before_tail back_at)) late);
          });
        }
