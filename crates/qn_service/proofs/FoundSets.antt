-- A look of a running node finds the set whose nodes stay together.
use Rattle.std.proofs.Common.{◌≡◌, ◌⊎◌, inl, inr, ℕ, ◌+◌, ◌*◌, ◌/◌, ◌<◌, ◌≤◌, Bool, true, false, ◌&&◌, ◌||◌, ◌==◌, List, ◌∷◌, ◌++◌, Option, None, Some, length, refl, sym, ◌∙◌, ap, subst, arith}
use Rattle.std.specs.Prelude.{nat_le}
use Rattle.std.specs.Option.{option_map_or}
use Rattle.std.proofs.Math.Nat.{le-max_left, le-max_right}
use Rattle.std.proofs.lemmas.Bool.{cases_Bool, cases_eq, eq-eqb, eqb-true, lt-leb, true≢false}
use Rattle.qn_base.specs.declared.ids.Mask.{Mask}
use Rattle.qn_base.specs.Members.{is_member}
use Rattle.qn_io.specs.Answered.{time_of}
use Rattle.qn_model.specs.declared.configuration.Settings.{Settings}
use Rattle.qn_model.specs.declared.times.Timing.{Timing}
use Rattle.qn_model.specs.Log.{now}
use Rattle.qn_model.specs.Moments.{Before, Itself, Later}
use Rattle.qn_member.specs.Maker.{Maker, is_visible, names, of_rank}
use Rattle.qn_member.specs.Naming.{NamingMaker}
use Rattle.qn_safety.specs.Earlier.{before_tail}
use Rattle.qn_joined.specs.Joints.{Happening, IsJoined, joint_after}
use Rattle.qn_joined.specs.Moves.{EachIsOneEvent}
use Rattle.qn_joined.specs.Stands.{Acting, Ended, Looking, Parting, Polling, Receiving, Saying, Spot, log_at}
use Rattle.qn_joined.specs.WorldOf.{EveryJointHasAWorld, HasWorld}
use Rattle.qn_service.specs.Hellos.{LooksFindSets, LooksSee, StaysTogether, find_ticks, is_hello_of, packet_chosen, packet_waiting, sight_ticks}
use Rattle.qn_service.specs.KeptViews.{IsUpAt}
use Rattle.qn_service.specs.Looks.{LookOf, look_at}
use Rattle.qn_service.specs.NextLooks.{look_of_rank}
use Rattle.qn_service.specs.Serving.{clock_at}
use Rattle.qn_service.proofs.ByTheImage.{HeadersReadBack}
use Rattle.qn_service.proofs.FreshHellos.{LookIs, look_is}
use Rattle.qn_service.proofs.JointClocks.{ClockLaws, ReturnOf, UpStep, clocks_run, read_at, up_step}
use Rattle.qn_service.proofs.KeptLoops.{loop_of, told_keeps}
use Rattle.qn_service.proofs.LookRanks.{look_me}
use Rattle.qn_service.proofs.NearHellos.{makers_loop, old_world}
use Rattle.qn_service.proofs.OldHellos.{HeardBy, always_past, old_besides, old_leads, old_places, past_places, told_old}
use Rattle.qn_service.proofs.RankSteps.{host_after}
use Rattle.qn_service.proofs.SaidHellos.{look_made, up_leads}
use Rattle.qn_service.proofs.Tracing.{Traced, traced}
use Rattle.qn_service.proofs.TurnSteps.{KnownAt, MakerAt, any_maker}

-- what is known of the past is known of a tick that the log is not after
past_old : (from limit : ℕ) (spot : Spot) → now (log_at spot) ≤ limit → KnownAt (past_places from) spot → KnownAt (old_places from limit) spot
past_old from limit (Receiving st) order known = λ m is tick heard. let early = known m is tick heard in omega (arith, early, order)
past_old from limit (Looking chosen) order known = λ m is tick heard. let early = known m is tick heard in omega (arith, early, order)
past_old from limit (Acting entry outs o rest st) order known = λ m is tick heard. let early = known m is tick heard in omega (arith, early, order)
past_old from limit (Polling poll sents st) order known = λ m is tick heard. let early = known m is tick heard in omega (arith, early, order)
past_old from limit (Saying sent rest st) order known = λ m is tick heard. let early = known m is tick heard in omega (arith, early, order)
past_old from limit (Parting end sent rest st) order known = tt
past_old from limit (Ended ran) order known = tt

-- so much time makes so many ticks
ticks_passed : (ticks to_old to_new time_old time_new : ℕ) → 99 * time_new + to_old ≤ to_new + 99 * time_old → 100 * ticks + 99 * time_old ≤ 99 * time_new
    → to_old / 100 + ticks ≤ to_new / 100
ticks_passed ticks to_old to_new time_old time_new slow late = omega (arith, slow, late)

-- a Hello came within three loops
abbrev lately : ℕ → Maker → Option ℕ → Bool
lately tick k o = option_map_or (λ heard. nat_le tick (heard + 3 * k.loop_ms)) o false

-- a rank of which each Hello is older than three loops is not seen
not_seen : (tick limit from : ℕ) (k : Maker) → (from == k.me) ≡ false → HeardBy from limit k.hellos → limit + 3 * k.loop_ms < tick → is_visible tick k from ≡ false
not_seen tick limit from k other known late =
    ap (λ b. b || (b || lately tick k (of_rank k.hellos from)) && names k from) other ∙ ap (λ b. b && names k from) (old (of_rank k.hellos from) refl)
  where
    old : (o : Option ℕ) → of_rank k.hellos from ≡ o → lately tick k o ≡ false
    old None is = refl
    old (Some heard) is = lt-leb tick (heard + 3 * k.loop_ms) (let early = known heard is in omega (arith, early, late))

module _ (s : Settings) (t : Timing) (worlds : EveryJointHasAWorld s t) (one : EachIsOneEvent s t) (back : HeadersReadBack) (laws : ClockLaws) (see : LooksSee s t)
    (image : ℕ → List ℕ) (turn post gaze : ℕ) (set : Mask) (rank : ℕ) (newer older : List Happening) (joined : IsJoined s t image (newer ++ older))
    (together : StaysTogether s t image turn post gaze set older (newer ++ older)) (member : is_member set rank ≡ true) where
  abbrev all : List Happening
  all = newer ++ older

  has : HasWorld s t (joint_after s image older)
  has = old_world s t worlds back image newer older joined

  it : Traced s t image older has.events (newer ++ older)
  it = traced s t one joined.fits image newer older joined.may has

  ups : (at : List Happening) → Before older at → Before at all → IsUpAt s image rank at
  ups at since until = (together.awake rank member at since until).is

  step : (newest : Happening) (at : List Happening) → Before older at → Before (newest ∷ at) all → UpStep s t image rank newest at
  step = up_step s t image rank older all has.events it.events laws it.trace joined.may ups

  -- of a rank outside no newer Hello is known
  old_on : (other : ℕ) → is_member set other ≡ false → (at : List Happening) → Before older at → Before at all
      → KnownAt (old_places other (clock_at s image older rank)) (host_after s image rank at).stand.spot
  old_on other out at Itself until =
      past_old other (clock_at s image older rank) (host_after s image rank older).stand.spot
      (read_at s t image rank older all has.events it.events laws it.trace joined.may ups older Itself until) (always_past s image rank other older)
  old_on other out (newest ∷ at) (Later same since) until =
      let limit = clock_at s image older rank in
      up_leads s t image rank newest at (old_besides other limit) (old_places other limit) (old_places other limit) (old_leads other limit s rank) (step newest at since until)
      (λ chosen is tick told. ap (λ (spot : Spot). is_hello_of other (packet_waiting spot)) (sym is) ∙ together.apart rank other member out at since (before_tail until))
      (λ look is. tt) (λ sent rest st is says. tt) tt (any_maker (host_after s image rank at).stand.spot) (old_on other out at since (before_tail until))

  module _ (at : List Happening) (happening : Happening) (look : LookOf) (since : Before older at) (until : Before (happening ∷ at) all)
      (found : look_of_rank s image rank happening at ≡ Some look)
      (late : 100 * find_ticks t turn post gaze + 99 * (joint_after s image older).time ≤ 99 * (joint_after s image at).time) where
    made : (r : ReturnOf s t image rank happening at) × (look_at rank (host_after s image rank at).stand.spot r.made ≡ Some look)
    made = look_made s t image rank happening at look (step happening at since until) found

    is : LookIs (host_after s image rank at).stand.spot made.0.made look
    is = look_is rank (host_after s image rank at).stand.spot made.0.made look made.1

    me_is : look.maker.maker.me ≡ rank
    me_is = look_me s image rank (together.configured rank member) joined.fits.few happening at look found

    loop_is : look.maker.maker.loop_ms ≡ t.loop_ms
    loop_is =
        ap loop_of is.told ∙ told_keeps (time_of made.0.made) is.own (packet_chosen is.chosen.0) is.before
        ∙ subst (MakerAt (λ m. loop_of m ≡ t.loop_ms)) is.is (makers_loop s t worlds back image newer older joined turn rank (together.awake rank member) at since (before_tail until))
        is.before is.had

    tick_is : look.tick ≡ clock_at s image at rank
    tick_is = is.tick ∙ made.0.told is.chosen is.is

    late_tick : clock_at s image older rank + 3 * look.maker.maker.loop_ms < look.tick
    late_tick =
        let passed = ticks_passed (find_ticks t turn post gaze) (host_after s image rank older).clock (host_after s image rank at).clock (joint_after s image older).time
        (joint_after s image at).time
        (clocks_run s t image rank older all has.events it.events laws it.trace joined.may ups older at Itself since (before_tail until)).slow late in
        let enough : 3 * t.loop_ms + 1 ≤ find_ticks t turn post gaze = le-max_right (sight_ticks t turn post gaze) (3 * t.loop_ms + 1) in
        let here = tick_is in
        let loop = loop_is in
        omega (arith, passed, enough, here, loop)

    -- a rank outside
    misses : (other : ℕ) → is_member set other ≡ false → is_visible look.tick look.maker.maker other ≡ false
    misses other out =
        not_seen look.tick (clock_at s image older rank) other look.maker.maker other_is
        (subst (λ (m : NamingMaker). HeardBy other (clock_at s image older rank) m.maker.hellos) (sym is.told)
        (told_old other (clock_at s image older rank) (time_of made.0.made) is.own (packet_chosen is.chosen.0) is.before
        (λ comes. absurd (true≢false (sym comes ∙ ap (λ (spot : Spot). is_hello_of other (packet_waiting spot)) (sym is.is) ∙ together.apart rank other member out at since (before_tail until))))
        (subst (KnownAt (old_places other (clock_at s image older rank))) is.is (old_on other out at since (before_tail until)) is.before is.had)))
        late_tick
      where
        by_same : (b : Bool) → (other == look.maker.maker.me) ≡ b → (other == look.maker.maker.me) ≡ false
        by_same false same = same
        by_same true same = absurd (true≢false (sym member ∙ ap (is_member set) (sym (eqb-true other look.maker.maker.me same ∙ me_is)) ∙ out))

        other_is : (other == look.maker.maker.me) ≡ false
        other_is = by_same (other == look.maker.maker.me) refl

    -- a rank of the set
    sees : (other : ℕ) → is_member set other ≡ true → is_visible look.tick look.maker.maker other ≡ true
    sees other inside = by_same (cases_eq other rank)
      where
        own : (b : Bool) → (other == look.maker.maker.me) ≡ b → b ≡ true → is_visible look.tick look.maker.maker other ≡ true
        own true same is_own = ap (λ b. b || (b || lately look.tick look.maker.maker (of_rank look.maker.maker.hellos other)) && names look.maker.maker other) same
        own false same is_own = absurd (true≢false (sym is_own))

        enough : 100 * sight_ticks t turn post gaze + 99 * (joint_after s image older).time ≤ 99 * (joint_after s image at).time
        enough = let less = le-max_left (sight_ticks t turn post gaze) (3 * t.loop_ms + 1) in omega (arith, late, less)

        by_same : (other ≡ rank) ⊎ (other ≡ rank → ⊥) → is_visible look.tick look.maker.maker other ≡ true
        by_same (inl same) = let is_own = eq-eqb other look.maker.maker.me (same ∙ sym me_is) in own (other == look.maker.maker.me) refl is_own
        by_same (inr apart) =
            see image turn post gaze other rank newer older at happening look joined (together.sight rank other member inside apart) since until found enough

    pub finds : (other : ℕ) → other < length s.nodes → is_visible look.tick look.maker.maker other ≡ is_member set other
    finds other under = by_member (cases_Bool (is_member set other))
      where
        by_member : (is_member set other ≡ true) ⊎ (is_member set other ≡ false) → is_visible look.tick look.maker.maker other ≡ is_member set other
        by_member (inl inside) = sees other inside ∙ sym inside
        by_member (inr out) = misses other out ∙ sym out

pub looks_find_sets : (s : Settings) (t : Timing) → EveryJointHasAWorld s t → EachIsOneEvent s t → HeadersReadBack → ClockLaws → LooksSee s t → LooksFindSets s t
looks_find_sets s t worlds one back laws see image turn post gaze set rank newer older at happening look joined together member since until found late other under =
    finds s t worlds one back laws see image turn post gaze set rank newer older joined together member at happening look since until found late other under
