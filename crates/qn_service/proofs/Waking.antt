-- One rank that stays awake from joint to joint: its steps, its clock, and its looks.
use Rattle.std.proofs.Common.{◌≡◌, ◌⊎◌, inl, inr, ℕ, ◌+◌, ◌*◌, ◌/◌, ◌<◌, ◌≤◌, true, List, ◌∷◌, ◌++◌, Some, length, refl, sym, ◌∙◌, ap, subst, arith}
use Rattle.std.proofs.lemmas.Bool.{cases_lt, ltb-false}
use Rattle.qn_io.specs.Answered.{time_of}
use Rattle.qn_model.specs.declared.configuration.Settings.{Settings}
use Rattle.qn_model.specs.declared.times.Timing.{Timing}
use Rattle.qn_model.specs.declared.entries.What.{What}
use Rattle.qn_model.specs.Log.{Line, now}
use Rattle.qn_model.specs.Moments.{Before, Itself, Later}
use Rattle.qn_model.specs.Phases.{is_live, phase}
use Rattle.qn_member.specs.Naming.{NamingMaker}
use Rattle.qn_member.specs.NamingViews.{after_look}
use Rattle.qn_live.specs.Choosing.{told}
use Rattle.qn_safety.specs.Earlier.{before_tail, before_then, before_total}
use Rattle.qn_joined.specs.Joints.{Happening, Host, IsJoined, joint_after}
use Rattle.qn_joined.specs.Moves.{EachIsOneEvent}
use Rattle.qn_joined.specs.Stands.{Spot, after_spot, log_at}
use Rattle.qn_joined.specs.WorldOf.{EveryJointHasAWorld, HasWorld}
use Rattle.qn_service.specs.Hellos.{SaidHello, StaysAwake, beat_ticks, packet_chosen}
use Rattle.qn_service.specs.Looks.{LookOf, look_at}
use Rattle.qn_service.specs.NextLooks.{look_of_rank}
use Rattle.qn_service.specs.Serving.{clock_at}
use Rattle.qn_service.specs.Unheard.{log_after}
use Rattle.qn_service.proofs.ByTheImage.{HeadersReadBack}
use Rattle.qn_service.proofs.FreshHellos.{LookIs, look_is, sound_before}
use Rattle.qn_service.proofs.JointClocks.{ClockLaws, ClocksRun, ReturnOf, UpStep, clocks_run, read_at, up_step}
use Rattle.qn_service.proofs.NearHellos.{makers_loop, old_world}
use Rattle.qn_service.proofs.NearLooks.{early_besides, early_in, early_leads, early_out, early_places, later_time, ticks_grow}
use Rattle.qn_service.proofs.OwnPast.{IsPast, always_own, own_places, past_kept, past_later, told_own}
use Rattle.qn_service.proofs.RankSteps.{host_after, returned_spot}
use Rattle.qn_service.proofs.SaidHellos.{hello_said, look_made, some_loop, up_leads}
use Rattle.qn_service.proofs.KeptLoops.{loop_of, told_keeps}
use Rattle.qn_service.proofs.LogViews.{always_shown}
use Rattle.qn_service.proofs.Shown.{Chooses, ShownAt}
use Rattle.qn_service.proofs.Sound.{always_sound, told_beat}
use Rattle.qn_service.proofs.Tracing.{Traced, traced}
use Rattle.qn_service.proofs.TurnSteps.{Besides, KnownAt, MakerAt, Places, StepsLead, any_maker, log_with, spot_looked}

-- ## Numbers

-- so many ticks of a clock have passed once true time did
pub ticks_passed : (ticks clock_old clock_new time_old time_new : ℕ) → 99 * time_new + clock_old ≤ clock_new + 99 * time_old
    → 100 * (ticks + 2) + 99 * time_old ≤ 99 * time_new → clock_old / 100 + ticks < clock_new / 100
ticks_passed ticks clock_old clock_new time_old time_new slow late = omega (arith, slow, late)

pub late_fewer : (few more time_first time_new : ℕ) → few ≤ more → 100 * more + 99 * time_first ≤ 99 * time_new → 100 * few + 99 * time_first ≤ 99 * time_new
late_fewer few more time_first time_new order late = omega (arith, order, late)

-- a joint is so late after another one
abbrev pub IsLate : Settings → (ℕ → List ℕ) → ℕ → List Happening → List Happening → Type 0
IsLate s image ticks first at = 100 * ticks + 99 * (joint_after s image first).time ≤ 99 * (joint_after s image at).time

module _ (s : Settings) (t : Timing) (worlds : EveryJointHasAWorld s t) (one : EachIsOneEvent s t) (back : HeadersReadBack) (laws : ClockLaws)
    (image : ℕ → List ℕ) (turn rank : ℕ) (newer older : List Happening) (joined : IsJoined s t image (newer ++ older)) (awake : StaysAwake s image turn rank older (newer ++ older)) where
  abbrev all : List Happening
  all = newer ++ older

  has : HasWorld s t (joint_after s image older)
  has = old_world s t worlds back image newer older joined

  it : Traced s t image older has.events (newer ++ older)
  it = traced s t one joined.fits image newer older joined.may has

  pub step_of : (newest : Happening) (at : List Happening) → Before older at → Before (newest ∷ at) all → UpStep s t image rank newest at
  step_of = up_step s t image rank older all has.events it.events laws it.trace joined.may (λ at since until. (awake at since until).is)

  pub clocks_of : (a b : List Happening) → Before older a → Before a b → Before b all → ClocksRun s image rank a b
  clocks_of = clocks_run s t image rank older all has.events it.events laws it.trace joined.may (λ at since until. (awake at since until).is)

  pub clock_grows : (a b : List Happening) → Before older a → Before a b → Before b all → clock_at s image a rank ≤ clock_at s image b rank
  clock_grows a b since order until = ticks_grow (host_after s image rank a).clock (host_after s image rank b).clock (clocks_of a b since order until).grows

  pub time_grows : (a b : List Happening) → Before older a → Before a b → Before b all → (joint_after s image a).time ≤ (joint_after s image b).time
  time_grows a b since order until =
      let run = clocks_of a b since order until in
      later_time (host_after s image rank a).clock (host_after s image rank b).clock (joint_after s image a).time (joint_after s image b).time run.fast run.grows

  pub read_of : (at : List Happening) → Before older at → Before at all → now (log_after s image at rank) ≤ clock_at s image at rank
  read_of = read_at s t image rank older all has.events it.events laws it.trace joined.may (λ h a b. (awake h a b).is)

  pub live_of : (at : List Happening) → Before older at → Before at all → is_live (phase s (log_after s image at rank)) ≡ true
  live_of at since until = ap is_live (awake at since until).is.up

  -- a happening takes a turn at most
  pub turn_takes : (newest : Happening) (at : List Happening) → Before older at → Before (newest ∷ at) all → clock_at s image (newest ∷ at) rank ≤ clock_at s image at rank + turn
  turn_takes newest at since until = omega (arith, paced, read)
    where
      paced : clock_at s image (newest ∷ at) rank ≤ now (log_after s image (newest ∷ at) rank) + turn
      paced = (awake (newest ∷ at) (Later newest since) until).turns

      limit : ℕ
      limit = clock_at s image at rank

      read : now (log_after s image (newest ∷ at) rank) ≤ clock_at s image at rank
      read =
          early_out limit (host_after s image rank (newest ∷ at)).stand.spot
          (up_leads s t image rank newest at (early_besides limit) (early_places limit) (early_places limit) (early_leads s rank limit) (step_of newest at since until)
          (λ chosen is tick told. omega (arith, told)) (λ look is. tt) (λ sent rest st is says. tt) tt (any_maker (host_after s image rank at).stand.spot)
          (early_in limit (host_after s image rank at).stand.spot (read_of at since (before_tail until))))

  -- the last joint that is so many ticks before another one
  pub record LastSince (ticks : ℕ) (new : List Happening) : Type 0 where
    pub at : List Happening
    pub since : Before older at
    pub until : Before at new
    pub early : clock_at s image at rank + ticks < clock_at s image new rank
    pub close : clock_at s image new rank ≤ clock_at s image at rank + ticks + turn

  since_of : (ticks : ℕ) (new at : List Happening) → Before older at → Before at new → Before new all → clock_at s image older rank + ticks < clock_at s image new rank
      → clock_at s image new rank ≤ clock_at s image at rank + ticks → LastSince ticks new
  since_of ticks new at Itself order until starts reach = absurd (omega (arith, starts, reach))
  since_of ticks new (newest ∷ at) (Later same since) order until starts reach =
      by_order (cases_lt (clock_at s image at rank + ticks) (clock_at s image new rank)) (since_of ticks new at since (before_tail order) until starts)
    where
      by_order : (clock_at s image at rank + ticks < clock_at s image new rank) ⊎ (clock_at s image new rank ≤ clock_at s image at rank + ticks)
          → (clock_at s image new rank ≤ clock_at s image at rank + ticks → LastSince ticks new) → LastSince ticks new
      by_order (inl early) rest =
          let passes = turn_takes newest at since (before_then order until) in
          record { at = at; since = since; until = before_tail order; early = early; close = omega (arith, reach, passes) }
      by_order (inr far) rest = rest far

  pub last_since : (ticks : ℕ) (new : List Happening) → Before older new → Before new all → clock_at s image older rank + ticks < clock_at s image new rank → LastSince ticks new
  last_since ticks new since until starts = since_of ticks new new since Itself until starts (omega arith)

  -- a joint of an earlier clock is an earlier one
  pub before_by_clock : (newest : Happening) (h at : List Happening) → Before older h → Before (newest ∷ h) all → Before older at → Before at all
      → clock_at s image h rank < clock_at s image at rank → Before (newest ∷ h) at
  before_by_clock newest h at after until since before less = by_place (before_total until before)
    where
      never : Before at h → ⊥
      never order = let grows = clock_grows at h since order (before_tail until) in omega (arith, grows, less)

      tail_of : {a b : Happening} {first second : List Happening} → a ∷ first ≡ b ∷ second → first ≡ second
      tail_of e = cc

      by_newest : {joint : List Happening} → Before at joint → joint ≡ newest ∷ h → Before (newest ∷ h) at
      by_newest Itself is = subst (λ (x : List Happening). Before x at) is Itself
      by_newest (Later more {new = earlier} up_to) is = absurd (never (subst (λ (x : List Happening). Before at x) (tail_of is) up_to))

      by_place : Before (newest ∷ h) at ⊎ Before at (newest ∷ h) → Before (newest ∷ h) at
      by_place (inl earlier) = earlier
      by_place (inr later) = by_newest later refl

  -- it has said a Hello to another one lately
  pub hello_by : (to : ℕ) → to < length s.nodes → (to ≡ rank → ⊥) → (at : List Happening) → Before older at → Before at all
      → clock_at s image older rank + beat_ticks t turn < clock_at s image at rank → SaidHello s image rank to (beat_ticks t turn) older at
  hello_by to under apart =
      hello_said s t image turn rank to older all has.events it.events laws it.trace joined.may awake
      (makers_loop s t worlds back image newer older joined turn rank awake) under apart (some_loop t joined.fits.times)

  -- ## Its looks

  -- a look of the rank is a call that returned
  pub look_by_call : (newest : Happening) (at : List Happening) (look : LookOf) → Before older at → Before (newest ∷ at) all → look_of_rank s image rank newest at ≡ Some look
      → (r : ReturnOf s t image rank newest at) × (look_at rank (host_after s image rank at).stand.spot r.made ≡ Some look)
  look_by_call newest at look since until found = look_made s t image rank newest at look (step_of newest at since until) found

  pub tick_of_look : (newest : Happening) (at : List Happening) (look : LookOf) → Before older at → Before (newest ∷ at) all → look_of_rank s image rank newest at ≡ Some look
      → look.tick ≡ clock_at s image at rank
  tick_of_look newest at look since until found =
      let made = look_by_call newest at look since until found in
      let is = look_is rank (host_after s image rank at).stand.spot made.0.made look made.1 in
      is.tick ∙ made.0.told is.chosen is.is

  -- its view maker is that of the rank
  pub own_of_look : rank < length s.nodes → (newest : Happening) (at : List Happening) (look : LookOf) → Before older at → Before (newest ∷ at) all → look_of_rank s image rank newest at ≡ Some look
      → look.maker.maker.me ≡ rank
  own_of_look under newest at look since until found =
      ap (λ (m : NamingMaker). m.maker.me) is.told
      ∙ (told_beat (time_of made.0.made) is.own (packet_chosen is.chosen.0) is.before).own ∙ (shown.turns.fine.maker is.before is.had).known.own
    where
      made : (r : ReturnOf s t image rank newest at) × (look_at rank (host_after s image rank at).stand.spot r.made ≡ Some look)
      made = look_by_call newest at look since until found

      is : LookIs (host_after s image rank at).stand.spot made.0.made look
      is = look_is rank (host_after s image rank at).stand.spot made.0.made look made.1

      shown : Chooses s rank is.chosen
      shown = subst (ShownAt s rank) is.is (always_shown s image rank under joined.fits.few at)

  -- of the configured nodes, with the loop's time of the image, and of no later tick
  pub nodes_of_look : (newest : Happening) (at : List Happening) (look : LookOf) → Before older at → Before (newest ∷ at) all → look_of_rank s image rank newest at ≡ Some look
      → look.maker.maker.nodes ≡ s.nodes
  nodes_of_look newest at look since until found =
      ap (λ (m : NamingMaker). m.maker.nodes) is.told
      ∙ (told_beat (time_of made.0.made) is.own (packet_chosen is.chosen.0) is.before).nodes
      ∙ (sound_before s (host_after s image rank at).stand.spot made.0.made look is (always_sound s image rank at)).nodes
    where
      made : (r : ReturnOf s t image rank newest at) × (look_at rank (host_after s image rank at).stand.spot r.made ≡ Some look)
      made = look_by_call newest at look since until found

      is : LookIs (host_after s image rank at).stand.spot made.0.made look
      is = look_is rank (host_after s image rank at).stand.spot made.0.made look made.1

  pub loop_of_look : (newest : Happening) (at : List Happening) (look : LookOf) → Before older at → Before (newest ∷ at) all → look_of_rank s image rank newest at ≡ Some look
      → look.maker.maker.loop_ms ≡ t.loop_ms
  loop_of_look newest at look since until found =
      ap loop_of is.told ∙ told_keeps (time_of made.0.made) is.own (packet_chosen is.chosen.0) is.before
      ∙ subst (MakerAt (λ m. loop_of m ≡ t.loop_ms)) is.is (makers_loop s t worlds back image newer older joined turn rank awake at since (before_tail until)) is.before is.had
    where
      made : (r : ReturnOf s t image rank newest at) × (look_at rank (host_after s image rank at).stand.spot r.made ≡ Some look)
      made = look_by_call newest at look since until found

      is : LookIs (host_after s image rank at).stand.spot made.0.made look
      is = look_is rank (host_after s image rank at).stand.spot made.0.made look made.1

  pub past_of_look : (newest : Happening) (at : List Happening) (look : LookOf) → Before older at → Before (newest ∷ at) all → look_of_rank s image rank newest at ≡ Some look
      → IsPast look.tick look.maker
  past_of_look newest at look since until found =
      subst (λ (m : NamingMaker). IsPast look.tick m) (sym is.told)
      (past_kept look.tick is.before (told (time_of made.0.made) is.own (packet_chosen is.chosen.0) is.before) (told_own (time_of made.0.made) is.own (packet_chosen is.chosen.0) is.before)
      (past_later (now is.chosen.1.log) look.tick order is.before (subst (KnownAt own_places) is.is (always_own s image rank at) is.before is.had)))
    where
      made : (r : ReturnOf s t image rank newest at) × (look_at rank (host_after s image rank at).stand.spot r.made ≡ Some look)
      made = look_by_call newest at look since until found

      is : LookIs (host_after s image rank at).stand.spot made.0.made look
      is = look_is rank (host_after s image rank at).stand.spot made.0.made look made.1

      order : now is.chosen.1.log ≤ look.tick
      order = let before = ltb-false (time_of made.0.made) (now is.chosen.1.log) is.order in let same = is.tick in omega (arith, before, same)

  -- what is known right after a look
  pub known_after : (b : Besides) (p : Places) → StepsLead s rank b p p → (newest : Happening) (at : List Happening) (look : LookOf) → Before older at → Before (newest ∷ at) all
      → look_of_rank s image rank newest at ≡ Some look → b.log (log_after s image (newest ∷ at) rank)
      → ((spot : Spot) → MakerAt b.maker spot)
      → ((log : List Line) (entry : What) → p.acting (log_with s rank log look.tick entry) (Some (after_look look.tick look.maker)))
      → KnownAt p (host_after s image rank (newest ∷ at)).stand.spot
  known_after b p lead newest at look since until found logged makers left =
      subst (KnownAt p) (sym there)
      (spot_looked s rank b p p lead look host.leave host.stand.turn host.stand.more host.stand.spot made.0.made made.1 (makers host.stand.spot)
      (subst (λ (spot : Spot). b.log (log_at spot)) there logged) left)
    where
      host : Host
      host = host_after s image rank at

      made : (r : ReturnOf s t image rank newest at) × (look_at rank (host_after s image rank at).stand.spot r.made ≡ Some look)
      made = look_by_call newest at look since until found

      there : (host_after s image rank (newest ∷ at)).stand.spot ≡ (after_spot s rank host.leave host.stand.turn host.stand.more host.stand.spot made.0.made).spot
      there = made.0.stand ∙ returned_spot s rank (joint_after s image at).time host made.0.made
