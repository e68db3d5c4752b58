-- A look of a running node hears each one that is near it.
use Rattle.std.proofs.Common.{◌≡◌, ◌⊎◌, inl, inr, ℕ, ◌+◌, ◌*◌, ◌/◌, ◌<◌, ◌≤◌, true, false, ◌==◌, List, ◌∷◌, ◌++◌, Some, refl, sym, ◌∙◌, ap, subst, arith}
use Rattle.std.specs.Prelude.{nat_le}
use Rattle.std.specs.Option.{option_map_or}
use Rattle.std.proofs.lemmas.Bool.{cases_lt, le-leb, or_right}
use Rattle.std.proofs.lemmas.Option.{same_Some}
use Rattle.qn_model.specs.declared.configuration.Settings.{Settings}
use Rattle.qn_model.specs.declared.packets.Packet.{Packet}
use Rattle.qn_model.specs.declared.packets.Packet.TheVariants as packet
use Rattle.qn_model.specs.declared.times.Timing.{Timing}
use Rattle.qn_model.specs.Log.{now}
use Rattle.qn_model.specs.Moments.{Before, Itself, Later}
use Rattle.qn_model.specs.NodeOutputs.{with_entry}
use Rattle.qn_model.specs.Phases.{is_live, phase}
use Rattle.qn_model.specs.Wanted.{rank_of}
use Rattle.qn_base.specs.declared.ids.Said.{Said}
use Rattle.qn_base.specs.declared.ids.Standing.{Standing}
use Rattle.qn_io.specs.Answered.{time_of}
use Rattle.qn_member.specs.Maker.{enough_of, is_heard, plain}
use Rattle.qn_member.specs.Naming.{NamingMaker, names_nobody}
use Rattle.qn_live.specs.declared.place.Choice.{Choice}
use Rattle.qn_live.specs.Running.{RunState}
use Rattle.qn_safety.specs.Earlier.{before_tail, before_then, before_total}
use Rattle.qn_joined.specs.Joints.{Happening, Host, IsJoined, joint_after}
use Rattle.qn_joined.specs.Moves.{EachIsOneEvent}
use Rattle.qn_joined.specs.Stands.{Acting, Ended, Looking, Parting, Polling, Receiving, Saying, Spot, after_spot, log_at}
use Rattle.qn_joined.specs.WorldOf.{EveryJointHasAWorld, HasWorld}
use Rattle.qn_service.specs.Hellos.{IsHeardBy, IsNear, LooksHear, SaidHello, Says, beat_ticks, hello_ticks, packet_chosen, packet_to_hear, packet_waiting}
use Rattle.qn_service.specs.Looks.{LookOf, look_at}
use Rattle.qn_service.specs.NextLooks.{look_of_rank}
use Rattle.qn_service.specs.Serving.{clock_at}
use Rattle.qn_service.specs.Unheard.{log_after}
use Rattle.qn_service.proofs.ByTheImage.{HeadersReadBack}
use Rattle.qn_service.proofs.FreshHellos.{HasFresh, KnowsHello, LookIs, NoFarewell, PlainSo, SaysSo, fresh_besides, fresh_leads, fresh_places, look_is, spot_hears, told_fresh}
use Rattle.qn_service.proofs.JointClocks.{ClockLaws, ClocksRun, ReturnOf, UpStep, clocks_run, read_at, up_step}
use Rattle.qn_service.proofs.KeptLoops.{loop_of, told_keeps}
use Rattle.qn_service.proofs.NearHellos.{makers_loop, old_world}
use Rattle.qn_service.proofs.RankSteps.{host_after, returned_spot}
use Rattle.qn_service.proofs.SaidHellos.{hello_said, look_made, some_loop, up_leads}
use Rattle.qn_service.proofs.Sound.{always_sound}
use Rattle.qn_service.proofs.Tracing.{Traced, traced}
use Rattle.qn_service.proofs.TurnSteps.{Besides, KnownAt, MakerAt, Places, StepsLead, any_maker}

-- ## The newest line of a log

-- no line is later than a tick
abbrev pub early_places : ℕ → Places
early_places limit =
    record {
      between = λ log had. now log ≤ limit;
      acting = λ log had. now log ≤ limit;
      saying = λ sents log had. now log ≤ limit;
      over = λ log. now log ≤ limit;
    }

abbrev pub early_besides : ℕ → Besides
early_besides limit = record { clock = λ log tick p. tick ≤ limit; look = λ tick m. Unit {0}; sent = λ sent log. Unit {0}; log = λ log. Unit {0}; maker = λ m. Unit {0} }

pub early_leads : (s : Settings) (me limit : ℕ) → StepsLead s me (early_besides limit) (early_places limit) (early_places limit)
unfolding with_entry
early_leads s me limit =
    record {
      waits = λ log had known. known;
      takes = λ log had tick p entry clock order makers known. clock;
      looks = λ log m tick own p clock looking order maker known. clock;
      kept = λ m tick own p known. tt;
      acts = λ log had known. known;
      greets = λ log had loop_ms own logged makers known. known;
      polls = λ sents log had known. known;
      says = λ sent rest log had says known. known;
      said = λ log had known. known;
      stops = λ log had known. known;
      parts = λ log had known. known;
      ends = λ log known. known;
    }

pub early_in : (limit : ℕ) (spot : Spot) → now (log_at spot) ≤ limit → KnownAt (early_places limit) spot
early_in limit (Receiving st) early = early
early_in limit (Looking chosen) early = early
early_in limit (Acting entry outs o rest st) early = early
early_in limit (Polling poll sents st) early = early
early_in limit (Saying sent rest st) early = early
early_in limit (Parting end sent rest st) early = early
early_in limit (Ended ran) early = early

pub early_out : (limit : ℕ) (spot : Spot) → KnownAt (early_places limit) spot → now (log_at spot) ≤ limit
early_out limit (Receiving st) early = early
early_out limit (Looking chosen) early = early
early_out limit (Acting entry outs o rest st) early = early
early_out limit (Polling poll sents st) early = early
early_out limit (Saying sent rest st) early = early
early_out limit (Parting end sent rest st) early = early
early_out limit (Ended ran) early = early

-- ## Numbers

-- a tick is a hundredth of a clock, rounded down; of two clocks the one says how long it was, and the other how far it came
soon_enough : (beat turn post loop_ms from_old from_new to_old to_new time_old time_new last : ℕ)
    → 99 * time_new + from_old ≤ from_new + 99 * time_old
    → to_new + 101 * time_old ≤ 101 * time_new + to_old
    → from_new / 100 ≤ from_old / 100 + beat
    → last ≤ to_new / 100 + post + turn
    → 101 * (beat + turn + post + 4) ≤ 99 * (3 * loop_ms)
    → last ≤ to_old / 100 + 3 * loop_ms
soon_enough beat turn post loop_ms from_old from_new to_old to_new time_old time_new last slow fast lately close in_time =
    omega (arith, slow, fast, lately, close, in_time)

pub late_enough : (beat turn post from_old from_new to_mid to_new time_old time_mid time_new : ℕ)
    → 99 * time_mid + from_old ≤ from_new + 99 * time_old
    → 99 * time_new + to_mid ≤ to_new + 99 * time_mid
    → to_new / 100 ≤ to_mid / 100 + post + turn
    → 100 * (beat + turn + post + 4) + 99 * time_old ≤ 99 * time_new
    → from_old / 100 + beat < from_new / 100
late_enough beat turn post from_old from_new to_mid to_new time_old time_mid time_new first second close late =
    omega (arith, first, second, close, late)

starts_before : (beat turn post to_old to_new time_old time_new : ℕ)
    → 99 * time_new + to_old ≤ to_new + 99 * time_old
    → 100 * (beat + turn + post + 4) + 99 * time_old ≤ 99 * time_new
    → to_old / 100 + post < to_new / 100
starts_before beat turn post to_old to_new time_old time_new slow late = omega (arith, slow, late)

pub ticks_grow : (old new : ℕ) → old ≤ new → old / 100 ≤ new / 100
ticks_grow old new grows = omega (arith, grows)

pub later_time : (clock_old clock_new time_old time_new : ℕ) → clock_new + 101 * time_old ≤ 101 * time_new + clock_old → clock_old ≤ clock_new → time_old ≤ time_new
later_time clock_old clock_new time_old time_new fast grows = omega (arith, fast, grows)

pub still_late : (ticks time_first time_old time_new : ℕ) → time_old ≤ time_new → 100 * ticks + 99 * time_first ≤ 99 * time_old → 100 * ticks + 99 * time_first ≤ 99 * time_new
still_late ticks time_first time_old time_new order late = omega (arith, order, late)

-- ## One rank near another one

module _ (s : Settings) (t : Timing) (worlds : EveryJointHasAWorld s t) (one : EachIsOneEvent s t) (back : HeadersReadBack) (laws : ClockLaws)
    (image : ℕ → List ℕ) (turn post from to : ℕ) (newer older : List Happening) (joined : IsJoined s t image (newer ++ older))
    (near : IsNear s t image turn post from to older (newer ++ older)) where
  abbrev all : List Happening
  all = newer ++ older

  has : HasWorld s t (joint_after s image older)
  has = old_world s t worlds back image newer older joined

  it : Traced s t image older has.events (newer ++ older)
  it = traced s t one joined.fits image newer older joined.may has

  pub from_runs : (a b : List Happening) → Before older a → Before a b → Before b all → ClocksRun s image from a b
  from_runs = clocks_run s t image from older all has.events it.events laws it.trace joined.may (λ at since until. (near.sender at since until).is)

  pub to_runs : (a b : List Happening) → Before older a → Before a b → Before b all → ClocksRun s image to a b
  to_runs = clocks_run s t image to older all has.events it.events laws it.trace joined.may (λ at since until. (near.hearer at since until).is)

  pub to_grows : (a b : List Happening) → Before older a → Before a b → Before b all → clock_at s image a to ≤ clock_at s image b to
  to_grows a b since order until =
      ticks_grow (host_after s image to a).clock (host_after s image to b).clock (to_runs a b since order until).grows

  pub to_step : (newest : Happening) (at : List Happening) → Before older at → Before (newest ∷ at) all → UpStep s t image to newest at
  to_step = up_step s t image to older all has.events it.events laws it.trace joined.may (λ at since until. (near.hearer at since until).is)

  pub from_step : (newest : Happening) (at : List Happening) → Before older at → Before (newest ∷ at) all → UpStep s t image from newest at
  from_step = up_step s t image from older all has.events it.events laws it.trace joined.may (λ at since until. (near.sender at since until).is)

  -- a happening takes a turn at most
  turn_passes : (newest : Happening) (at : List Happening) → Before older at → Before (newest ∷ at) all → clock_at s image (newest ∷ at) to ≤ clock_at s image at to + turn
  turn_passes newest at since until = omega (arith, paced, read)
    where
      paced : clock_at s image (newest ∷ at) to ≤ now (log_after s image (newest ∷ at) to) + turn
      paced = (near.hearer (newest ∷ at) (Later newest since) until).turns

      limit : ℕ
      limit = clock_at s image at to

      read : now (log_after s image (newest ∷ at) to) ≤ clock_at s image at to
      read =
          early_out limit (host_after s image to (newest ∷ at)).stand.spot
          (up_leads s t image to newest at (early_besides limit) (early_places limit) (early_places limit) (early_leads s to limit) (to_step newest at since until)
          (λ chosen is tick told. omega (arith, told)) (λ look is. tt) (λ sent rest st is says. tt) tt (any_maker (host_after s image to at).stand.spot)
          (early_in limit (host_after s image to at).stand.spot
          (read_at s t image to older all has.events it.events laws it.trace joined.may (λ h a b. (near.hearer h a b).is) at since (before_tail until))))

  -- the last joint from which on the way of a packet is over before a tick
  pub record LastBefore (last : ℕ) (new : List Happening) : Type 0 where
    pub at : List Happening
    pub since : Before older at
    pub until : Before at new
    pub early : clock_at s image at to + post < last
    pub close : last ≤ clock_at s image at to + post + turn

  last_before : (last : ℕ) (at : List Happening) → Before older at → Before at all → clock_at s image older to + post < last → last ≤ clock_at s image at to + post → LastBefore last at
  last_before last at Itself until starts reach = absurd (omega (arith, starts, reach))
  last_before last (newest ∷ at) (Later same since) until starts reach =
      by_order (cases_lt (clock_at s image at to + post) last) (λ far. last_before last at since (before_tail until) starts far)
    where
      by_order : (clock_at s image at to + post < last) ⊎ (last ≤ clock_at s image at to + post) → (last ≤ clock_at s image at to + post → LastBefore last at)
          → LastBefore last (newest ∷ at)
      by_order (inl early) rest =
          let passes = turn_passes newest at since until in
          record { at = at; since = since; until = Later newest Itself; early = early; close = omega (arith, reach, passes) }
      by_order (inr far) rest =
          let found = rest far in
          record { at = found.at; since = found.since; until = Later newest found.until; early = found.early; close = found.close }

  -- ## What was heard goes on

  stays_at : (at : List Happening) → Before older at → Before at all → (chosen : Choice × RunState) → (host_after s image to at).stand.spot ≡ Looking chosen
      → NoFarewell from (packet_chosen chosen.0)
  stays_at at since until chosen is view comes = near.stays at view since until (ap packet_waiting is ∙ comes)

  -- a Hello that a look hears after a joint says what is so
  abbrev pub SaysSoFrom : (Said → Type 0) → List Happening → Type 0
  SaysSoFrom P base = (at : List Happening) → Before base at → Before at all
      → SaysSo from P (packet_to_hear s image to at) × PlainSo from P (packet_to_hear s image to at)

  fresh_on : (P : Said → Type 0) (since : ℕ) (base at : List Happening) → Before older base → Before base at → Before at all → SaysSoFrom P base
      → KnownAt (fresh_places from since P) (host_after s image to base).stand.spot → KnownAt (fresh_places from since P) (host_after s image to at).stand.spot
  fresh_on P since base at after Itself until so known = known
  fresh_on P since base (newest ∷ at) after (Later same order) until so known =
      up_leads s t image to newest at (fresh_besides s from P) (fresh_places from since P) (fresh_places from since P) (fresh_leads s to from since P)
      (to_step newest at (before_then after order) until)
      (λ chosen is tick told. (
        stays_at at (before_then after order) (before_tail until) chosen is,
        λ said standing comes. (so at order (before_tail until)).0 said standing (ap packet_waiting is ∙ comes),
        λ comes. (so at order (before_tail until)).1 (ap packet_waiting is ∙ comes),
      ))
      (λ look is. tt) (λ sent rest st is says. tt)
      (ap is_live (near.hearer (newest ∷ at) (Later newest (before_then after order)) until).is.up) (any_maker (host_after s image to at).stand.spot)
      (fresh_on P since base at after order (before_tail until) so known)

  pub made_look : (newest : Happening) (at : List Happening) (look : LookOf) → Before older at → Before (newest ∷ at) all → look_of_rank s image to newest at ≡ Some look
      → (r : ReturnOf s t image to newest at) × (look_at to (host_after s image to at).stand.spot r.made ≡ Some look)
  made_look newest at look since until found = look_made s t image to newest at look (to_step newest at since until) found

  look_tick : (newest : Happening) (at : List Happening) (look : LookOf) → Before older at → Before (newest ∷ at) all → look_of_rank s image to newest at ≡ Some look
      → look.tick ≡ clock_at s image at to
  look_tick newest at look since until found =
      let made = made_look newest at look since until found in
      let is = look_is to (host_after s image to at).stand.spot made.0.made look made.1 in
      is.tick ∙ made.0.told is.chosen is.is

  -- a Hello that a look heard is known after it
  heard_then : (P : Said → Type 0) → ((enough_of s == 0) ≡ true → P names_nobody × P plain) → (limit : ℕ) (since : List Happening) → Before older since
      → (said : Said) (standing : Standing) → P said → (h : IsHeardBy s image to (packet.Heard (rank_of from) said standing) limit since all)
      → KnownAt (fresh_places from h.look.tick P) (host_after s image to (h.happening ∷ h.at)).stand.spot
  heard_then P two limit since after said standing so h =
      subst (KnownAt (fresh_places from h.look.tick P)) (sym there)
      (spot_hears s to from P near.configured.0 joined.fits.few two said standing so h.look host.leave host.stand.turn host.stand.more host.stand.spot made.0.made made.1
      h.hears (always_sound s image to h.at)
      (subst (λ (spot : Spot). is_live (phase s (log_at spot)) ≡ true) there
      (ap is_live (near.hearer (h.happening ∷ h.at) (Later h.happening (before_then after h.after)) h.back).is.up)))
    where
      host : Host
      host = host_after s image to h.at

      made : (r : ReturnOf s t image to h.happening h.at) × (look_at to (host_after s image to h.at).stand.spot r.made ≡ Some h.look)
      made = made_look h.happening h.at h.look (before_then after h.after) h.back h.is

      there : (host_after s image to (h.happening ∷ h.at)).stand.spot ≡ (after_spot s to host.leave host.stand.turn host.stand.more host.stand.spot made.0.made).spot
      there = made.0.stand ∙ returned_spot s to (joint_after s image h.at).time host made.0.made

  -- ## What is heard

  -- a packet was heard before a joint
  pub record Reached (p : Packet) (limit : ℕ) (since at : List Happening) : Type 0 where
    pub came : IsHeardBy s image to p limit since all
    pub before : Before (came.happening ∷ came.at) at

  pub reaches : (p : Packet) (said_at : List Happening) (said : Happening) (at : List Happening) → Before older said_at → Before (said ∷ said_at) at → Before at all
      → Says s image from to p said said_at → clock_at s image said_at to + post < clock_at s image at to
      → Reached p (clock_at s image said_at to + post) (said ∷ said_at) at
  reaches p said_at said at after order until says late = record { came = came; before = by_place (before_total came.back until) }
    where
      since : Before older at
      since = before_then (Later said after) order

      came : IsHeardBy s image to p (clock_at s image said_at to + post) (said ∷ said_at) all
      came = near.come said_at said p after (before_then order until) says (let grows = to_grows at all since until Itself in omega (arith, grows, late))

      never : Before at came.at → ⊥
      never later =
          let grows = to_grows at came.at since later (before_tail came.back) in
          let soon = came.soon in
          omega (arith, grows, soon, late)

      by_newest : {h : List Happening} → Before at h → h ≡ came.happening ∷ came.at → Before (came.happening ∷ came.at) at
      by_newest Itself is = subst (λ (h : List Happening). Before h at) is Itself
      by_newest (Later more {new = earlier} up_to) is = absurd (never (subst (λ (h : List Happening). Before at h) (tail_of is) up_to))
        where
          tail_of : {a b : Happening} {first second : List Happening} → a ∷ first ≡ b ∷ second → first ≡ second
          tail_of e = cc

      by_place : Before (came.happening ∷ came.at) at ⊎ Before at (came.happening ∷ came.at) → Before (came.happening ∷ came.at) at
      by_place (inl earlier) = earlier
      by_place (inr later) = by_newest later refl

  -- ## A look

  module _ (at : List Happening) (happening : Happening) (look : LookOf) (since : Before older at) (until : Before (happening ∷ at) all)
      (found : look_of_rank s image to happening at ≡ Some look)
      (late : 100 * hello_ticks t turn post + 99 * (joint_after s image older).time ≤ 99 * (joint_after s image at).time) where
    until_at : Before at all
    until_at = before_tail until

    pub mid : LastBefore (clock_at s image at to) at
    mid =
        last_before (clock_at s image at to) at since until_at
        (starts_before (beat_ticks t turn) turn post (host_after s image to older).clock (host_after s image to at).clock (joint_after s image older).time (joint_after s image at).time
        (to_runs older at Itself since until_at).slow late)
        (omega arith)

    pub hello : SaidHello s image from to (beat_ticks t turn) older mid.at
    hello =
        hello_said s t image turn from to older all has.events it.events laws it.trace joined.may near.sender
        (makers_loop s t worlds back image newer older joined turn from near.sender) near.configured.1 near.apart (some_loop t joined.fits.times)
        mid.at mid.since (before_then mid.until until_at)
        (late_enough (beat_ticks t turn) turn post (host_after s image from older).clock (host_after s image from mid.at).clock (host_after s image to mid.at).clock
        (host_after s image to at).clock (joint_after s image older).time (joint_after s image mid.at).time (joint_after s image at).time
        (from_runs older mid.at Itself mid.since (before_then mid.until until_at)).slow (to_runs mid.at at mid.since mid.until until_at).slow mid.close late)

    comes_before : clock_at s image hello.at to + post < clock_at s image at to
    comes_before =
        let grows = to_grows hello.at mid.at hello.after (before_tail hello.back) (before_then mid.until until_at) in
        let early = mid.early in
        omega (arith, grows, early)

    pub reached : Reached (packet.Heard (rank_of from) hello.said hello.standing) (clock_at s image hello.at to + post) (hello.happening ∷ hello.at) at
    reached =
        reaches (packet.Heard (rank_of from) hello.said hello.standing) hello.at hello.happening at hello.after (before_then hello.back mid.until) until_at hello.says comes_before

    abbrev pub heard_it : IsHeardBy s image to (packet.Heard (rank_of from) hello.said hello.standing) (clock_at s image hello.at to + post) (hello.happening ∷ hello.at) all
    heard_it = reached.came

    heard_since : Before older heard_it.at
    heard_since = before_then (Later hello.happening hello.after) heard_it.after

    heard_before : Before (heard_it.happening ∷ heard_it.at) at
    heard_before = reached.before

    heard_tick : heard_it.look.tick ≡ clock_at s image heard_it.at to
    heard_tick = look_tick heard_it.happening heard_it.at heard_it.look heard_since heard_it.back heard_it.is

    in_time : clock_at s image at to ≤ heard_it.look.tick + 3 * t.loop_ms
    in_time =
        let enough = soon_enough (beat_ticks t turn) turn post t.loop_ms (host_after s image from hello.at).clock (host_after s image from mid.at).clock
        (host_after s image to hello.at).clock (host_after s image to mid.at).clock (joint_after s image hello.at).time (joint_after s image mid.at).time
        (clock_at s image at to)
        (from_runs hello.at mid.at hello.after (before_tail hello.back) (before_then mid.until until_at)).slow
        (to_runs hello.at mid.at hello.after (before_tail hello.back) (before_then mid.until until_at)).fast
        hello.soon mid.close near.fast in
        let grows = to_grows hello.at heard_it.at hello.after (before_tail heard_it.after) (before_tail heard_it.back) in
        let told = heard_tick in
        omega (arith, enough, grows, told)

    made : (r : ReturnOf s t image to happening at) × (look_at to (host_after s image to at).stand.spot r.made ≡ Some look)
    made = made_look happening at look since until found

    is : LookIs (host_after s image to at).stand.spot made.0.made look
    is = look_is to (host_after s image to at).stand.spot made.0.made look made.1

    tick_is : time_of made.0.made ≡ clock_at s image at to
    tick_is = made.0.told is.chosen is.is

    loop_is : look.maker.maker.loop_ms ≡ t.loop_ms
    loop_is =
        ap loop_of is.told ∙ told_keeps (time_of made.0.made) is.own (packet_chosen is.chosen.0) is.before
        ∙ subst (MakerAt (λ m. loop_of m ≡ t.loop_ms)) is.is (makers_loop s t worlds back image newer older joined turn to near.hearer at since until_at) is.before is.had

    -- the Hello that is known at the look says what each says that was heard since
    module _ (P : Said → Type 0) (two : (enough_of s == 0) ≡ true → P names_nobody × P plain) (so : P hello.said)
        (all_so : SaysSoFrom P (heard_it.happening ∷ heard_it.at)) where
      known : KnownAt (fresh_places from heard_it.look.tick P) (host_after s image to at).stand.spot
      known =
          fresh_on P heard_it.look.tick (heard_it.happening ∷ heard_it.at) at (Later heard_it.happening heard_since) heard_before until_at all_so
          (heard_then P two (clock_at s image hello.at to + post) (hello.happening ∷ hello.at) (Later hello.happening hello.after) hello.said hello.standing so heard_it)

      fresh : HasFresh from heard_it.look.tick P is.chosen.1.log is.chosen.1.maker
      fresh = subst (KnownAt (fresh_places from heard_it.look.tick P)) is.is known

      before_knows : KnowsHello from heard_it.look.tick P is.before.maker
      before_knows =
          subst (λ (k : NamingMaker). KnowsHello from heard_it.look.tick P k.maker) (same_Some fresh.maker is.before (sym fresh.is ∙ is.had)) fresh.knows

      pub knows : KnowsHello from heard_it.look.tick P look.maker.maker
      knows =
          subst (λ (m : NamingMaker). KnowsHello from heard_it.look.tick P m.maker) (sym is.told)
          (told_fresh from heard_it.look.tick P (time_of made.0.made) is.own (packet_chosen is.chosen.0) is.before
          (let grows = to_grows heard_it.at at heard_since (before_tail heard_before) until_at in let told = heard_tick in let here = tick_is in omega (arith, grows, told, here))
          (stays_at at since until_at is.chosen is.is)
          (λ said standing comes. (all_so at heard_before until_at).0 said standing (ap packet_waiting is.is ∙ comes))
          (λ comes. (all_so at heard_before until_at).1 (ap packet_waiting is.is ∙ comes)) before_knows)

    pub hears_by : (P : Said → Type 0) → KnowsHello from heard_it.look.tick P look.maker.maker → is_heard look.tick look.maker.maker from ≡ true
    hears_by P knows =
        or_right (from == look.maker.maker.me) _
        (ap (λ o. option_map_or (λ heard. nat_le look.tick (heard + 3 * look.maker.maker.loop_ms)) o false) knows.hello.is
        ∙ le-leb look.tick (knows.hello.tick + 3 * look.maker.maker.loop_ms) soon)
      where
        soon : look.tick ≤ knows.hello.tick + 3 * look.maker.maker.loop_ms
        soon =
            let same = is.tick in let here = tick_is in let late_then = knows.hello.late in let enough = in_time in let loop = loop_is in
            omega (arith, same, here, late_then, enough, loop)

    pub look_hears : is_heard look.tick look.maker.maker from ≡ true
    look_hears = hears_by (λ said. Unit {0}) (knows (λ said. Unit {0}) (λ none. (tt, tt)) tt (λ h order until'. (λ said standing comes. tt, λ comes. tt)))

pub looks_hear : (s : Settings) (t : Timing) → EveryJointHasAWorld s t → EachIsOneEvent s t → HeadersReadBack → ClockLaws → LooksHear s t
looks_hear s t worlds one back laws image turn post from to newer older at happening look joined near since until found late =
    look_hears s t worlds one back laws image turn post from to newer older joined near at happening look since until found late
