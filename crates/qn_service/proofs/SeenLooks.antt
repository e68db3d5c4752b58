-- A look of a running node knows what another one says, and sees it where that stays in sight.
use Rattle.std.proofs.Common.{◌≡◌, ℕ, ◌+◌, ◌-◌, ◌*◌, ◌/◌, ◌<◌, ◌≤◌, Bool, true, false, ◌==◌, List, ◌∷◌, ◌++◌, Some, length, max, if◌then◌else◌, refl, sym, ◌∙◌, ap, subst, arith}
use Rattle.std.specs.Option.{option_map_or}
use Rattle.std.proofs.lemmas.Bool.{and_from, eqb-true, or_right}
use Rattle.std.proofs.lemmas.Nat.Bits.{bit_at_ones}
use Rattle.std.proofs.Math.Nat.{le-max_left}
use Rattle.qn_base.specs.declared.ids.Said.{Said}
use Rattle.qn_base.specs.declared.ids.Standing.{Standing}
use Rattle.qn_base.specs.Members.{is_member}
use Rattle.qn_io.specs.Answered.{time_of}
use Rattle.qn_model.specs.declared.configuration.Settings.{Settings}
use Rattle.qn_model.specs.declared.nodelist.NodeEntry.{NodeEntry}
use Rattle.qn_model.specs.declared.packets.Packet.TheVariants as packet
use Rattle.qn_model.specs.declared.times.Timing.{Timing}
use Rattle.qn_model.specs.Moments.{Before, Itself, Later}
use Rattle.qn_model.specs.Phases.{is_live, phase}
use Rattle.qn_model.specs.Votes.{quorum_of}
use Rattle.qn_model.specs.Wanted.{rank_of}
use Rattle.qn_member.specs.Maker.{enough_of, is_heard, is_visible, plain}
use Rattle.qn_member.specs.Naming.{NamingMaker}
use Rattle.qn_member.specs.NamingViews.{after_look}
use Rattle.qn_safety.specs.Earlier.{before_tail, before_then}
use Rattle.qn_joined.specs.Joints.{Happening, Host, IsJoined, joint_after}
use Rattle.qn_joined.specs.Moves.{EachIsOneEvent}
use Rattle.qn_joined.specs.Stands.{Spot, after_spot, log_at}
use Rattle.qn_joined.specs.WorldOf.{EveryJointHasAWorld}
use Rattle.qn_service.specs.Hellos.{HasLooked, HellosAreOwn, InSight, IsHeardBy, IsNear, LooksKnowWords, LooksOften, LooksSee, SaidHello, Says, WasSaid, beat_ticks, hello_ticks, packet_chosen, packet_to_hear, sight_ticks}
use Rattle.qn_service.specs.Looks.{LookOf, look_at}
use Rattle.qn_service.specs.NextLooks.{look_of_rank}
use Rattle.qn_service.specs.Serving.{clock_at}
use Rattle.qn_service.proofs.ByTheImage.{HeadersReadBack}
use Rattle.qn_service.proofs.FreshHellos.{KnowsHello, LookIs, PlainSo, SaysSo, look_is, sound_before}
use Rattle.qn_service.proofs.JointClocks.{ClockLaws, ClocksRun, ReturnOf}
use Rattle.qn_service.proofs.LookRanks.{look_me}
use Rattle.qn_service.proofs.NearLooks.{LastBefore, from_runs, from_step, heard_it, hears_by, hello, knows, later_time, look_hears, made_look, mid, still_late, to_runs}
use Rattle.qn_service.proofs.RankSteps.{host_after, returned_spot}
use Rattle.qn_service.proofs.SaidHellos.{look_made, up_leads}
use Rattle.qn_service.proofs.SaidNames.{hello_words, look_names, saying_besides, saying_leads, saying_places}
use Rattle.qn_service.proofs.Sound.{IsSound, always_sound, told_beat}
use Rattle.qn_service.proofs.TurnSteps.{KnownAt, any_maker, spot_looked}

-- ## Numbers

-- a joint after so much of a clock is not before the time that this takes
pub looked_late : (ticks gaze from_old from_new time_first time_old time_new : ℕ) → 99 * time_new + from_old ≤ from_new + 99 * time_old → from_new / 100 ≤ from_old / 100 + gaze
    → 100 * (ticks + gaze + 2) + 99 * time_first ≤ 99 * time_new → 100 * ticks + 99 * time_first ≤ 99 * time_old
looked_late ticks gaze from_old from_new time_first time_old time_new slow soon late = omega (arith, slow, soon, late)

gaze_passed : (ticks gaze from_old from_new time_old time_new : ℕ) → 99 * time_new + from_old ≤ from_new + 99 * time_old
    → 100 * (ticks + gaze + 2) + 99 * time_old ≤ 99 * time_new → from_old / 100 + gaze < from_new / 100
gaze_passed ticks gaze from_old from_new time_old time_new slow late = omega (arith, slow, late)

-- what was said so short a time before is late enough itself
said_late : (ticks beat turn post gaze from_said from_mid to_mid to_new time_first time_said time_mid time_new : ℕ)
    → 99 * time_mid + from_said ≤ from_mid + 99 * time_said
    → 99 * time_new + to_mid ≤ to_new + 99 * time_mid
    → from_mid / 100 ≤ from_said / 100 + beat
    → to_new / 100 ≤ to_mid / 100 + post + turn
    → 100 * (ticks + (beat + turn + post + 4) + gaze + post + 4) + 99 * time_first ≤ 99 * time_new
    → 100 * (ticks + gaze + post + 4) + 99 * time_first ≤ 99 * time_said
said_late ticks beat turn post gaze from_said from_mid to_mid to_new time_first time_said time_mid time_new first second lately close late =
    omega (arith, first, second, lately, close, late)

own_late : (ticks gaze post to_old to_new time_first time_old time_new : ℕ) → 99 * time_new + to_old ≤ to_new + 99 * time_old → to_new / 100 ≤ to_old / 100 + post
    → 100 * (ticks + gaze + post + 4) + 99 * time_first ≤ 99 * time_new → 100 * (ticks + gaze + 2) + 99 * time_first ≤ 99 * time_old
own_late ticks gaze post to_old to_new time_first time_old time_new slow soon late = omega (arith, slow, soon, late)

less_late : (ticks gaze post time_first time_new : ℕ) → 100 * (ticks + gaze + post + 4) + 99 * time_first ≤ 99 * time_new → 100 * (ticks + gaze + 2) + 99 * time_first ≤ 99 * time_new
less_late ticks gaze post time_first time_new late = omega (arith, late)

first_late : (ticks more gaze post time_first time_new : ℕ) → 100 * (ticks + more + gaze + post + 4) + 99 * time_first ≤ 99 * time_new → 100 * more + 99 * time_first ≤ 99 * time_new
first_late ticks more gaze post time_first time_new late = omega (arith, late)

-- ## Names

-- a Hello of an older version names all
plain_names : (to : ℕ) → to < 32 → is_member plain.hears to ≡ true
plain_names to few = ap (λ bit. bit == 1) (bit_at_ones 32 to few)

-- without two_node a node needs votes
needs_votes : (s : Settings) → s.two_node ≡ false → (enough_of s == 0) ≡ true → ⊥
needs_votes s off none = absurd (let zero = eqb-true (enough_of s) 0 none in let some = needs in omega (arith, zero, some))
  where
    others : ℕ
    others = quorum_of s s.expected - (if s.last_man_standing then 0 else option_map_or (λ device. device.votes) s.device 0)

    needs : 1 ≤ enough_of s
    needs = subst (λ (b : Bool). 1 ≤ (if b then 0 else max 1 others)) (sym off) (le-max_left 1 others)

-- ## What one rank says

module _ (s : Settings) (t : Timing) (worlds : EveryJointHasAWorld s t) (one : EachIsOneEvent s t) (back : HeadersReadBack) (laws : ClockLaws)
    (image : ℕ → List ℕ) (turn post gaze from to : ℕ) (newer older : List Happening) (joined : IsJoined s t image (newer ++ older))
    (near : IsNear s t image turn post from to older (newer ++ older)) (often : LooksOften s image gaze from older (newer ++ older))
    (own_words : HellosAreOwn s image post from to older (newer ++ older)) (off : s.two_node ≡ false) (test : Said → Bool) (ticks : ℕ) where
  abbrev all : List Happening
  all = newer ++ older

  from_clocks : (a b : List Happening) → Before older a → Before a b → Before b all → ClocksRun s image from a b
  from_clocks = from_runs s t worlds one back laws image turn post from to newer older joined near

  to_clocks : (a b : List Happening) → Before older a → Before a b → Before b all → ClocksRun s image to a b
  to_clocks = to_runs s t worlds one back laws image turn post from to newer older joined near

  time_grows : (a b : List Happening) → Before older a → Before a b → Before b all → (joint_after s image a).time ≤ (joint_after s image b).time
  time_grows a b since order until =
      let run = to_clocks a b since order until in
      later_time (host_after s image to a).clock (host_after s image to b).clock (joint_after s image a).time (joint_after s image b).time run.fast run.grows

  -- a joint is so late
  abbrev IsLate : List Happening → Type 0
  IsLate at = 100 * ticks + 99 * (joint_after s image older).time ≤ 99 * (joint_after s image at).time

  -- each late look of it leaves words that pass the test
  abbrev LateLooksSay : Type 0
  LateLooksSay =
      (newest : Happening) (at : List Happening) (look : LookOf) → Before older at → Before (newest ∷ at) all → look_of_rank s image from newest at ≡ Some look → IsLate at
      → test (after_look look.tick look.maker).maker.says ≡ true

  module _ (late_looks : LateLooksSay) where
    -- so it goes on saying such words
    words_on : (base at : List Happening) → Before older base → Before base at → Before at all → IsLate base
        → KnownAt (saying_places test) (host_after s image from base).stand.spot → KnownAt (saying_places test) (host_after s image from at).stand.spot
    words_on base at after Itself until late known = known
    words_on base (newest ∷ at) after (Later same order) until late known =
        up_leads s t image from newest at (saying_besides s test) (saying_places test) (saying_places test) (saying_leads s from test)
        (from_step s t worlds one back laws image turn post from to newer older joined near newest at (before_then after order) until)
        (λ chosen is tick told. tt)
        (λ look found. late_looks newest at look (before_then after order) until found
        (still_late ticks (joint_after s image older).time (joint_after s image base).time (joint_after s image at).time (time_grows base at after order (before_tail until)) late))
        (λ sent rest st is says. tt)
        (ap is_live (near.sender (newest ∷ at) (Later newest (before_then after order)) until).is.up) (any_maker (host_after s image from at).stand.spot)
        (words_on base at after order (before_tail until) late known)

    words_after : (newest : Happening) (at : List Happening) (look : LookOf) → Before older at → Before (newest ∷ at) all → look_of_rank s image from newest at ≡ Some look → IsLate at
        → KnownAt (saying_places test) (host_after s image from (newest ∷ at)).stand.spot
    words_after newest at look since until found late =
        subst (KnownAt (saying_places test)) (sym there)
        (spot_looked s from (saying_besides s test) (saying_places test) (saying_places test) (saying_leads s from test) look host.leave host.stand.turn host.stand.more host.stand.spot
        made.0.made made.1 (any_maker host.stand.spot)
        (subst (λ (spot : Spot). is_live (phase s (log_at spot)) ≡ true) there (ap is_live (near.sender (newest ∷ at) (Later newest since) until).is.up))
        (λ log entry. record { maker = after_look look.tick look.maker; is = refl; so = late_looks newest at look since until found late }))
      where
        host : Host
        host = host_after s image from at

        made : (r : ReturnOf s t image from newest at) × (look_at from (host_after s image from at).stand.spot r.made ≡ Some look)
        made = look_made s t image from newest at look (from_step s t worlds one back laws image turn post from to newer older joined near newest at since until) found

        there : (host_after s image from (newest ∷ at)).stand.spot ≡ (after_spot s from host.leave host.stand.turn host.stand.more host.stand.spot made.0.made).spot
        there = made.0.stand ∙ returned_spot s from (joint_after s image at).time host made.0.made

    -- and each late Hello of it has them
    late_words : (said : Said) (standing : Standing) (happening : Happening) (at : List Happening) → Before older at → Before (happening ∷ at) all
        → Says s image from to (packet.Heard (rank_of from) said standing) happening at
        → 100 * (ticks + gaze + 2) + 99 * (joint_after s image older).time ≤ 99 * (joint_after s image at).time
        → test said ≡ true
    late_words said standing happening at since until says late =
        hello_words s image from to test said standing happening at says
        (words_on (looked.happening ∷ looked.at) at (Later looked.happening looked.after) looked.back (before_tail until) late_after
        (words_after looked.happening looked.at looked.look looked.after (before_then looked.back (before_tail until)) looked.is late_look))
      where
        looked : HasLooked s image gaze from older at
        looked =
            often at since (before_tail until)
            (gaze_passed ticks gaze (host_after s image from older).clock (host_after s image from at).clock (joint_after s image older).time (joint_after s image at).time
            (from_clocks older at Itself since (before_tail until)).slow late)

        late_look : IsLate looked.at
        late_look =
            looked_late ticks gaze (host_after s image from looked.at).clock (host_after s image from at).clock (joint_after s image older).time
            (joint_after s image looked.at).time (joint_after s image at).time
            (from_clocks looked.at at looked.after (before_tail looked.back) (before_tail until)).slow looked.soon late

        late_after : IsLate (looked.happening ∷ looked.at)
        late_after =
            still_late ticks (joint_after s image older).time (joint_after s image looked.at).time (joint_after s image (looked.happening ∷ looked.at)).time
            (time_grows looked.at (looked.happening ∷ looked.at) looked.after (Later looked.happening Itself) (before_then looked.back (before_tail until))) late_look

    -- ## What the other one knows

    module _ (at : List Happening) (happening : Happening) (look : LookOf) (since : Before older at) (until : Before (happening ∷ at) all)
        (found : look_of_rank s image to happening at ≡ Some look)
        (late : 100 * (ticks + hello_ticks t turn post + gaze + post + 4) + 99 * (joint_after s image older).time ≤ 99 * (joint_after s image at).time)
        (plainly : (h : List Happening) → Before older h → Before h all → PlainSo from (λ said. test said ≡ true) (packet_to_hear s image to h)) where
      late_first : 100 * hello_ticks t turn post + 99 * (joint_after s image older).time ≤ 99 * (joint_after s image at).time
      late_first = first_late ticks (hello_ticks t turn post) gaze post (joint_after s image older).time (joint_after s image at).time late

      abbrev middle : LastBefore s t worlds one back laws image turn post from to newer older joined near (clock_at s image at to) at
      middle = mid s t worlds one back laws image turn post from to newer older joined near at happening look since until found late_first

      abbrev last : SaidHello s image from to (beat_ticks t turn) older middle.at
      last = hello s t worlds one back laws image turn post from to newer older joined near at happening look since until found late_first

      abbrev came : IsHeardBy s image to (packet.Heard (rank_of from) last.said last.standing) (clock_at s image last.at to + post) (last.happening ∷ last.at) all
      came = heard_it s t worlds one back laws image turn post from to newer older joined near at happening look since until found late_first

      mid_all : Before middle.at all
      mid_all = before_then middle.until (before_tail until)

      late_said : 100 * (ticks + gaze + post + 4) + 99 * (joint_after s image older).time ≤ 99 * (joint_after s image last.at).time
      late_said =
          said_late ticks (beat_ticks t turn) turn post gaze (host_after s image from last.at).clock (host_after s image from middle.at).clock (host_after s image to middle.at).clock
          (host_after s image to at).clock (joint_after s image older).time (joint_after s image last.at).time (joint_after s image middle.at).time (joint_after s image at).time
          (from_clocks last.at middle.at last.after (before_tail last.back) mid_all).slow (to_clocks middle.at at middle.since middle.until (before_tail until)).slow
          last.soon middle.close late

      last_words : test last.said ≡ true
      last_words =
          late_words last.said last.standing last.happening last.at last.after (before_then last.back mid_all) last.says
          (less_late ticks gaze post (joint_after s image older).time (joint_after s image last.at).time late_said)

      base_since : Before older (came.happening ∷ came.at)
      base_since = Later came.happening (before_then (Later last.happening last.after) came.after)

      hello_so : (h : List Happening) → Before (came.happening ∷ came.at) h → Before h all → SaysSo from (λ said. test said ≡ true) (packet_to_hear s image to h)
      hello_so h order back_h said standing comes =
          late_words said standing own.happening own.at own.after (before_then own.back back_h) own.says
          (own_late ticks gaze post (host_after s image to own.at).clock (host_after s image to h).clock (joint_after s image older).time
          (joint_after s image own.at).time (joint_after s image h).time (to_clocks own.at h own.after (before_tail own.back) back_h).slow own.soon
          (still_late (ticks + gaze + post + 4) (joint_after s image older).time (joint_after s image last.at).time (joint_after s image h).time
          (time_grows last.at h last.after (before_then (before_then (before_tail came.after) (Later came.happening Itself)) order) back_h) late_said))
        where
          own : WasSaid s image from to post said standing older h
          own = own_words h said standing (before_then base_since order) back_h comes

      known_words : KnowsHello from came.look.tick (λ said. test said ≡ true) look.maker.maker
      known_words =
          knows s t worlds one back laws image turn post from to newer older joined near at happening look since until found late_first (λ said. test said ≡ true)
          (λ none. absurd (needs_votes s off none)) last_words (λ h order back_h. (hello_so h order back_h, plainly h (before_then base_since order) back_h))

      hears_them : is_heard look.tick look.maker.maker from ≡ true
      hears_them = hears_by s t worlds one back laws image turn post from to newer older joined near at happening look since until found late_first (λ said. test said ≡ true) known_words

pub looks_know_words : (s : Settings) (t : Timing) → EveryJointHasAWorld s t → EachIsOneEvent s t → HeadersReadBack → ClockLaws → LooksKnowWords s t
looks_know_words s t worlds one back laws image turn post gaze from to test newer older at happening look joined tells since until found late =
    let known =
    known_words s t worlds one back laws image turn post gaze from to newer older joined tells.near tells.looks tells.own tells.two_node test 0
    (λ newest j seen since' until' found' late'. tells.leaves j newest seen since' until' found') at happening look since until found (omega (arith, late))
    (λ h since' until' comes. tells.plain h since' until' comes) in
    ap (λ o. option_map_or test o false) known.word.is ∙ known.word.so

-- ## One rank in sight of another one

module _ (s : Settings) (t : Timing) (worlds : EveryJointHasAWorld s t) (one : EachIsOneEvent s t) (back : HeadersReadBack) (laws : ClockLaws)
    (image : ℕ → List ℕ) (turn post gaze from to : ℕ) (newer older : List Happening) (joined : IsJoined s t image (newer ++ older))
    (sight : InSight s t image turn post gaze from to older (newer ++ older)) where
  -- a Hello names the other one
  abbrev Names : Said → Bool
  Names said = is_member said.hears to

  -- each late look of it names the other one
  from_names : (newest : Happening) (at : List Happening) (look : LookOf) → Before older at → Before (newest ∷ at) (newer ++ older) → look_of_rank s image from newest at ≡ Some look
      → 100 * hello_ticks t turn post + 99 * (joint_after s image older).time ≤ 99 * (joint_after s image at).time
      → is_member (after_look look.tick look.maker).maker.says.hears to ≡ true
  from_names newest at look since until found late =
      look_names look.tick to look.maker configured (look_hears s t worlds one back laws image turn post to from newer older joined sight.there at newest look since until found late)
    where
      made : (r : ReturnOf s t image from newest at) × (look_at from (host_after s image from at).stand.spot r.made ≡ Some look)
      made = made_look s t worlds one back laws image turn post to from newer older joined sight.there newest at look since until found

      is : LookIs (host_after s image from at).stand.spot made.0.made look
      is = look_is from (host_after s image from at).stand.spot made.0.made look made.1

      before : IsSound s is.chosen.1.log is.before
      before = sound_before s (host_after s image from at).stand.spot made.0.made look is (always_sound s image from at)

      nodes : look.maker.maker.nodes ≡ s.nodes
      nodes =
          ap (λ (m : NamingMaker). m.maker.nodes) is.told
          ∙ (told_beat (time_of made.0.made) is.own (packet_chosen is.chosen.0) is.before).nodes ∙ before.nodes

      configured : to < length look.maker.maker.nodes
      configured = subst (λ (list : List NodeEntry). to < length list) (sym nodes) sight.here.configured.1

  module _ (at : List Happening) (happening : Happening) (look : LookOf) (since : Before older at) (until : Before (happening ∷ at) (newer ++ older))
      (found : look_of_rank s image to happening at ≡ Some look)
      (late : 100 * sight_ticks t turn post gaze + 99 * (joint_after s image older).time ≤ 99 * (joint_after s image at).time) where
    few : to < 32
    few = let under = sight.here.configured.1 in let nodes = joined.fits.few in omega (arith, under, nodes)

    me_is : look.maker.maker.me ≡ to
    me_is = look_me s image to sight.here.configured.1 joined.fits.few happening at look found

    pub look_sees : is_visible look.tick look.maker.maker from ≡ true
    look_sees =
        let known =
        known_words s t worlds one back laws image turn post gaze from to newer older joined sight.here sight.looks sight.own sight.two_node Names (hello_ticks t turn post) from_names
        at happening look since until found late (λ h since' until' comes. plain_names to few) in
        or_right (from == look.maker.maker.me) _
        (and_from (is_heard look.tick look.maker.maker from) _
        (hears_them s t worlds one back laws image turn post gaze from to newer older joined sight.here sight.looks sight.own sight.two_node Names (hello_ticks t turn post) from_names
        at happening look since until found late (λ h since' until' comes. plain_names to few))
        (ap (λ o. option_map_or (λ said. is_member said.hears look.maker.maker.me) o false) known.word.is
        ∙ subst (λ r. is_member known.word.said.hears r ≡ true) (sym me_is) known.word.so))

pub looks_see : (s : Settings) (t : Timing) → EveryJointHasAWorld s t → EachIsOneEvent s t → HeadersReadBack → ClockLaws → LooksSee s t
looks_see s t worlds one back laws image turn post gaze from to newer older at happening look joined sight since until found late =
    look_sees s t worlds one back laws image turn post gaze from to newer older joined sight at happening look since until found late
