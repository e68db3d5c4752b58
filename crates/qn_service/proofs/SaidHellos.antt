-- From joint to joint a running node that is up and keeps its pace has said lately what it has to say at each beat, as a Hello to each other one.
use Rattle.std.proofs.Common.{◌≡◌, inl, inr, ℕ, ◌+◌, ◌<◌, ◌≤◌, true, ◌&&◌, ◌==◌, List, ◌∷◌, None, Some, if◌then◌else◌, length, sym, ◌∙◌, ap, subst, arith}
use Rattle.std.specs.Prelude.{IsTrue, option_and_then, option_map}
use Rattle.std.proofs.lemmas.Bool.{and_parts, eq-eqb, false≢true, leb-true}
use Rattle.qn_io.specs.Answered.{time_of}
use Rattle.qn_model.specs.declared.configuration.Settings.{Settings}
use Rattle.qn_model.specs.declared.events.Event.{Event}
use Rattle.qn_model.specs.declared.packets.Sent.{Sent}
use Rattle.qn_model.specs.declared.times.Timing.{Timing}
use Rattle.qn_model.specs.Log.{now}
use Rattle.qn_model.specs.Moments.{Before, Itself, Later}
use Rattle.qn_model.specs.Phases.{is_live}
use Rattle.qn_model.specs.Timing.{has_periods, is_period}
use Rattle.qn_safety.specs.Earlier.{before_tail}
use Rattle.qn_live.specs.declared.place.Choice.{Choice}
use Rattle.qn_live.specs.Running.{RunState}
use Rattle.qn_joined.specs.Joints.{AllMayHappen, Happening, Host, joint_after}
use Rattle.qn_joined.specs.Stands.{Acting, Ended, Looking, Parting, Polling, Receiving, Saying, Spot, Stand, after_spot, log_at}
use Rattle.qn_service.specs.Hellos.{IsAwake, SaidHello, StaysAwake, beat_ticks, packet_chosen, said_in, sent_next}
use Rattle.qn_service.specs.Looks.{LookOf, look_at, look_of}
use Rattle.qn_service.specs.NextLooks.{look_of_rank}
use Rattle.qn_service.specs.Serving.{clock_at}
use Rattle.qn_service.specs.Unheard.{log_after}
use Rattle.qn_service.proofs.Beats.{Beats, Speech, WasSaid, beat_besides, beat_leads, beat_places, beats_at, beats_first, hello_speech, speech_places}
use Rattle.qn_service.proofs.JointClocks.{ClockLaws, Made, ReturnOf, Still, UpStep, read_at, up_step}
use Rattle.qn_service.proofs.KeptLoops.{loop_of}
use Rattle.qn_service.proofs.KeptViews.{look_rank}
use Rattle.qn_service.proofs.Made.{filtered}
use Rattle.qn_service.proofs.RankSteps.{host_after, returned_spot}
use Rattle.qn_service.proofs.Sound.{always_sound}
use Rattle.qn_service.proofs.Timing.{WorksAt}
use Rattle.qn_service.proofs.Tracing.{Trace}
use Rattle.qn_service.proofs.TurnSteps.{Besides, KnownAt, MakerAt, Places, StepsLead, spot_leads, spot_rests}

-- view makers that work by the image have its loop's time
pub works_makers : (s : Settings) (t : Timing) (spot : Spot) → WorksAt s t spot → MakerAt (λ m. loop_of m ≡ t.loop_ms) spot
works_makers s t (Receiving st) works = works.maker
works_makers s t (Looking chosen) works = works.0.maker
works_makers s t (Acting entry outs o rest st) works = works.maker
works_makers s t (Polling poll sents st) works = works.maker
works_makers s t (Saying sent rest st) works = works.maker
works_makers s t (Parting end sent rest st) works = tt
works_makers s t (Ended ran) works = tt

-- the loop takes some time
pub some_loop : (t : Timing) → IsTrue (has_periods t) → 1 ≤ t.loop_ms
some_loop t periods =
    let feeds = and_parts (is_period t.watchdog && is_period t.msgwait && is_period t.loop_ms && is_period t.read_limit) (is_period t.feed_delay) periods in
    let reads = and_parts (is_period t.watchdog && is_period t.msgwait && is_period t.loop_ms) (is_period t.read_limit) feeds.0 in
    let loops = and_parts (is_period t.watchdog && is_period t.msgwait) (is_period t.loop_ms) reads.0 in
    leb-true 1 t.loop_ms (and_parts _ _ loops.1).0

-- what is known of a rank that is up goes on by a happening
module _ (s : Settings) (t : Timing) (image : ℕ → List ℕ) (rank : ℕ) (newest : Happening) (at : List Happening) (b : Besides) (old new : Places) (lead : StepsLead s rank b old new) where
  abbrev pub ClockIs : Type 0
  ClockIs = (chosen : Choice × RunState) → (host_after s image rank at).stand.spot ≡ Looking chosen → (tick : ℕ) → tick ≡ clock_at s image at rank
      → b.clock chosen.1.log tick (packet_chosen chosen.0)

  abbrev pub SentIs : Type 0
  SentIs = (sent : Sent) (rest : List Sent) (st : RunState) → (host_after s image rank at).stand.spot ≡ Saying sent rest st → said_in s image newest at ≡ Some (rank, sent) → b.sent sent st.log

  abbrev pub EachLookIs : Type 0
  EachLookIs = (look : LookOf) → look_of_rank s image rank newest at ≡ Some look → b.look look.tick look.maker

  pub up_leads : UpStep s t image rank newest at → ClockIs → EachLookIs → SentIs → b.log (log_after s image (newest ∷ at) rank) → MakerAt b.maker (host_after s image rank at).stand.spot
      → KnownAt old (host_after s image rank at).stand.spot → KnownAt new (host_after s image rank (newest ∷ at)).stand.spot
  up_leads (Still same none) clock looks sends logged makers known =
      subst (λ (st : Stand). KnownAt new st.spot) (sym same) (spot_rests s rank b old new lead (host_after s image rank at).stand.spot known)
  up_leads (Made r) clock looks sends logged makers known =
      subst (KnownAt new) (sym after) (spot_leads s rank b old new lead host.leave host.stand.turn host.stand.more host.stand.spot r.made
      (λ chosen is. clock chosen is (time_of r.made) (r.told chosen is)) (λ look is. looks look (looked look is)) (λ sent rest st is. sends sent rest st is (says sent rest st is))
      (subst (λ (spot : Spot). b.log (log_at spot)) after logged) makers known)
    where
      host : Host
      host = host_after s image rank at

      after : (host_after s image rank (newest ∷ at)).stand.spot ≡ (after_spot s rank host.leave host.stand.turn host.stand.more host.stand.spot r.made).spot
      after = r.stand ∙ returned_spot s rank (joint_after s image at).time host r.made

      looked : (look : LookOf) → look_at rank host.stand.spot r.made ≡ Some look → look_of_rank s image rank newest at ≡ Some look
      looked look found =
          ap (option_and_then (λ (l : LookOf). if l.rank == rank then Some l else None)) (r.looks ∙ found)
          ∙ ap (λ b. if b then Some look else None) (eq-eqb look.rank rank (look_rank s rank look host.stand.spot r.made found))

      says : (sent : Sent) (rest : List Sent) (st : RunState) → host.stand.spot ≡ Saying sent rest st → said_in s image newest at ≡ Some (rank, sent)
      says sent rest st is = ap (λ (h : Happening). said_in s image h at) r.is ∙ ap (λ (spot : Spot). option_map (λ one. (rank, one)) (sent_next spot)) is

-- a look of a rank that is up is a call that returned
pub look_made : (s : Settings) (t : Timing) (image : ℕ → List ℕ) (rank : ℕ) (newest : Happening) (at : List Happening) (look : LookOf) → UpStep s t image rank newest at
    → look_of_rank s image rank newest at ≡ Some look → (r : ReturnOf s t image rank newest at) × (look_at rank (host_after s image rank at).stand.spot r.made ≡ Some look)
look_made s t image rank newest at look step found = by_step step
  where
    parts : (look_of s image newest at ≡ Some look) × ((look.rank == rank) ≡ true)
    parts = filtered (λ (l : LookOf). l.rank == rank) (look_of s image newest at) look found

    by_step : UpStep s t image rank newest at → (r : ReturnOf s t image rank newest at) × (look_at rank (host_after s image rank at).stand.spot r.made ≡ Some look)
    by_step (Still same none) = absurd (false≢true (sym (none look parts.0) ∙ parts.1))
    by_step (Made r) = (r, sym r.looks ∙ parts.0)

-- ## A node that keeps its pace

-- a packet that is so was said by a rank between two joints, at most so many ticks of its clock before the new one
pub record SaidLately (s : Settings) (image : ℕ → List ℕ) (from : ℕ) (Is : Sent → Type 0) (limit : ℕ) (old new : List Happening) : Type 0 where
  pub at : List Happening
  pub happening : Happening
  pub sent : Sent
  pub so : Is sent
  pub after : Before old at
  pub back : Before (happening ∷ at) new
  pub says : said_in s image happening at ≡ Some (from, sent)
  pub soon : clock_at s image new from ≤ clock_at s image at from + limit

module _ (s : Settings) (t : Timing) (image : ℕ → List ℕ) (turn from : ℕ) (older newer : List Happening) (first events : List Event) (laws : ClockLaws)
    (trace : Trace s t image older first newer events) (may : AllMayHappen s t image newer) (awake : StaysAwake s image turn from older newer)
    (makers : (at : List Happening) → Before older at → Before at newer → MakerAt (λ m. loop_of m ≡ t.loop_ms) (host_after s image from at).stand.spot)
    (some : 1 ≤ t.loop_ms) (speech : Speech s from) (speaks : KnownAt (speech_places speech) (host_after s image from older).stand.spot)
    (looking : (at : List Happening) (newest : Happening) (look : LookOf) → Before older at → Before (newest ∷ at) newer → look_of_rank s image from newest at ≡ Some look
    → speech.look look.tick look.maker) where
  abbrev beats : List Happening → Places
  beats at = beat_places s image from turn t.loop_ms older speech at

  read_in : (at : List Happening) → Before older at → Before at newer → now (log_after s image at from) ≤ clock_at s image at from
  read_in = read_at s t image from older newer first events laws trace may (λ at since back. (awake at since back).is)

  pub beats_known : (at : List Happening) → Before older at → Before at newer → KnownAt (beats at) (host_after s image from at).stand.spot
  beats_known at Itself back =
      beats_first s image from turn t.loop_ms older speech some (host_after s image from older).stand.spot (read_in older Itself back) (always_sound s image from older) speaks
  beats_known (newest ∷ at) (Later same since) back =
      up_leads s t image from newest at (beat_besides s image from turn t.loop_ms older speech newest at) (beats at) (beats (newest ∷ at))
      (beat_leads s image from turn t.loop_ms older speech some newest at since)
      (up_step s t image from older newer first events laws trace may (λ h a b. (awake h a b).is) newest at since back)
      clock (λ look found. looking at newest look since back found) sends (ap is_live (awake (newest ∷ at) (Later newest since) back).is.up) (makers at since (before_tail back)) (beats_known at since (before_tail back))
    where
      here : IsAwake s image turn from at
      here = awake at since (before_tail back)

      clock : (chosen : Choice × RunState) → (host_after s image from at).stand.spot ≡ Looking chosen → (tick : ℕ) → tick ≡ clock_at s image at from → tick ≤ now chosen.1.log + turn
      clock chosen is tick told =
          let paced = here.turns in
          let same : now (log_after s image at from) ≡ now chosen.1.log = ap (λ (spot : Spot). now (log_at spot)) is in
          omega (arith, paced, same, told)

      sends : (sent : Sent) (rest : List Sent) (st : RunState) → (host_after s image from at).stand.spot ≡ Saying sent rest st → said_in s image newest at ≡ Some (from, sent)
          → (said_in s image newest at ≡ Some (from, sent)) × (now st.log ≤ clock_at s image at from)
      sends sent rest st is says =
          let read = read_in at since (before_tail back) in
          let same : now (log_after s image at from) ≡ now st.log = ap (λ (spot : Spot). now (log_at spot)) is in
          (says, omega (arith, read, same))

  pub said_lately : (at : List Happening) → Before older at → Before at newer → clock_at s image older from + beat_ticks t turn < clock_at s image at from
      → SaidLately s image from speech.is (beat_ticks t turn) older at
  said_lately at since back late = by_said lately.said
    where
      lately : Beats s image from turn t.loop_ms older speech at turn (log_after s image at from)
      lately = beats_at s image from turn t.loop_ms older speech some at (host_after s image from at).stand.spot (beats_known at since back)

      soon : clock_at s image at from ≤ lately.tick + beat_ticks t turn
      soon = let paced = (awake at since back).turns in let beat = lately.soon in omega (arith, paced, beat)

      by_said : WasSaid s image from turn t.loop_ms older speech at lately.tick → SaidLately s image from speech.is (beat_ticks t turn) older at
      by_said (inr early) = absurd (omega (arith, soon, early, late))
      by_said (inl it) =
          let after = it.late in
          record {
            at = it.at;
            happening = it.happening;
            sent = it.sent;
            so = it.so;
            after = it.after;
            back = it.back;
            says = it.says;
            soon = omega (arith, soon, after);
          }

-- nothing is asked of a view maker that has to say its Hellos
any_speech : (s : Settings) (from to : ℕ) (under : to < length s.nodes) (apart : to ≡ from → ⊥) (spot : Spot) → KnownAt (speech_places (hello_speech s from to under apart)) spot
any_speech s from to under apart (Receiving st) = tt
any_speech s from to under apart (Looking chosen) = tt
any_speech s from to under apart (Acting entry outs o rest st) = tt
any_speech s from to under apart (Polling poll sents st) = tt
any_speech s from to under apart (Saying sent rest st) = tt
any_speech s from to under apart (Parting end sent rest st) = tt
any_speech s from to under apart (Ended ran) = tt

-- so each other rank was said a Hello lately
pub hello_said : (s : Settings) (t : Timing) (image : ℕ → List ℕ) (turn from to : ℕ) (older newer : List Happening) (first events : List Event) (laws : ClockLaws)
    → Trace s t image older first newer events → AllMayHappen s t image newer → StaysAwake s image turn from older newer
    → ((at : List Happening) → Before older at → Before at newer → MakerAt (λ m. loop_of m ≡ t.loop_ms) (host_after s image from at).stand.spot)
    → (under : to < length s.nodes) (apart : to ≡ from → ⊥) → 1 ≤ t.loop_ms
    → (at : List Happening) → Before older at → Before at newer → clock_at s image older from + beat_ticks t turn < clock_at s image at from
    → SaidHello s image from to (beat_ticks t turn) older at
hello_said s t image turn from to older newer first events laws trace may awake makers under apart some at since back late =
    let it =
    said_lately s t image turn from older newer first events laws trace may awake makers some (hello_speech s from to under apart)
    (any_speech s from to under apart (host_after s image from older).stand.spot) (λ j newest look since' back' found. tt) at since back late in
    record {
      at = it.at;
      happening = it.happening;
      said = it.so.0;
      standing = it.so.1;
      after = it.after;
      back = it.back;
      says = it.says ∙ ap (λ (one : Sent). Some (from, one)) it.so.2;
      soon = it.soon;
    }
