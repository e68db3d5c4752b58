-- A running node that is up and keeps its pace says in time what it has to say at each beat.
use Rattle.std.proofs.Common.{◌≡◌, ◌⊎◌, inl, inr, ℕ, suc, zero, ◌+◌, ◌-◌, ◌*◌, ◌<◌, ◌≤◌, Bool, true, false, not, ◌||◌, ◌==◌, List, [], ◌∷◌, ◌++◌, length, filter, Option, None, Some, if◌then◌else◌, refl, sym, ◌∙◌, ap, subst, arith}
use Rattle.std.specs.Prelude.{nat_le, option_map}
use Rattle.std.specs.List.{range_with_len}
use Rattle.std.specs.Option.{option_map_or}
use Rattle.std.proofs.lemmas.Bool.{cases_eq, eqb-true, false≢true, leb-false}
use Rattle.std.proofs.lemmas.Option.{none-some, same_Some}
use Rattle.qn_base.specs.declared.ids.Said as ids
use Rattle.qn_base.specs.declared.ids.Standing.{Standing}
use Rattle.qn_model.specs.declared.configuration.Settings.{Settings}
use Rattle.qn_model.specs.declared.packets.Packet.{Packet}
use Rattle.qn_model.specs.declared.packets.Packet.TheVariants as packet
use Rattle.qn_model.specs.declared.packets.Sent.{Sent}
use Rattle.qn_model.specs.Log.{Line, now}
use Rattle.qn_model.specs.Moments.{Before, Itself, Later}
use Rattle.qn_model.specs.NodeOutputs.{with_entry}
use Rattle.qn_model.specs.Phases.{is_live, phase}
use Rattle.qn_model.specs.Wanted.{rank_of}
use Rattle.qn_member.specs.Announcing.{is_beat}
use Rattle.qn_member.specs.Naming.{NamingMaker}
use Rattle.qn_member.specs.NamingViews.{after_look, after_naming_hello_due, is_naming_hello_due, is_naming_news_due}
use Rattle.qn_live.specs.declared.words.Own.{Own}
use Rattle.qn_live.specs.Choosing.{told}
use Rattle.qn_live.specs.Greetings.{greeting_packet, hello_of, hellos_where, maker_begun, maker_where, others_from, said_after, to_each}
use Rattle.qn_joined.specs.Joints.{Happening}
use Rattle.qn_joined.specs.Stands.{Acting, Ended, Looking, Parting, Polling, Receiving, Saying, Spot, log_at}
use Rattle.qn_service.specs.Hellos.{said_in}
use Rattle.qn_service.specs.Serving.{clock_at}
use Rattle.qn_service.proofs.KeptLoops.{loop_of, look_keeps, told_keeps}
use Rattle.qn_service.proofs.Sound.{IsSound, begun_last, due_last, looked_beat, sound_places}
use Rattle.qn_service.proofs.TurnSteps.{Besides, KnownAt, MakerIs, Places, StepsLead}

-- ## What a turn is to send

-- a packet to a rank is a Hello of another one
abbrev pub IsHello : ℕ → ℕ → Sent → Type 0
IsHello from to sent = (said : ids.Said) × (standing : Standing) × (sent ≡ record { to = rank_of to; packet = packet.Heard (rank_of from) said standing })

-- one of these packets is so
abbrev pub HasSaid : (Sent → Type 0) → List Sent → Type 0
HasSaid Is [] = ⊥
HasSaid Is (sent ∷ rest) = Is sent ⊎ HasSaid Is rest

-- What a node has to say at each beat: which packet is so; what its view maker is while it has to say that, by its looks.
pub record Speech (s : Settings) (from : ℕ) : Type 1 where
  pub is : Sent → Type 0
  pub has : Option NamingMaker → Type 0
  pub look : ℕ → NamingMaker → Type 0
  pub looked : (tick : ℕ) (m : NamingMaker) → look tick m → has (Some (after_look tick m))
  pub due : (tick : ℕ) (m : NamingMaker) → has (Some m) → has (Some (after_naming_hello_due tick m))
  pub begun : (loop_ms : ℕ) (own : Own) → has None → has (Some (maker_begun s from loop_ms own))
  pub sends : (m : NamingMaker) → has (Some m) → HasSaid is (hellos_where true s from (Some m))

-- what is said in one of two parts is said in both
pub said_before : (Is : Sent → Type 0) (front behind : List Sent) → HasSaid Is front → HasSaid Is (front ++ behind)
said_before Is [] behind has = absurd has
said_before Is (sent ∷ front) behind (inl so) = inl so
said_before Is (sent ∷ front) behind (inr has) = inr (said_before Is front behind has)

pub said_behind : (Is : Sent → Type 0) (front behind : List Sent) → HasSaid Is behind → HasSaid Is (front ++ behind)
said_behind Is [] behind has = has
said_behind Is (sent ∷ front) behind has = inr (said_behind Is front behind has)

-- a packet to each of a range is one to each rank of it that passes a test
greets_rank : (Is : Sent → Type 0) (p : Packet) (to : ℕ) (test : ℕ → Bool) (first count : ℕ) → Is (record { to = rank_of to; packet = p }) → test to ≡ true → first ≤ to → to < first + count
    → HasSaid Is (to_each p (filter test (range_with_len first count)))
greets_rank Is p to test first zero so passes above under = absurd (omega (arith, above, under))
greets_rank Is p to test first (suc count) so passes above under =
    by_first (cases_eq first to) (λ other. greets_rank Is p to test (first + 1) count so passes (omega (arith, above, other)) (omega (arith, under)))
  where
    rest : List ℕ
    rest = filter test (range_with_len (first + 1) count)

    here : (b : Bool) → b ≡ true → Is (record { to = rank_of first; packet = p }) → HasSaid Is (to_each p (if b then first ∷ rest else rest))
    here true is one = inl one
    here false is one = absurd (false≢true is)

    behind : (b : Bool) → HasSaid Is (to_each p rest) → HasSaid Is (to_each p (if b then first ∷ rest else rest))
    behind true has = inr has
    behind false has = has

    by_first : (first ≡ to) ⊎ (first ≡ to → ⊥) → ((first ≡ to → ⊥) → HasSaid Is (to_each p rest)) → HasSaid Is (to_each p (if test first then first ∷ rest else rest))
    by_first (inl same) later = here (test first) (ap test same ∙ passes) (subst (λ r. Is (record { to = rank_of r; packet = p })) (sym same) so)
    by_first (inr other) later = behind (test first) (later other)

-- the test of the other ranks
passes_other : (from to : ℕ) → (to ≡ from → ⊥) → not (to == from) ≡ true
passes_other from to apart = by_same (to == from) refl
  where
    by_same : (b : Bool) → (to == from) ≡ b → not b ≡ true
    by_same true same = absurd (apart (eqb-true to from same))
    by_same false other = refl

-- a packet to each other rank is one to each of them
pub greets_other : (s : Settings) (from to : ℕ) (Is : Sent → Type 0) (p : Packet) → to < length s.nodes → (to ≡ from → ⊥) → Is (record { to = rank_of to; packet = p })
    → HasSaid Is (to_each p (others_from s from 0))
greets_other s from to Is p under apart so =
    greets_rank Is p to (λ rank. not (rank == from)) 0 (length s.nodes - 0) so (passes_other from to apart) (omega arith) (omega (arith, under))

-- a Hello to another rank
abbrev pub hello_speech : (s : Settings) (from to : ℕ) → to < length s.nodes → (to ≡ from → ⊥) → Speech s from
hello_speech s from to under apart =
    record {
      is = IsHello from to;
      has = λ had. Unit {0};
      look = λ tick m. Unit {0};
      looked = λ tick m look. tt;
      due = λ tick m has. tt;
      begun = λ loop_ms own has. tt;
      sends = λ m has.
          said_before (IsHello from to) (to_each (greeting_packet from (hello_of m)) (others_from s from 0)) (said_after s from (Some m) (hello_of m))
          (greets_other s from to (IsHello from to) (greeting_packet from (hello_of m)) under apart (m.maker.says, m.stands, refl));
    }

-- what a view maker is while it has to say that
abbrev pub speech_places : {s : Settings} {from : ℕ} → Speech s from → Places
speech_places speech =
    record {
      between = λ log had. speech.has had;
      acting = λ log had. speech.has had;
      saying = λ sents log had. speech.has had;
      over = λ log. Unit {0};
    }

abbrev pub speech_besides : {s : Settings} {from : ℕ} → Speech s from → Besides
speech_besides {s = s} speech =
    record {
      clock = λ log tick p. Unit {0};
      look = speech.look;
      sent = λ sent log. Unit {0};
      log = λ log. is_live (phase s log) ≡ true;
      maker = λ m. Unit {0};
    }

-- what it has to say goes on
turn_has : {s : Settings} {from : ℕ} (speech : Speech s from) (tick : ℕ) (live : Bool) (begun : NamingMaker) (had : Option NamingMaker) → live ≡ true
    → (speech.has None → speech.has (Some begun)) → speech.has had → speech.has (option_map (after_naming_hello_due tick) (maker_where live begun had))
turn_has speech tick false begun had is begins has = absurd (false≢true is)
turn_has speech tick true begun (Some m) is begins has = speech.due tick m has
turn_has speech tick true begun None is begins has = speech.due tick begun (begins has)

pub speech_leads : (s : Settings) (from : ℕ) (speech : Speech s from) → StepsLead s from (speech_besides speech) (speech_places speech) (speech_places speech)
speech_leads s from speech =
    record {
      waits = λ log had known. known;
      takes = λ log had tick p entry clock order makers known. known;
      looks = λ log m tick own p clock looking order maker known. speech.looked tick (told tick own p m) looking;
      kept = λ m tick own p known. tt;
      acts = λ log had known. known;
      greets = λ log had loop_ms own live makers known.
          turn_has speech (now log) (is_live (phase s log)) (maker_begun s from loop_ms own) had live (speech.begun loop_ms own) known;
      polls = λ sents log had known. known;
      says = λ sent rest log had says known. known;
      said = λ log had known. known;
      stops = λ log had known. tt;
      parts = λ log had known. tt;
      ends = λ log known. tt;
    }

-- ## When it was said last

-- A packet that is so was said by a rank between two joints, at this tick of its clock or later.
pub record SaidSince (s : Settings) (image : ℕ → List ℕ) (from : ℕ) (Is : Sent → Type 0) (older newer : List Happening) (tick : ℕ) : Type 0 where
  pub at : List Happening
  pub happening : Happening
  pub sent : Sent
  pub so : Is sent
  pub after : Before older at
  pub back : Before (happening ∷ at) newer
  pub says : said_in s image happening at ≡ Some (from, sent)
  pub late : tick ≤ clock_at s image at from

module _ (s : Settings) (image : ℕ → List ℕ) (from turn loop_ms : ℕ) (older : List Happening) (speech : Speech s from) where
  -- it was said, or the tick is not after the old joint
  abbrev pub WasSaid : List Happening → ℕ → Type 0
  WasSaid newer tick = SaidSince s image from speech.is older newer tick ⊎ (tick ≤ clock_at s image older from)

  said_later : (newest : Happening) (newer : List Happening) (tick : ℕ) → WasSaid newer tick → WasSaid (newest ∷ newer) tick
  said_later newest newer tick (inl it) =
      inl (record { at = it.at; happening = it.happening; sent = it.sent; so = it.so; after = it.after; back = Later newest it.back; says = it.says; late = it.late })
  said_later newest newer tick (inr early) = inr early

  -- the last turn began less than half a loop after the tick of a Hello that was said, and so many turns
  pub record Beats (newer : List Happening) (turns : ℕ) (log : List Line) : Type 0 where
    pub tick : ℕ
    pub said : WasSaid newer tick
    pub soon : 2 * now log < 2 * tick + loop_ms + 2 * turns

  -- the last Hello of the beat was said
  abbrev pub LastSaid : List Happening → Option NamingMaker → Type 0
  LastSaid newer had = (m : NamingMaker) (tick : ℕ) → had ≡ Some m → m.maker.last_hello ≡ Some tick → WasSaid newer tick

  -- a Hello of this turn is still to be said, or it has been said, or none was due
  pub data Pending (newer : List Happening) (sents : List Sent) (log : List Line) (had : Option NamingMaker) : Type 0 where
    Waits : HasSaid speech.is sents → ((m : NamingMaker) (tick : ℕ) → had ≡ Some m → m.maker.last_hello ≡ Some tick → tick ≡ now log) → Pending newer sents log had
    Rests : Beats newer 0 log → LastSaid newer had → Pending newer sents log had

  abbrev pub beat_places : List Happening → Places
  beat_places newer =
      record {
        between = λ log had. Beats newer 0 log × LastSaid newer had × speech.has had;
        acting = λ log had. Beats newer turn log × LastSaid newer had × speech.has had;
        saying = λ sents log had. Beats newer turn log × Pending newer sents log had × speech.has had;
        over = λ log. Beats newer turn log;
      }

  -- beside: the clock tells a tick at most a turn after the log; what is sent is said after the joint; the node is live
  abbrev pub beat_besides : Happening → List Happening → Besides
  beat_besides newest newer =
      record {
        clock = λ log tick p. tick ≤ now log + turn;
        look = speech.look;
        sent = λ sent log. (said_in s image newest newer ≡ Some (from, sent)) × (now log ≤ clock_at s image newer from);
        log = λ log. is_live (phase s log) ≡ true;
        maker = λ m. loop_of m ≡ loop_ms;
      }

  beats_later : (newest : Happening) (newer : List Happening) (turns : ℕ) (log : List Line) → Beats newer turns log → Beats (newest ∷ newer) turns log
  beats_later newest newer turns log beats = record { tick = beats.tick; said = said_later newest newer beats.tick beats.said; soon = beats.soon }

  -- fewer turns are at most as many
  beats_more : (newer : List Happening) (log : List Line) → Beats newer 0 log → Beats newer turn log
  beats_more newer log beats = let soon = beats.soon in record { tick = beats.tick; said = beats.said; soon = omega (arith, soon) }

  last_later : (newest : Happening) (newer : List Happening) (had : Option NamingMaker) → LastSaid newer had → LastSaid (newest ∷ newer) had
  last_later newest newer had last m tick is said = said_later newest newer tick (last m tick is said)

  -- a turn begins
  turn_begins : (newer : List Happening) (log later : List Line) → now later ≤ now log + turn → Beats newer 0 log → Beats newer turn later
  turn_begins newer log later order beats = let soon = beats.soon in record { tick = beats.tick; said = beats.said; soon = omega (arith, soon, order) }

  look_last : (newer : List Happening) (tick : ℕ) (own : Own) (p : Option Packet) (m : NamingMaker) → LastSaid newer (Some m) → LastSaid newer (Some (after_look tick (told tick own p m)))
  look_last newer tick own p m last n at is said =
      last m at refl (sym (looked_beat tick own p m).last ∙ ap (λ (k : NamingMaker). k.maker.last_hello) (same_Some (after_look tick (told tick own p m)) n is) ∙ said)

  -- ## Greetings

  module _ (some : 1 ≤ loop_ms) where
    -- a Hello of the beat is due
    beat_waits : (newer : List Happening) (log : List Line) (m : NamingMaker) → is_beat (now log) m.maker ≡ true
        → (after_naming_hello_due (now log) m).maker.last_hello ≡ Some (now log) → speech.has (Some m)
        → Pending newer (hellos_where (is_naming_hello_due (now log) m) s from (Some (after_naming_hello_due (now log) m))) log (Some (after_naming_hello_due (now log) m))
    beat_waits newer log m beat last has =
        Waits (subst (λ due. HasSaid speech.is (hellos_where due s from (Some (after_naming_hello_due (now log) m)))) (sym (ap (λ b. b || is_naming_news_due (now log) m) beat))
        (speech.sends (after_naming_hello_due (now log) m) (speech.due (now log) m has)))
        (λ n tick is said. same_Some tick (now log) (sym said ∙ ap (λ (k : NamingMaker). k.maker.last_hello) (sym (same_Some (after_naming_hello_due (now log) m) n is)) ∙ last))

    -- none is due: the last one was said
    beat_rests : (newer : List Happening) (sents : List Sent) (log : List Line) (m after : NamingMaker) (last : Option ℕ) → m.maker.last_hello ≡ last → is_beat (now log) m.maker ≡ false
        → loop_of m ≡ loop_ms → after.maker.last_hello ≡ m.maker.last_hello → LastSaid newer (Some m) → Pending newer sents log (Some after)
    beat_rests newer sents log m after None none calm loops kept said =
        absurd (false≢true (sym calm ∙ ap (λ o. option_map_or (λ last. nat_le (2 * last + m.maker.loop_ms) (2 * now log)) o true) none))
    beat_rests newer sents log m after (Some tick) last calm loops kept said =
        Rests (record { tick = tick; said = said m tick refl last; soon = soon })
        (λ n at is told. said m at refl (sym kept ∙ ap (λ (k : NamingMaker). k.maker.last_hello) (same_Some after n is) ∙ told))
      where
        early : 2 * now log < 2 * tick + m.maker.loop_ms
        early = leb-false (2 * tick + m.maker.loop_ms) (2 * now log)
            (sym (ap (λ o. option_map_or (λ at. nat_le (2 * at + m.maker.loop_ms) (2 * now log)) o true) last) ∙ calm)

        soon : 2 * now log < 2 * tick + loop_ms + 2 * 0
        soon = omega (arith, early, loops)

    left_pends : (newer : List Happening) (log : List Line) (m : NamingMaker) → (is_beat (now log) m.maker ≡ false → loop_of m ≡ loop_ms) → LastSaid newer (Some m)
        → speech.has (Some m) → Pending newer (hellos_where (is_naming_hello_due (now log) m) s from (Some (after_naming_hello_due (now log) m))) log (Some (after_naming_hello_due (now log) m))
    left_pends newer log m loops last has = by_beat (due_last (now log) m)
      where
        by_beat : ((is_beat (now log) m.maker ≡ true) × ((after_naming_hello_due (now log) m).maker.last_hello ≡ Some (now log)))
            ⊎ ((is_beat (now log) m.maker ≡ false) × ((after_naming_hello_due (now log) m).maker.last_hello ≡ m.maker.last_hello))
            → Pending newer (hellos_where (is_naming_hello_due (now log) m) s from (Some (after_naming_hello_due (now log) m))) log (Some (after_naming_hello_due (now log) m))
        by_beat (inl beat) = beat_waits newer log m beat.0 beat.1 has
        by_beat (inr calm) =
            beat_rests newer (hellos_where (is_naming_hello_due (now log) m) s from (Some (after_naming_hello_due (now log) m))) log m (after_naming_hello_due (now log) m)
            m.maker.last_hello refl calm.0 (loops calm.0) calm.1 last

    -- what a turn that performed its outputs sends
    turn_pends : (newer : List Happening) (log : List Line) (live : Bool) (begun : NamingMaker) (had : Option NamingMaker) → live ≡ true → begun.maker.last_hello ≡ None
        → (speech.has None → speech.has (Some begun)) → MakerIs (λ m. loop_of m ≡ loop_ms) had → LastSaid newer had → speech.has had
        → Pending newer (hellos_where (option_map_or (is_naming_hello_due (now log)) (maker_where live begun had) false) s from
        (option_map (after_naming_hello_due (now log)) (maker_where live begun had))) log (option_map (after_naming_hello_due (now log)) (maker_where live begun had))
    turn_pends newer log false begun had is first begins loops last has = absurd (false≢true is)
    turn_pends newer log true begun (Some m) is first begins loops last has = left_pends newer log m (λ calm. loops m refl) last has
    turn_pends newer log true begun None is first begins loops last has =
        left_pends newer log begun
        (λ calm. absurd (false≢true (sym calm ∙ ap (λ o. option_map_or (λ at. nat_le (2 * at + begun.maker.loop_ms) (2 * now log)) o true) first)))
        (λ m tick same said. absurd (none-some tick (sym first ∙ ap (λ (k : NamingMaker). k.maker.last_hello) (same_Some begun m same) ∙ said)))
        (begins has)

    -- one greeting was said
    one_said : (newest : Happening) (newer : List Happening) (sent : Sent) (rest : List Sent) (log : List Line) (had : Option NamingMaker)
        → (said_in s image newest newer ≡ Some (from, sent)) × (now log ≤ clock_at s image newer from)
        → Before older newer → Pending newer (sent ∷ rest) log had → Pending (newest ∷ newer) rest log had
    one_said newest newer sent rest log had says since (Rests beats last) = Rests (beats_later newest newer 0 log beats) (last_later newest newer had last)
    one_said newest newer sent rest log had says since (Waits (inr more) last) = Waits more last
    one_said newest newer sent rest log had says since (Waits (inl so) last) =
        Rests (record { tick = now log; said = inl it; soon = loops })
        (λ m tick is said. inl (subst (SaidSince s image from speech.is older (newest ∷ newer)) (sym (last m tick is said)) it))
      where
        it : SaidSince s image from speech.is older (newest ∷ newer) (now log)
        it = record {
          at = newer;
          happening = newest;
          sent = sent;
          so = so;
          after = since;
          back = Itself;
          says = says.0;
          late = says.1;
        }

        loops : 2 * now log < 2 * now log + loop_ms + 2 * 0
        loops = omega (arith, some)

    pends_later : (newest : Happening) (newer : List Happening) (sents : List Sent) (log : List Line) (had : Option NamingMaker) → Pending newer sents log had
        → Pending (newest ∷ newer) sents log had
    pends_later newest newer sents log had (Waits hello last) = Waits hello last
    pends_later newest newer sents log had (Rests beats last) = Rests (beats_later newest newer 0 log beats) (last_later newest newer had last)

    none_pends : (newer : List Happening) (log : List Line) (had : Option NamingMaker) → Pending newer [] log had → Beats newer 0 log × LastSaid newer had
    none_pends newer log had (Waits hello last) = absurd hello
    none_pends newer log had (Rests beats last) = (beats, last)

    pub beat_leads : (newest : Happening) (newer : List Happening) → Before older newer
        → StepsLead s from (beat_besides newest newer) (beat_places newer) (beat_places (newest ∷ newer))
    unfolding with_entry
    beat_leads newest newer since =
        record {
          waits = λ log had known. (beats_later newest newer 0 log known.0, last_later newest newer had known.1, known.2);
          takes = λ log had tick p entry clock order makers known. (
            turn_begins (newest ∷ newer) log (with_entry s from log (record { tick = tick; what = entry })) clock (beats_later newest newer 0 log known.0),
            last_later newest newer had known.1,
            known.2,
          );
          looks = λ log m tick own p clock looking order maker known. (
            turn_begins (newest ∷ newer) log _ clock (beats_later newest newer 0 log known.0),
            look_last (newest ∷ newer) tick own p m (last_later newest newer (Some m) known.1),
            speech.looked tick (told tick own p m) looking,
          );
          kept = λ m tick own p loops. look_keeps tick (told tick own p m) ∙ told_keeps tick own p m ∙ loops;
          acts = λ log had known. (beats_later newest newer turn log known.0, last_later newest newer had known.1, known.2);
          greets = λ log had loop own live makers known. (
            known.0,
            turn_pends (newest ∷ newer) log (is_live (phase s log)) (maker_begun s from loop own) had live (begun_last s from loop own) (speech.begun loop own) makers known.1 known.2,
            turn_has speech (now log) (is_live (phase s log)) (maker_begun s from loop own) had live (speech.begun loop own) known.2,
          );
          polls = λ sents log had known. (beats_later newest newer turn log known.0, pends_later newest newer sents log had known.1, known.2);
          says = λ sent rest log had says known. (beats_later newest newer turn log known.0, one_said newest newer sent rest log had says since known.1, known.2);
          said = λ log had known. let calm = none_pends (newest ∷ newer) log had known.1 in (calm.0, calm.1, known.2);
          stops = λ log had known. beats_more (newest ∷ newer) log known.0;
          parts = λ log had known. known.0;
          ends = λ log known. beats_later newest newer turn log known;
        }

    -- at each place the last turn began soon after a Hello
    pub beats_at : (newer : List Happening) (spot : Spot) → KnownAt (beat_places newer) spot → Beats newer turn (log_at spot)
    beats_at newer (Receiving st) known = beats_more newer st.log known.0
    beats_at newer (Looking chosen) known = beats_more newer chosen.1.log known.0
    beats_at newer (Acting entry outs o rest st) known = known.0
    beats_at newer (Polling poll sents st) known = known.0
    beats_at newer (Saying sent rest st) known = known.0
    beats_at newer (Parting end sent rest st) known = known
    beats_at newer (Ended ran) known = known

    -- at the old joint nothing was said since
    pub beats_first : (spot : Spot) → now (log_at spot) ≤ clock_at s image older from → KnownAt (sound_places s) spot → KnownAt (speech_places speech) spot
        → KnownAt (beat_places older) spot
    beats_first spot order sound speaks = by_spot spot order sound speaks
      where
        early : (turns : ℕ) (log : List Line) → now log ≤ clock_at s image older from → Beats older turns log
        early turns log before = record { tick = clock_at s image older from; said = inr (omega arith); soon = omega (arith, before, some) }

        last : (log : List Line) (had : Option NamingMaker) → now log ≤ clock_at s image older from → MakerIs (IsSound s log) had → LastSaid older had
        last log had before known m tick is said = inr (let was = (known m is).said tick said in omega (arith, was, before))

        by_spot : (at : Spot) → now (log_at at) ≤ clock_at s image older from → KnownAt (sound_places s) at → KnownAt (speech_places speech) at → KnownAt (beat_places older) at
        by_spot (Receiving st) before known has = (early 0 st.log before, last st.log st.maker before known, has)
        by_spot (Looking chosen) before known has = (early 0 chosen.1.log before, last chosen.1.log chosen.1.maker before known, has)
        by_spot (Acting entry outs o rest st) before known has = (early turn st.log before, last st.log st.maker before known, has)
        by_spot (Polling poll sents st) before known has = (early turn st.log before, Rests (early 0 st.log before) (last st.log st.maker before known), has)
        by_spot (Saying sent rest st) before known has = (early turn st.log before, Rests (early 0 st.log before) (last st.log st.maker before known), has)
        by_spot (Parting end sent rest st) before known has = early turn st.log before
        by_spot (Ended ran) before known has = early turn ran.log before
