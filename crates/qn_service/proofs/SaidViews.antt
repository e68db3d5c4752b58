-- A running node whose looks leave it announcing a view says that to each other one at each beat.
use Rattle.std.proofs.Common.{◌≡◌, ℕ, ◌<◌, Bool, true, false, ◌==◌, List, ◌∷◌, ◌++◌, Option, None, Some, length, if◌then◌else◌, refl, sym, ◌∙◌, ap, subst}
use Rattle.std.proofs.lemmas.Bool.{false≢true}
use Rattle.qn_base.specs.declared.ids.View.{View}
use Rattle.qn_model.specs.declared.configuration.Settings.{Settings}
use Rattle.qn_model.specs.declared.packets.Packet.TheVariants as packet
use Rattle.qn_model.specs.declared.packets.Sent.{Sent}
use Rattle.qn_model.specs.declared.times.Timing.{Timing}
use Rattle.qn_model.specs.Moments.{Itself}
use Rattle.qn_model.specs.Phases.{is_live, phase}
use Rattle.qn_model.specs.Wanted.{rank_of}
use Rattle.qn_member.specs.Announcing.{is_beat}
use Rattle.qn_member.specs.Naming.{NamingMaker}
use Rattle.qn_member.specs.NamingViews.{after_look, after_naming_hello_due, is_naming_hello_due, view_announced}
use Rattle.qn_live.specs.Greetings.{announcements, greeting_packet, hello_of, others_from, to_each}
use Rattle.qn_safety.specs.Earlier.{before_joined}
use Rattle.qn_joined.specs.Joints.{Happening, Host, joint_after}
use Rattle.qn_joined.specs.Moves.{EachIsOneEvent}
use Rattle.qn_joined.specs.Stands.{Spot, log_at}
use Rattle.qn_joined.specs.WorldOf.{EveryJointHasAWorld, HasWorld}
use Rattle.qn_service.specs.Announced.{ViewsAreAnnounced}
use Rattle.qn_service.specs.Hellos.{beat_ticks}
use Rattle.qn_service.specs.Looks.{LookOf, look_of}
use Rattle.qn_service.specs.NextLooks.{look_of_rank}
use Rattle.qn_service.proofs.Beats.{HasSaid, Speech, greets_other, said_behind, speech_besides, speech_leads, speech_places}
use Rattle.qn_service.proofs.ByTheImage.{HeadersReadBack}
use Rattle.qn_service.proofs.JointClocks.{ClockLaws}
use Rattle.qn_service.proofs.Made.{filtered}
use Rattle.qn_service.proofs.NearHellos.{makers_loop, old_world}
use Rattle.qn_service.proofs.RankSteps.{Anew, Calls, Stands, StepTo, host_after, returned_spot, step_to}
use Rattle.qn_service.proofs.SaidHellos.{SaidLately, said_lately, some_loop}
use Rattle.qn_service.proofs.Tracing.{Traced, traced}
use Rattle.qn_service.proofs.TurnSteps.{KnownAt, any_maker, spot_looked}

-- ## What is to be said

-- a packet announces a view of one rank to another one
abbrev pub IsAnnouncement : ℕ → ℕ → View → Sent → Type 0
IsAnnouncement from to view sent = sent ≡ record { to = rank_of to; packet = packet.Announce (rank_of from) view }

-- a view maker announces it
abbrev pub Announces : View → Option NamingMaker → Type 0
Announces view None = ⊥
Announces view (Some m) = view_announced m ≡ Some view

pub due_announces : (tick : ℕ) (m : NamingMaker) → view_announced (after_naming_hello_due tick m) ≡ view_announced m
due_announces tick m = by_due (is_naming_hello_due tick m)
  where
    by_due : (b : Bool) → view_announced (if b
        then record m {
          maker = record m.maker {
            last_hello = if is_beat tick m.maker then Some tick else m.maker.last_hello;
            told = Some (record { tick = tick; said = m.maker.says; view = view_announced m });
          };
          told_stands = m.stands;
        }
        else m) ≡ view_announced m
    by_due true = refl
    by_due false = refl

abbrev pub view_speech : (s : Settings) (from to : ℕ) (view : View) → to < length s.nodes → (to ≡ from → ⊥) → Speech s from
view_speech s from to view under apart =
    record {
      is = IsAnnouncement from to view;
      has = Announces view;
      look = λ tick m. view_announced (after_look tick m) ≡ Some view;
      looked = λ tick m look. look;
      due = λ tick m has. due_announces tick m ∙ has;
      begun = λ loop_ms own has. absurd has;
      sends = λ m has.
          said_behind (IsAnnouncement from to view) (to_each (greeting_packet from (hello_of m)) (others_from s from 0)) (announcements s from (view_announced m))
          (subst (λ (o : Option View). HasSaid (IsAnnouncement from to view) (announcements s from o)) (sym has)
          (greets_other s from to (IsAnnouncement from to view) (packet.Announce (rank_of from) view) under apart refl));
    }

-- after a look that leaves it so
pub speaks_after : (s : Settings) (image : ℕ → List ℕ) (from : ℕ) (speech : Speech s from) (first : Happening) (earlier : List Happening) (look : LookOf)
    → look_of_rank s image from first earlier ≡ Some look → speech.look look.tick look.maker
    → is_live (phase s (log_at (host_after s image from (first ∷ earlier)).stand.spot)) ≡ true
    → KnownAt (speech_places speech) (host_after s image from (first ∷ earlier)).stand.spot
speaks_after s image from speech first earlier look found leaves live = by_step (step_to s image from first earlier)
  where
    parts : (look_of s image first earlier ≡ Some look) × ((look.rank == from) ≡ true)
    parts = filtered (λ (l : LookOf). l.rank == from) (look_of s image first earlier) look found

    host : Host
    host = host_after s image from earlier

    by_step : StepTo s image from first earlier → KnownAt (speech_places speech) (host_after s image from (first ∷ earlier)).stand.spot
    by_step (Stands same none) = absurd (false≢true (sym (none look parts.0) ∙ parts.1))
    by_step (Anew clean polls turns spot none) = absurd (false≢true (sym (none look parts.0) ∙ parts.1))
    by_step (Calls c) =
        let there = c.stand ∙ returned_spot s from (joint_after s image earlier).time host c.made in
        subst (KnownAt (speech_places speech)) (sym there)
        (spot_looked s from (speech_besides speech) (speech_places speech) (speech_places speech) (speech_leads s from speech) look host.leave host.stand.turn host.stand.more host.stand.spot c.made
        (sym c.looks ∙ parts.0) (any_maker host.stand.spot) (subst (λ (spot : Spot). is_live (phase s (log_at spot)) ≡ true) there live)
        (λ log entry. speech.looked look.tick look.maker leaves))

pub views_are_announced : (s : Settings) (t : Timing) → EveryJointHasAWorld s t → EachIsOneEvent s t → HeadersReadBack → ClockLaws → ViewsAreAnnounced s t
views_are_announced s t worlds one back laws image turn from to view newer earlier first look joined configured under apart awake found leaves looks late =
    record { at = it.at; happening = it.happening; after = it.after; back = it.back; says = it.says ∙ ap (λ (sent : Sent). Some (from, sent)) it.so; soon = it.soon }
  where
    has : HasWorld s t (joint_after s image (first ∷ earlier))
    has = old_world s t worlds back image newer (first ∷ earlier) joined

    tracing : Traced s t image (first ∷ earlier) has.events (newer ++ first ∷ earlier)
    tracing = traced s t one joined.fits image newer (first ∷ earlier) joined.may has

    it : SaidLately s image from (IsAnnouncement from to view) (beat_ticks t turn) (first ∷ earlier) (newer ++ first ∷ earlier)
    it =
        said_lately s t image turn from (first ∷ earlier) (newer ++ first ∷ earlier) has.events tracing.events laws tracing.trace joined.may awake
        (makers_loop s t worlds back image newer (first ∷ earlier) joined turn from awake) (some_loop t joined.fits.times) (view_speech s from to view under apart)
        (speaks_after s image from (view_speech s from to view under apart) first earlier look found leaves
        (ap is_live (awake (first ∷ earlier) Itself (before_joined newer (first ∷ earlier))).is.up))
        (λ at newest seen since until found'. looks at newest seen since until found') (newer ++ first ∷ earlier) (before_joined newer (first ∷ earlier)) Itself late
