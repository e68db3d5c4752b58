-- A joined run in which each look of a node hears the other one: the premises of what nodes say and hear are met.
use Rattle.std.proofs.Common.{◌≡◌, ◌≤◌, ℕ, Bool, true, false, not, ◌&&◌, ◌==◌, ◌+◌, ◌*◌, List, [], ◌∷◌, Option, None, Some, is_some, refl, sym, ◌∙◌, ap, arith}
use Rattle.std.specs.Prelude.{nat_le, option_map}
use Rattle.std.specs.Option.{option_map_or}
use Rattle.std.proofs.lemmas.Bool.{and_parts, false≢true, leb-true, true≢false}
use Rattle.qn_base.specs.declared.calls.Call.TheVariants as call
use Rattle.qn_base.specs.declared.calls.Received.TheVariants as received
use Rattle.qn_model.specs.declared.disk.Message.TheVariants as message
use Rattle.qn_model.specs.declared.life.Phase.{Phase}
use Rattle.qn_model.specs.declared.life.Phase.TheVariants.{Booting, Up, Leaving, Dying, Gone}
use Rattle.qn_model.specs.declared.packets.Packet.{Packet}
use Rattle.qn_model.specs.declared.packets.Packet.TheVariants as packet
use Rattle.qn_model.specs.declared.packets.Sent.{Sent}
use Rattle.qn_model.specs.lemmas.TwoNodes.{two_nodes}
use Rattle.qn_model.specs.Log.{Line, now}
use Rattle.qn_model.specs.Moments.{Before, Itself, Later, tick_of}
use Rattle.qn_model.specs.Phases.{is_up, phase}
use Rattle.qn_model.specs.Sectors.{anonymous, mail_bytes, mail_place}
use Rattle.qn_model.specs.Wanted.{rank_of}
use Rattle.qn_wire.specs.Packets.{packet_bytes}
use Rattle.qn_wire.specs.Reading.{packet_of}
use Rattle.qn_joined.specs.Joints.{Happening, Host, Lands, Passes, Returns, joint_after}
use Rattle.qn_joined.specs.Stands.{log_at}
use Rattle.qn_service.specs.Hellos.{HellosAreMet, IsAwake, IsHeardBy, IsNear, Says, packet_to_hear, said_in}
use Rattle.qn_service.specs.Looks.{LookOf}
use Rattle.qn_service.specs.NextLooks.{look_of_rank}
use Rattle.qn_service.specs.Serving.{clock_at}
use Rattle.qn_service.proofs.NearRuns.{hears_both, hello, knows_names, near_1, near_2, near_3, near_4, near_5, near_6, near_7, near_8, near_9, near_10, near_11, near_12, near_13, near_14, near_15, near_16, near_17, near_18, near_19, near_20, near_21, near_22, near_23, near_24, near_25, near_26, near_27, near_28, near_29, near_30, near_31, near_32, near_fits, near_image, near_is_new, near_may, near_ticks, up_1}
use Rattle.qn_service.proofs.Rows.{row_steps}
use Rattle.qn_service.proofs.ServingRows.{EachAfter, Here, Next, each_after}

-- ## Each joint

abbrev is_awake : Host → Bool
is_awake host =
    host.on && is_up (phase two_nodes (log_at host.stand.spot)) && nat_le (tick_of host.clock) (now (log_at host.stand.spot) + 75)

abbrev is_no_announcement : Option Packet → Bool
is_no_announcement (Some (packet.Announce from view)) = false
is_no_announcement (Some (packet.Hello from)) = true
is_no_announcement (Some (packet.Heard from said standing)) = true
is_no_announcement (Some (packet.Ask ask)) = true
is_no_announcement (Some (packet.Tell tell)) = true
is_no_announcement (Some (packet.Vote agrees)) = true
is_no_announcement None = true

-- both nodes are awake, and no announcement comes
abbrev is_calm : List Happening → Bool
is_calm h =
    is_awake ((joint_after two_nodes near_image h).hosts 0) && is_awake ((joint_after two_nodes near_image h).hosts 1)
    && is_no_announcement (packet_to_hear two_nodes near_image 1 h)

-- the first node says nothing by what happened last
abbrev is_silent : List Happening → Bool
is_silent [] = true
is_silent (newest ∷ earlier) = option_map_or (λ said. not (said.0 == 0)) (said_in two_nodes near_image newest earlier) true

abbrev Words : List Happening → Type 0
Words [] = Unit {0}
Words (newest ∷ earlier) =
    (p : Packet) → Says two_nodes near_image 0 1 p newest earlier → IsHeardBy two_nodes near_image 1 p (clock_at two_nodes near_image earlier 1 + 0) (newest ∷ earlier) near_32

record IsRow (h : List Happening) : Type 0 where
  calm : is_calm h ≡ true
  words : Words h

silent_words : (h : List Happening) → is_silent h ≡ true → Words h
silent_words [] silent = tt
silent_words (newest ∷ earlier) silent = λ p says.
    absurd (false≢true (sym (ap (λ o. option_map_or (λ said. not (said.0 == 0)) o true) says) ∙ silent))

is_row : (h : List Happening) → (is_calm h && is_silent h) ≡ true → IsRow h
is_row h both = let parts = and_parts (is_calm h) (is_silent h) both in record { calm = parts.0; words = silent_words h parts.1 }

some_look : (o : Option LookOf) → is_some o ≡ true → (look : LookOf) × (o ≡ Some look)
some_look (Some look) is = (look, refl)
some_look None is = absurd (false≢true is)

row_0 : IsRow up_1
unfolding row_steps packet_of
row_0 = is_row up_1 refl

row_1 : IsRow near_1
unfolding row_steps packet_of
row_1 = is_row near_1 refl

row_2 : IsRow near_2
unfolding row_steps packet_of
row_2 = is_row near_2 refl

row_3 : IsRow near_3
unfolding row_steps packet_of
row_3 = is_row near_3 refl

calm_4 : is_calm near_4 ≡ true
unfolding row_steps packet_of
calm_4 = refl

said_4 : said_in two_nodes near_image (Returns 0 (call.Send (record { 0 = 1 }) (packet_bytes (hello)) true)) near_3 ≡ Some (0, record { to = rank_of 1; packet = hello })
unfolding row_steps packet_of
said_4 = refl

looks_4 : is_some (look_of_rank two_nodes near_image 1 (Returns 1 (call.Now 75)) near_5) ≡ true
unfolding row_steps packet_of
looks_4 = refl

waits_4 : packet_to_hear two_nodes near_image 1 near_5 ≡ Some hello
unfolding row_steps packet_of
waits_4 = refl

soon_4 : clock_at two_nodes near_image near_5 1 ≤ clock_at two_nodes near_image near_3 1 + 0
unfolding row_steps packet_of
soon_4 = leb-true _ _ refl

words_4 : Words near_4
words_4 p says =
    let look = some_look (look_of_rank two_nodes near_image 1 (Returns 1 (call.Now 75)) near_5) looks_4 in
    record {
      at = near_5;
      happening = Returns 1 (call.Now 75);
      look = look.0;
      after = Later _ Itself;
      back = Later _ (Later _ (Later _ (Later _ (Later _ (Later _ (Later _ (Later _ (Later _ (Later _ (Later _ (Later _ (Later _ (Later _ (Later _ (Later _ (Later _ (Later _ (Later _ (Later _ (Later _ (Later _ (Later _ (Later _ (Later _ (Later _ Itself)))))))))))))))))))))))));
      is = look.1;
      hears = waits_4 ∙ ap (λ (o : Option (ℕ × Sent)). option_map (λ (said : ℕ × Sent). said.1.packet) o) (sym said_4 ∙ says);
      soon = soon_4;
    }

row_4 : IsRow near_4
row_4 = record { calm = calm_4; words = words_4 }

row_5 : IsRow near_5
unfolding row_steps packet_of
row_5 = is_row near_5 refl

row_6 : IsRow near_6
unfolding row_steps packet_of
row_6 = is_row near_6 refl

row_7 : IsRow near_7
unfolding row_steps packet_of
row_7 = is_row near_7 refl

row_8 : IsRow near_8
unfolding row_steps packet_of
row_8 = is_row near_8 refl

row_9 : IsRow near_9
unfolding row_steps packet_of
row_9 = is_row near_9 refl

row_10 : IsRow near_10
unfolding row_steps packet_of
row_10 = is_row near_10 refl

row_11 : IsRow near_11
unfolding row_steps packet_of
row_11 = is_row near_11 refl

row_12 : IsRow near_12
unfolding row_steps packet_of
row_12 = is_row near_12 refl

calm_13 : is_calm near_13 ≡ true
unfolding row_steps packet_of
calm_13 = refl

said_13 : said_in two_nodes near_image (Returns 0 (call.Send (record { 0 = 1 }) (packet_bytes (hello)) true)) near_12 ≡ Some (0, record { to = rank_of 1; packet = hello })
unfolding row_steps packet_of
said_13 = refl

looks_13 : is_some (look_of_rank two_nodes near_image 1 (Returns 1 (call.Now 150)) near_16) ≡ true
unfolding row_steps packet_of
looks_13 = refl

waits_13 : packet_to_hear two_nodes near_image 1 near_16 ≡ Some hello
unfolding row_steps packet_of
waits_13 = refl

soon_13 : clock_at two_nodes near_image near_16 1 ≤ clock_at two_nodes near_image near_12 1 + 0
unfolding row_steps packet_of
soon_13 = leb-true _ _ refl

words_13 : Words near_13
words_13 p says =
    let look = some_look (look_of_rank two_nodes near_image 1 (Returns 1 (call.Now 150)) near_16) looks_13 in
    record {
      at = near_16;
      happening = Returns 1 (call.Now 150);
      look = look.0;
      after = Later _ (Later _ (Later _ Itself));
      back = Later _ (Later _ (Later _ (Later _ (Later _ (Later _ (Later _ (Later _ (Later _ (Later _ (Later _ (Later _ (Later _ (Later _ (Later _ Itself))))))))))))));
      is = look.1;
      hears = waits_13 ∙ ap (λ (o : Option (ℕ × Sent)). option_map (λ (said : ℕ × Sent). said.1.packet) o) (sym said_13 ∙ says);
      soon = soon_13;
    }

row_13 : IsRow near_13
row_13 = record { calm = calm_13; words = words_13 }

row_14 : IsRow near_14
unfolding row_steps packet_of
row_14 = is_row near_14 refl

row_15 : IsRow near_15
unfolding row_steps packet_of
row_15 = is_row near_15 refl

row_16 : IsRow near_16
unfolding row_steps packet_of
row_16 = is_row near_16 refl

row_17 : IsRow near_17
unfolding row_steps packet_of
row_17 = is_row near_17 refl

row_18 : IsRow near_18
unfolding row_steps packet_of
row_18 = is_row near_18 refl

row_19 : IsRow near_19
unfolding row_steps packet_of
row_19 = is_row near_19 refl

row_20 : IsRow near_20
unfolding row_steps packet_of
row_20 = is_row near_20 refl

row_21 : IsRow near_21
unfolding row_steps packet_of
row_21 = is_row near_21 refl

row_22 : IsRow near_22
unfolding row_steps packet_of
row_22 = is_row near_22 refl

row_23 : IsRow near_23
unfolding row_steps packet_of
row_23 = is_row near_23 refl

row_24 : IsRow near_24
unfolding row_steps packet_of
row_24 = is_row near_24 refl

row_25 : IsRow near_25
unfolding row_steps packet_of
row_25 = is_row near_25 refl

calm_26 : is_calm near_26 ≡ true
unfolding row_steps packet_of
calm_26 = refl

said_26 : said_in two_nodes near_image (Returns 0 (call.Send (record { 0 = 1 }) (packet_bytes (hello)) true)) near_25 ≡ Some (0, record { to = rank_of 1; packet = hello })
unfolding row_steps packet_of
said_26 = refl

looks_26 : is_some (look_of_rank two_nodes near_image 1 (Returns 1 (call.Now 225)) near_27) ≡ true
unfolding row_steps packet_of
looks_26 = refl

waits_26 : packet_to_hear two_nodes near_image 1 near_27 ≡ Some hello
unfolding row_steps packet_of
waits_26 = refl

soon_26 : clock_at two_nodes near_image near_27 1 ≤ clock_at two_nodes near_image near_25 1 + 0
unfolding row_steps packet_of
soon_26 = leb-true _ _ refl

words_26 : Words near_26
words_26 p says =
    let look = some_look (look_of_rank two_nodes near_image 1 (Returns 1 (call.Now 225)) near_27) looks_26 in
    record {
      at = near_27;
      happening = Returns 1 (call.Now 225);
      look = look.0;
      after = Later _ Itself;
      back = Later _ (Later _ (Later _ (Later _ Itself)));
      is = look.1;
      hears = waits_26 ∙ ap (λ (o : Option (ℕ × Sent)). option_map (λ (said : ℕ × Sent). said.1.packet) o) (sym said_26 ∙ says);
      soon = soon_26;
    }

row_26 : IsRow near_26
row_26 = record { calm = calm_26; words = words_26 }

row_27 : IsRow near_27
unfolding row_steps packet_of
row_27 = is_row near_27 refl

row_28 : IsRow near_28
unfolding row_steps packet_of
row_28 = is_row near_28 refl

row_29 : IsRow near_29
unfolding row_steps packet_of
row_29 = is_row near_29 refl

row_30 : IsRow near_30
unfolding row_steps packet_of
row_30 = is_row near_30 refl

row_31 : IsRow near_31
unfolding row_steps packet_of
row_31 = is_row near_31 refl

row_32 : IsRow near_32
unfolding row_steps packet_of
row_32 = is_row near_32 refl

rows : EachAfter IsRow up_1 near_32
rows = Next _ (Next _ (Next _ (Next _ (Next _ (Next _ (Next _ (Next _ (Next _ (Next _ (Next _ (Next _ (Next _ (Next _ (Next _ (Next _ (Next _ (Next _ (Next _ (Next _ (Next _ (Next _ (Next _ (Next _ (Next _ (Next _ (Next _ (Next _ (Next _ (Next _ (Next _ (Next _ (Here row_0) row_1) row_2) row_3) row_4) row_5) row_6) row_7) row_8) row_9) row_10) row_11) row_12) row_13) row_14) row_15) row_16) row_17) row_18) row_19) row_20) row_21) row_22) row_23) row_24) row_25) row_26) row_27) row_28) row_29) row_30) row_31) row_32

-- ## The premises

up_then : (log : List Line) → is_up (phase two_nodes log) ≡ true → phase two_nodes log ≡ Up
up_then log is = by_phase (phase two_nodes log) is
  where
    by_phase : (p : Phase) → is_up p ≡ true → p ≡ Up
    by_phase Up up = refl
    by_phase Booting up = absurd (false≢true up)
    by_phase Leaving up = absurd (false≢true up)
    by_phase Dying up = absurd (false≢true up)
    by_phase Gone up = absurd (false≢true up)

awake_is : (rank : ℕ) (h : List Happening) → is_awake ((joint_after two_nodes near_image h).hosts rank) ≡ true → IsAwake two_nodes near_image 75 rank h
awake_is rank h is =
    let host = (joint_after two_nodes near_image h).hosts rank in
    let parts = and_parts (host.on && is_up (phase two_nodes (log_at host.stand.spot))) _ is in
    let first = and_parts host.on _ parts.0 in
    record { is = record { on = first.0; up = up_then (log_at host.stand.spot) first.1 }; turns = leb-true _ _ parts.1 }

calm_parts : (h : List Happening) → is_calm h ≡ true
    → IsAwake two_nodes near_image 75 0 h × (IsAwake two_nodes near_image 75 1 h × (is_no_announcement (packet_to_hear two_nodes near_image 1 h) ≡ true))
calm_parts h is =
    let parts = and_parts (is_awake ((joint_after two_nodes near_image h).hosts 0) && is_awake ((joint_after two_nodes near_image h).hosts 1)) _ is in
    let both = and_parts (is_awake ((joint_after two_nodes near_image h).hosts 0)) _ parts.0 in
    (awake_is 0 h both.0, (awake_is 1 h both.1, parts.1))

row_at : (h : List Happening) → Before up_1 h → Before h near_32 → IsRow h
row_at h since back = each_after IsRow rows h since back

near : IsNear two_nodes near_ticks near_image 75 0 0 1 up_1 near_32
near =
    record {
      configured = (omega arith, omega arith);
      apart = λ same. omega (arith, same);
      fast = leb-true _ _ refl;
      sender = λ at since back. (calm_parts at (row_at at since back).calm).0;
      hearer = λ at since back. (calm_parts at (row_at at since back).calm).1.0;
      come = λ at happening p since back says late. (row_at (happening ∷ at) (Later happening since) back).words p says;
      stays = λ at view since back comes.
          absurd (true≢false (sym (calm_parts at (row_at at since back).calm).1.1 ∙ ap is_no_announcement comes));
    }

last_looks : is_some (look_of_rank two_nodes near_image 1 (Returns 1 (call.Now 300)) near_31) ≡ true
unfolding row_steps packet_of
last_looks = refl

late : 100 * 279 + 99 * (joint_after two_nodes near_image up_1).time ≤ 99 * (joint_after two_nodes near_image near_31).time
unfolding row_steps packet_of
late = leb-true _ _ refl

pub hellos_are_met : HellosAreMet
hellos_are_met =
    let look = some_look (look_of_rank two_nodes near_image 1 (Returns 1 (call.Now 300)) near_31) last_looks in
    record {
      settings = two_nodes;
      timing = near_ticks;
      image = near_image;
      turn = 75;
      post = 0;
      from = 0;
      to = 1;
      newer =
          Returns 1 (call.Now 300)
          ∷ Returns 1 (call.Receive received.Nothing)
          ∷ Passes 75 []
          ∷ Returns 1 (call.Send (record { 0 = 0 }) (packet_bytes (packet.Heard (record { 0 = 1 }) hears_both knows_names)) true)
          ∷ Returns 1 (call.Now 225)
          ∷ Returns 1 (call.Receive (received.Packet (packet_bytes (hello))))
          ∷ Returns 0 (call.Send (record { 0 = 1 }) (packet_bytes (hello)) true)
          ∷ Returns 0 (call.Now 225)
          ∷ Returns 0 (call.Receive received.Nothing)
          ∷ Passes 75 []
          ∷ Returns 1 (call.Feed true)
          ∷ Returns 1 (call.Now 150)
          ∷ Returns 1 (call.Send (record { 0 = 0 }) (packet_bytes (packet.Heard (record { 0 = 1 }) hears_both knows_names)) true)
          ∷ Returns 1 (call.Read (mail_place 1) (mail_bytes (anonymous message.Empty)) true)
          ∷ Lands 1
          ∷ Returns 1 (call.Now 150)
          ∷ Returns 1 (call.Receive (received.Packet (packet_bytes (hello))))
          ∷ Returns 0 (call.Feed true)
          ∷ Returns 0 (call.Now 150)
          ∷ Returns 0 (call.Send (record { 0 = 1 }) (packet_bytes (hello)) true)
          ∷ Returns 0 (call.Read (mail_place 0) (mail_bytes (anonymous message.Empty)) true)
          ∷ Lands 0
          ∷ Returns 0 (call.Now 150)
          ∷ Returns 0 (call.Receive received.Nothing)
          ∷ Passes 75 []
          ∷ Returns 1 (call.Send (record { 0 = 0 }) (packet_bytes (packet.Heard (record { 0 = 1 }) hears_both knows_names)) true)
          ∷ Returns 1 (call.Now 75)
          ∷ Returns 1 (call.Receive (received.Packet (packet_bytes (hello))))
          ∷ Returns 0 (call.Send (record { 0 = 1 }) (packet_bytes (hello)) true)
          ∷ Returns 0 (call.Now 75)
          ∷ Returns 0 (call.Receive received.Nothing)
          ∷ Passes 75 []
          ∷ [];
      older = up_1;
      at = near_31;
      happening = Returns 1 (call.Now 300);
      look = look.0;
      safe = refl;
      joined = record { fits = near_fits; created = near_is_new; may = near_may };
      near = near;
      since = Later _ (Later _ (Later _ (Later _ (Later _ (Later _ (Later _ (Later _ (Later _ (Later _ (Later _ (Later _ (Later _ (Later _ (Later _ (Later _ (Later _ (Later _ (Later _ (Later _ (Later _ (Later _ (Later _ (Later _ (Later _ (Later _ (Later _ (Later _ (Later _ (Later _ (Later _ Itself))))))))))))))))))))))))))))));
      until = Itself;
      is = look.1;
      late = late;
    }
