-- A joined run in which two nodes boot beside each other, and each look of one hears the other.
use Rattle.std.proofs.Common.{ℕ, true, false, List, [], ◌∷◌, ◌^◌, ◌==◌, None, Some, if◌then◌else◌, refl, arith}
use Rattle.std.proofs.lemmas.Bool.{false≢true}
use Rattle.qn_base.specs.declared.calls.Call.TheVariants as call
use Rattle.qn_base.specs.declared.calls.Received.TheVariants as received
use Rattle.qn_base.specs.declared.ids.Said.{Said}
use Rattle.qn_base.specs.declared.ids.Standing.{Standing}
use Rattle.qn_model.specs.declared.times.Timing.{Timing}
use Rattle.qn_model.specs.declared.disk.Message.TheVariants as message
use Rattle.qn_model.specs.declared.packets.Packet.{Packet}
use Rattle.qn_model.specs.declared.packets.Packet.TheVariants as packet
use Rattle.qn_model.specs.lemmas.TwoNodes.{two_nodes}
use Rattle.qn_model.specs.Sectors.{anonymous, header_bytes, mail_bytes, mail_place, slot_bytes, slot_place}
use Rattle.qn_wire.specs.Packets.{packet_bytes}
use Rattle.qn_wire.specs.Reading.{packet_of}
use Rattle.qn_joined.specs.Joints.{AllMayHappen, Begins, FitsImage, Happening, IsNewImage, Lands, Looks, Passes, Returns}
use Rattle.qn_service.proofs.Rows.{below_two, row_steps, ◌▸◌}

abbrev pub near_ticks : Timing
near_ticks = record { watchdog = 1000; msgwait = 1100; loop_ms = 100; read_limit = 10; feed_delay = 10 }

abbrev pub near_image : ℕ → List ℕ
near_image sector =
    if sector == 0 then header_bytes 2 near_ticks
    else (if sector == slot_place 0 then slot_bytes 1 (record { incarnation = 0; clean = true })
    else (if sector == slot_place 1 then slot_bytes 2 (record { incarnation = 0; clean = true })
    else mail_bytes (anonymous message.Empty)))

-- what a node says before its first look, and of itself
abbrev pub begins_alone : ℕ → Said
begins_alone me = record { hears = record { 0 = 2 ^ me }; follows = None; able = false }

abbrev pub knows_names : Standing
knows_names = record { flags = 32; weight = 0 }

abbrev pub MayBe : List Happening → Type 0
MayBe happenings = AllMayHappen two_nodes near_ticks near_image happenings

abbrev claims_0 : List Happening
claims_0 =
    Returns 0 (call.Feed true)
    ∷ Returns 0 (call.Now 0)
    ∷ Returns 0 (call.Write (slot_place 0) (slot_bytes 1 (record { incarnation = 1; clean = false })) true)
    ∷ Lands 0
    ∷ Returns 0 (call.Feed true)
    ∷ Returns 0 (call.Now 0)
    ∷ Returns 0 (call.Read (slot_place 0) (slot_bytes 1 (record { incarnation = 0; clean = true })) true)
    ∷ Lands 0
    ∷ Returns 0 (call.Feed true)
    ∷ Returns 0 (call.Now 0)
    ∷ Returns 0 (call.Read 0 (header_bytes 2 near_ticks) true)
    ∷ Lands 0
    ∷ Looks 0 0
    ∷ Begins 0 false None None 40
    ∷ []

claims_0_may : MayBe claims_0
unfolding row_steps
claims_0_may =
    record { on = refl; asked = refl; waits = refl; answer = tt; spells = refl } ▸
    record { on = refl; asked = refl; waits = refl; answer = refl; spells = refl } ▸
    record { on = refl; asked = refl; waits = refl; answer = λ ok. refl; spells = refl } ▸
    (refl, refl, refl) ▸
    record { on = refl; asked = refl; waits = refl; answer = tt; spells = refl } ▸
    record { on = refl; asked = refl; waits = refl; answer = refl; spells = refl } ▸
    record { on = refl; asked = refl; waits = refl; answer = λ ok. refl; spells = refl } ▸
    (refl, refl, refl) ▸
    record { on = refl; asked = refl; waits = refl; answer = tt; spells = refl } ▸
    record { on = refl; asked = refl; waits = refl; answer = refl; spells = refl } ▸
    record { on = refl; asked = refl; waits = refl; answer = λ ok. refl; spells = refl } ▸
    (refl, refl, refl) ▸
    (refl, refl, refl) ▸
    (omega arith, omega arith, refl) ▸
    tt

abbrev up_0 : List Happening
up_0 =
    Returns 0 (call.Feed true)
    ∷ Returns 0 (call.Now 0)
    ∷ Returns 0 (call.Send (record { 0 = 1 }) (packet_bytes (packet.Heard (record { 0 = 0 }) (begins_alone 0) knows_names)) true)
    ∷ Returns 0 (call.Read (mail_place 0) (mail_bytes (anonymous message.Empty)) true)
    ∷ Lands 0
    ∷ Returns 0 (call.Feed true)
    ∷ Returns 0 (call.Now 0)
    ∷ Returns 0 (call.Write (mail_place 0) (mail_bytes (anonymous message.Empty)) true)
    ∷ Lands 0
    ∷ claims_0

up_0_may : MayBe up_0
unfolding row_steps
up_0_may =
    record { on = refl; asked = refl; waits = refl; answer = tt; spells = refl } ▸
    record { on = refl; asked = refl; waits = refl; answer = refl; spells = refl } ▸
    record { on = refl; asked = refl; waits = refl; answer = tt; spells = refl } ▸
    record { on = refl; asked = refl; waits = refl; answer = λ ok. refl; spells = refl } ▸
    (refl, refl, refl) ▸
    record { on = refl; asked = refl; waits = refl; answer = tt; spells = refl } ▸
    record { on = refl; asked = refl; waits = refl; answer = refl; spells = refl } ▸
    record { on = refl; asked = refl; waits = refl; answer = λ ok. refl; spells = refl } ▸
    (refl, refl, refl) ▸
    claims_0_may

abbrev claims_1 : List Happening
claims_1 =
    Returns 1 (call.Feed true)
    ∷ Returns 1 (call.Now 0)
    ∷ Returns 1 (call.Write (slot_place 1) (slot_bytes 2 (record { incarnation = 1; clean = false })) true)
    ∷ Lands 1
    ∷ Returns 1 (call.Feed true)
    ∷ Returns 1 (call.Now 0)
    ∷ Returns 1 (call.Read (slot_place 1) (slot_bytes 2 (record { incarnation = 0; clean = true })) true)
    ∷ Lands 1
    ∷ Returns 1 (call.Feed true)
    ∷ Returns 1 (call.Now 0)
    ∷ Returns 1 (call.Read 0 (header_bytes 2 near_ticks) true)
    ∷ Lands 1
    ∷ Looks 1 0
    ∷ Begins 1 false None None 40
    ∷ up_0

claims_1_may : MayBe claims_1
unfolding row_steps
claims_1_may =
    record { on = refl; asked = refl; waits = refl; answer = tt; spells = refl } ▸
    record { on = refl; asked = refl; waits = refl; answer = refl; spells = refl } ▸
    record { on = refl; asked = refl; waits = refl; answer = λ ok. refl; spells = refl } ▸
    (refl, refl, refl) ▸
    record { on = refl; asked = refl; waits = refl; answer = tt; spells = refl } ▸
    record { on = refl; asked = refl; waits = refl; answer = refl; spells = refl } ▸
    record { on = refl; asked = refl; waits = refl; answer = λ ok. refl; spells = refl } ▸
    (refl, refl, refl) ▸
    record { on = refl; asked = refl; waits = refl; answer = tt; spells = refl } ▸
    record { on = refl; asked = refl; waits = refl; answer = refl; spells = refl } ▸
    record { on = refl; asked = refl; waits = refl; answer = λ ok. refl; spells = refl } ▸
    (refl, refl, refl) ▸
    (refl, refl, refl) ▸
    (omega arith, omega arith, refl) ▸
    up_0_may

abbrev pub up_1 : List Happening
up_1 =
    Returns 1 (call.Feed true)
    ∷ Returns 1 (call.Now 0)
    ∷ Returns 1 (call.Send (record { 0 = 0 }) (packet_bytes (packet.Heard (record { 0 = 1 }) (begins_alone 1) knows_names)) true)
    ∷ Returns 1 (call.Read (mail_place 1) (mail_bytes (anonymous message.Empty)) true)
    ∷ Lands 1
    ∷ Returns 1 (call.Feed true)
    ∷ Returns 1 (call.Now 0)
    ∷ Returns 1 (call.Write (mail_place 1) (mail_bytes (anonymous message.Empty)) true)
    ∷ Lands 1
    ∷ claims_1

pub up_1_may : MayBe up_1
unfolding row_steps
up_1_may =
    record { on = refl; asked = refl; waits = refl; answer = tt; spells = refl } ▸
    record { on = refl; asked = refl; waits = refl; answer = refl; spells = refl } ▸
    record { on = refl; asked = refl; waits = refl; answer = tt; spells = refl } ▸
    record { on = refl; asked = refl; waits = refl; answer = λ ok. refl; spells = refl } ▸
    (refl, refl, refl) ▸
    record { on = refl; asked = refl; waits = refl; answer = tt; spells = refl } ▸
    record { on = refl; asked = refl; waits = refl; answer = refl; spells = refl } ▸
    record { on = refl; asked = refl; waits = refl; answer = λ ok. refl; spells = refl } ▸
    (refl, refl, refl) ▸
    claims_1_may

pub near_is_new : IsNewImage two_nodes near_ticks near_image
near_is_new = record { header = refl; slots = below_two _ refl refl; mails = below_two _ refl refl }

pub near_fits : FitsImage two_nodes near_ticks
near_fits =
    record { some = omega arith; few = omega arith; times = refl; ids = below_two _ (omega arith, omega arith) (omega arith, omega arith) }

-- ## What one says and the other hears

abbrev pub leads_alone : Said
leads_alone = record { hears = record { 0 = 1 }; follows = Some (record { 0 = 0 }); able = true }

abbrev pub hears_both : Said
hears_both = record { hears = record { 0 = 3 }; follows = Some (record { 0 = 0 }); able = true }

abbrev pub hello : Packet
hello = packet.Heard (record { 0 = 0 }) leads_alone knows_names

abbrev pub near_1 : List Happening
near_1 = Passes 75 [] ∷ up_1

abbrev pub near_2 : List Happening
near_2 = Returns 0 (call.Receive received.Nothing) ∷ near_1

abbrev pub near_3 : List Happening
near_3 = Returns 0 (call.Now 75) ∷ near_2

abbrev pub near_4 : List Happening
near_4 = Returns 0 (call.Send (record { 0 = 1 }) (packet_bytes (hello)) true) ∷ near_3

abbrev pub near_5 : List Happening
near_5 = Returns 1 (call.Receive (received.Packet (packet_bytes (hello)))) ∷ near_4

abbrev pub near_6 : List Happening
near_6 = Returns 1 (call.Now 75) ∷ near_5

abbrev pub near_7 : List Happening
near_7 = Returns 1 (call.Send (record { 0 = 0 }) (packet_bytes (packet.Heard (record { 0 = 1 }) hears_both knows_names)) true) ∷ near_6

abbrev pub near_8 : List Happening
near_8 = Passes 75 [] ∷ near_7

abbrev pub near_9 : List Happening
near_9 = Returns 0 (call.Receive received.Nothing) ∷ near_8

abbrev pub near_10 : List Happening
near_10 = Returns 0 (call.Now 150) ∷ near_9

abbrev pub near_11 : List Happening
near_11 = Lands 0 ∷ near_10

abbrev pub near_12 : List Happening
near_12 = Returns 0 (call.Read (mail_place 0) (mail_bytes (anonymous message.Empty)) true) ∷ near_11

abbrev pub near_13 : List Happening
near_13 = Returns 0 (call.Send (record { 0 = 1 }) (packet_bytes (hello)) true) ∷ near_12

abbrev pub near_14 : List Happening
near_14 = Returns 0 (call.Now 150) ∷ near_13

abbrev pub near_15 : List Happening
near_15 = Returns 0 (call.Feed true) ∷ near_14

abbrev pub near_16 : List Happening
near_16 = Returns 1 (call.Receive (received.Packet (packet_bytes (hello)))) ∷ near_15

abbrev pub near_17 : List Happening
near_17 = Returns 1 (call.Now 150) ∷ near_16

abbrev pub near_18 : List Happening
near_18 = Lands 1 ∷ near_17

abbrev pub near_19 : List Happening
near_19 = Returns 1 (call.Read (mail_place 1) (mail_bytes (anonymous message.Empty)) true) ∷ near_18

abbrev pub near_20 : List Happening
near_20 = Returns 1 (call.Send (record { 0 = 0 }) (packet_bytes (packet.Heard (record { 0 = 1 }) hears_both knows_names)) true) ∷ near_19

abbrev pub near_21 : List Happening
near_21 = Returns 1 (call.Now 150) ∷ near_20

abbrev pub near_22 : List Happening
near_22 = Returns 1 (call.Feed true) ∷ near_21

abbrev pub near_23 : List Happening
near_23 = Passes 75 [] ∷ near_22

abbrev pub near_24 : List Happening
near_24 = Returns 0 (call.Receive received.Nothing) ∷ near_23

abbrev pub near_25 : List Happening
near_25 = Returns 0 (call.Now 225) ∷ near_24

abbrev pub near_26 : List Happening
near_26 = Returns 0 (call.Send (record { 0 = 1 }) (packet_bytes (hello)) true) ∷ near_25

abbrev pub near_27 : List Happening
near_27 = Returns 1 (call.Receive (received.Packet (packet_bytes (hello)))) ∷ near_26

abbrev pub near_28 : List Happening
near_28 = Returns 1 (call.Now 225) ∷ near_27

abbrev pub near_29 : List Happening
near_29 = Returns 1 (call.Send (record { 0 = 0 }) (packet_bytes (packet.Heard (record { 0 = 1 }) hears_both knows_names)) true) ∷ near_28

abbrev pub near_30 : List Happening
near_30 = Passes 75 [] ∷ near_29

abbrev pub near_31 : List Happening
near_31 = Returns 1 (call.Receive received.Nothing) ∷ near_30

abbrev pub near_32 : List Happening
near_32 = Returns 1 (call.Now 300) ∷ near_31

pub near_may : MayBe near_32
unfolding row_steps packet_of
near_may =
    record { on = refl; asked = refl; waits = refl; answer = refl; spells = refl } ▸
    record { on = refl; asked = refl; waits = refl; answer = tt; spells = refl } ▸
    (below_two _ refl refl, refl) ▸
    record { on = refl; asked = refl; waits = refl; answer = tt; spells = refl } ▸
    record { on = refl; asked = refl; waits = refl; answer = refl; spells = refl } ▸
    record { on = refl; asked = refl; waits = refl; answer = λ c. absurd (false≢true c); spells = refl } ▸
    record { on = refl; asked = refl; waits = refl; answer = tt; spells = refl } ▸
    record { on = refl; asked = refl; waits = refl; answer = refl; spells = refl } ▸
    record { on = refl; asked = refl; waits = refl; answer = tt; spells = refl } ▸
    (below_two _ refl refl, refl) ▸
    record { on = refl; asked = refl; waits = refl; answer = tt; spells = refl } ▸
    record { on = refl; asked = refl; waits = refl; answer = refl; spells = refl } ▸
    record { on = refl; asked = refl; waits = refl; answer = tt; spells = refl } ▸
    record { on = refl; asked = refl; waits = refl; answer = λ ok. refl; spells = refl } ▸
    (refl, refl, refl) ▸
    record { on = refl; asked = refl; waits = refl; answer = refl; spells = refl } ▸
    record { on = refl; asked = refl; waits = refl; answer = λ c. absurd (false≢true c); spells = refl } ▸
    record { on = refl; asked = refl; waits = refl; answer = tt; spells = refl } ▸
    record { on = refl; asked = refl; waits = refl; answer = refl; spells = refl } ▸
    record { on = refl; asked = refl; waits = refl; answer = tt; spells = refl } ▸
    record { on = refl; asked = refl; waits = refl; answer = λ ok. refl; spells = refl } ▸
    (refl, refl, refl) ▸
    record { on = refl; asked = refl; waits = refl; answer = refl; spells = refl } ▸
    record { on = refl; asked = refl; waits = refl; answer = tt; spells = refl } ▸
    (below_two _ refl refl, refl) ▸
    record { on = refl; asked = refl; waits = refl; answer = tt; spells = refl } ▸
    record { on = refl; asked = refl; waits = refl; answer = refl; spells = refl } ▸
    record { on = refl; asked = refl; waits = refl; answer = λ c. absurd (false≢true c); spells = refl } ▸
    record { on = refl; asked = refl; waits = refl; answer = tt; spells = refl } ▸
    record { on = refl; asked = refl; waits = refl; answer = refl; spells = refl } ▸
    record { on = refl; asked = refl; waits = refl; answer = tt; spells = refl } ▸
    (below_two _ refl refl, refl) ▸
    up_1_may
