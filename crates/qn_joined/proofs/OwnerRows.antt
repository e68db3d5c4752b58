-- A joined run in which both machines run beside each other, one node asks and the other tells, the first one starts its resource and is reset
-- while it runs, and the second one takes over; a write that failed lands after all, and an operator writes a test message.
use Rattle.std.proofs.Common.{◌≡◌, true, false, List, [], ◌∷◌, ◌++◌, None, Some, refl, sym, arith}
use Rattle.std.proofs.lemmas.Bool.{false≢true, leb-true}
use Rattle.qn_base.specs.declared.calls.Call.TheVariants as call
use Rattle.qn_base.specs.declared.calls.Received.TheVariants as received
use Rattle.qn_base.specs.lemmas.Numbers.{one_is_not_zero}
use Rattle.qn_model.specs.declared.disk.Message.TheVariants as message
use Rattle.qn_model.specs.declared.packets.Packet.TheVariants as packet
use Rattle.qn_model.specs.lemmas.TwoNodes.{two_nodes, two_nodes_valid}
use Rattle.qn_model.specs.Sectors.{anonymous, header_bytes, mail_bytes, mail_place, slot_bytes, slot_place}
use Rattle.qn_wire.specs.Packets.{packet_bytes}
use Rattle.qn_wire.specs.Reading.{packet_of}
use Rattle.qn_live.specs.Performing.{reset_by}
use Rattle.qn_joined.specs.Joints.{AllMayHappen, Happening, Begins, Ends, Feeds, Lands, LandsLate, Looks, Operates, Passes, Returns, is_deadly_mail, joint_after, runs_at}
use Rattle.qn_joined.specs.Theorem.{OwnerIsReset}
use Rattle.qn_joined.proofs.Rows.{begins_alone, created, fits, holds_and_keeps, joint_steps, knows_names, leads_alone, named_view, new_image, of_two, short_times, ◌▸◌}

abbrev May : List Happening → Type 0
May happenings = AllMayHappen two_nodes short_times new_image happenings

abbrev part_claims_0 : List Happening
part_claims_0 =
    Returns 0 (call.Feed true)
    ∷ Returns 0 (call.Now 0)
    ∷ Returns 0 (call.Write (slot_place 0) (slot_bytes 1 (record { incarnation = 1; clean = false })) true)
    ∷ Lands 0
    ∷ Returns 0 (call.Feed true)
    ∷ Returns 0 (call.Now 0)
    ∷ Returns 0 (call.Read (slot_place 0) (slot_bytes 1 (record { incarnation = 0; clean = true })) true)
    ∷ Lands 0
    ∷ Returns 0 (call.Feed true)
    ∷ Returns 0 (call.Now 0)
    ∷ Returns 0 (call.Read 0 (header_bytes 2 short_times) true)
    ∷ Lands 0
    ∷ Looks 0 0
    ∷ Begins 0 false None None 40
    ∷ []

abbrev claims_0 : List Happening
claims_0 = part_claims_0 ++ []

claims_0_may : May claims_0
unfolding joint_steps packet_of
claims_0_may =
    record { on = refl; asked = refl; waits = refl; answer = tt; spells = refl } ▸
    record { on = refl; asked = refl; waits = refl; answer = refl; spells = refl } ▸
    record { on = refl; asked = refl; waits = refl; answer = λ ok. refl; spells = refl } ▸
    (refl, refl, refl) ▸
    record { on = refl; asked = refl; waits = refl; answer = tt; spells = refl } ▸
    record { on = refl; asked = refl; waits = refl; answer = refl; spells = refl } ▸
    record { on = refl; asked = refl; waits = refl; answer = λ ok. refl; spells = refl } ▸
    (refl, refl, refl) ▸
    record { on = refl; asked = refl; waits = refl; answer = tt; spells = refl } ▸
    record { on = refl; asked = refl; waits = refl; answer = refl; spells = refl } ▸
    record { on = refl; asked = refl; waits = refl; answer = λ ok. refl; spells = refl } ▸
    (refl, refl, refl) ▸
    (refl, refl, refl) ▸
    (omega arith, omega arith, refl) ▸
    tt

abbrev part_up_0 : List Happening
part_up_0 =
    Returns 0 (call.Feed true)
    ∷ Returns 0 (call.Now 0)
    ∷ Returns 0 (call.Send (record { 0 = 1 }) (packet_bytes (packet.Heard (record { 0 = 0 }) (begins_alone 0) knows_names)) true)
    ∷ Returns 0 (call.Read (mail_place 0) (mail_bytes (anonymous message.Empty)) true)
    ∷ Lands 0
    ∷ Returns 0 (call.Feed true)
    ∷ Returns 0 (call.Now 0)
    ∷ Returns 0 (call.Write (mail_place 0) (mail_bytes (anonymous message.Empty)) true)
    ∷ Lands 0
    ∷ []

abbrev up_0 : List Happening
up_0 = part_up_0 ++ claims_0

up_0_may : May up_0
unfolding joint_steps packet_of
up_0_may =
    record { on = refl; asked = refl; waits = refl; answer = tt; spells = refl } ▸
    record { on = refl; asked = refl; waits = refl; answer = refl; spells = refl } ▸
    record { on = refl; asked = refl; waits = refl; answer = tt; spells = refl } ▸
    record { on = refl; asked = refl; waits = refl; answer = λ ok. refl; spells = refl } ▸
    (refl, refl, refl) ▸
    record { on = refl; asked = refl; waits = refl; answer = tt; spells = refl } ▸
    record { on = refl; asked = refl; waits = refl; answer = refl; spells = refl } ▸
    record { on = refl; asked = refl; waits = refl; answer = λ ok. refl; spells = refl } ▸
    (refl, refl, refl) ▸
    claims_0_may

abbrev part_claims_1 : List Happening
part_claims_1 =
    Returns 1 (call.Feed true)
    ∷ Returns 1 (call.Now 0)
    ∷ Returns 1 (call.Write (slot_place 1) (slot_bytes 2 (record { incarnation = 1; clean = false })) true)
    ∷ Lands 1
    ∷ Returns 1 (call.Feed true)
    ∷ Returns 1 (call.Now 0)
    ∷ Returns 1 (call.Read (slot_place 1) (slot_bytes 2 (record { incarnation = 0; clean = true })) true)
    ∷ Lands 1
    ∷ Returns 1 (call.Feed true)
    ∷ Returns 1 (call.Now 0)
    ∷ Returns 1 (call.Read 0 (header_bytes 2 short_times) true)
    ∷ Lands 1
    ∷ Looks 1 0
    ∷ Begins 1 false None None 40
    ∷ []

abbrev claims_1 : List Happening
claims_1 = part_claims_1 ++ up_0

claims_1_may : May claims_1
unfolding joint_steps packet_of
claims_1_may =
    record { on = refl; asked = refl; waits = refl; answer = tt; spells = refl } ▸
    record { on = refl; asked = refl; waits = refl; answer = refl; spells = refl } ▸
    record { on = refl; asked = refl; waits = refl; answer = λ ok. refl; spells = refl } ▸
    (refl, refl, refl) ▸
    record { on = refl; asked = refl; waits = refl; answer = tt; spells = refl } ▸
    record { on = refl; asked = refl; waits = refl; answer = refl; spells = refl } ▸
    record { on = refl; asked = refl; waits = refl; answer = λ ok. refl; spells = refl } ▸
    (refl, refl, refl) ▸
    record { on = refl; asked = refl; waits = refl; answer = tt; spells = refl } ▸
    record { on = refl; asked = refl; waits = refl; answer = refl; spells = refl } ▸
    record { on = refl; asked = refl; waits = refl; answer = λ ok. refl; spells = refl } ▸
    (refl, refl, refl) ▸
    (refl, refl, refl) ▸
    (omega arith, omega arith, refl) ▸
    up_0_may

abbrev part_up_1 : List Happening
part_up_1 =
    Returns 1 (call.Feed true)
    ∷ Returns 1 (call.Now 0)
    ∷ Returns 1 (call.Send (record { 0 = 0 }) (packet_bytes (packet.Heard (record { 0 = 1 }) (begins_alone 1) knows_names)) true)
    ∷ Returns 1 (call.Read (mail_place 1) (mail_bytes (anonymous message.Empty)) true)
    ∷ Lands 1
    ∷ Returns 1 (call.Feed true)
    ∷ Returns 1 (call.Now 0)
    ∷ Returns 1 (call.Write (mail_place 1) (mail_bytes (anonymous message.Empty)) true)
    ∷ Lands 1
    ∷ []

abbrev up_1 : List Happening
up_1 = part_up_1 ++ claims_1

up_1_may : May up_1
unfolding joint_steps packet_of
up_1_may =
    record { on = refl; asked = refl; waits = refl; answer = tt; spells = refl } ▸
    record { on = refl; asked = refl; waits = refl; answer = refl; spells = refl } ▸
    record { on = refl; asked = refl; waits = refl; answer = tt; spells = refl } ▸
    record { on = refl; asked = refl; waits = refl; answer = λ ok. refl; spells = refl } ▸
    (refl, refl, refl) ▸
    record { on = refl; asked = refl; waits = refl; answer = tt; spells = refl } ▸
    record { on = refl; asked = refl; waits = refl; answer = refl; spells = refl } ▸
    record { on = refl; asked = refl; waits = refl; answer = λ ok. refl; spells = refl } ▸
    (refl, refl, refl) ▸
    claims_1_may

abbrev part_sees_both : List Happening
part_sees_both =
    Returns 0 (call.Feed true)
    ∷ Returns 0 (call.Now 1)
    ∷ Returns 0 (call.Send (record { 0 = 1 }) (packet_bytes (packet.Announce (record { 0 = 0 }) (named_view 0 1 3))) true)
    ∷ Returns 0 (call.Send (record { 0 = 1 }) (packet_bytes (packet.Heard (record { 0 = 0 }) (record { hears = record { 0 = 3 }; follows = Some (record { 0 = 0 }); able = true }) knows_names)) true)
    ∷ Returns 0 (call.Read (mail_place 0) (mail_bytes (anonymous message.Empty)) true)
    ∷ Lands 0
    ∷ Returns 0 (call.Send (record { 0 = 1 }) (packet_bytes (packet.Ask (record { from = record { 0 = 0 }; to = record { 0 = 1 }; incarnation = 1; install = 1; view = (named_view 0 1 3) }))) true)
    ∷ Returns 0 (call.Now 1)
    ∷ Returns 0 (call.Receive received.Nothing)
    ∷ Passes 1 []
    ∷ Returns 0 (call.Send (record { 0 = 1 }) (packet_bytes (packet.Ask (record { from = record { 0 = 0 }; to = record { 0 = 1 }; incarnation = 1; install = 1; view = (named_view 0 1 3) }))) true)
    ∷ Returns 0 (call.Now 0)
    ∷ Returns 0 (call.Receive (received.Packet (packet_bytes (packet.Heard (record { 0 = 1 }) (begins_alone 1) knows_names))))
    ∷ Returns 1 (call.Now 0)
    ∷ Returns 1 (call.Receive (received.Packet (packet_bytes (packet.Heard (record { 0 = 0 }) (begins_alone 0) knows_names))))
    ∷ []

abbrev sees_both : List Happening
sees_both = part_sees_both ++ up_1

sees_both_may : May sees_both
unfolding joint_steps packet_of
sees_both_may =
    record { on = refl; asked = refl; waits = refl; answer = tt; spells = refl } ▸
    record { on = refl; asked = refl; waits = refl; answer = refl; spells = refl } ▸
    record { on = refl; asked = refl; waits = refl; answer = tt; spells = refl } ▸
    record { on = refl; asked = refl; waits = refl; answer = tt; spells = refl } ▸
    record { on = refl; asked = refl; waits = refl; answer = λ ok. refl; spells = refl } ▸
    (refl, refl, refl) ▸
    record { on = refl; asked = refl; waits = refl; answer = tt; spells = refl } ▸
    record { on = refl; asked = refl; waits = refl; answer = refl; spells = refl } ▸
    record { on = refl; asked = refl; waits = refl; answer = tt; spells = refl } ▸
    (of_two _ refl refl, refl) ▸
    record { on = refl; asked = refl; waits = refl; answer = tt; spells = refl } ▸
    record { on = refl; asked = refl; waits = refl; answer = refl; spells = refl } ▸
    record { on = refl; asked = refl; waits = refl; answer = λ c. absurd (false≢true c); spells = refl } ▸
    record { on = refl; asked = refl; waits = refl; answer = refl; spells = refl } ▸
    record { on = refl; asked = refl; waits = refl; answer = λ c. absurd (false≢true c); spells = refl } ▸
    up_1_may

abbrev part_takes_view : List Happening
part_takes_view =
    Returns 0 (call.Start true)
    ∷ Returns 0 (call.Now 1)
    ∷ Returns 0 (call.Receive (received.Packet (packet_bytes (packet.Tell (record { from = record { 0 = 1 }; to = record { 0 = 0 }; incarnation = 1; install = 1; view = (named_view 0 1 3); holds = false; released = true })))))
    ∷ Returns 1 (call.Send (record { 0 = 0 }) (packet_bytes (packet.Tell (record { from = record { 0 = 1 }; to = record { 0 = 0 }; incarnation = 1; install = 1; view = (named_view 0 1 3); holds = false; released = true }))) true)
    ∷ Returns 1 (call.Now 1)
    ∷ Returns 1 (call.Receive (received.Packet (packet_bytes (packet.Ask (record { from = record { 0 = 0 }; to = record { 0 = 1 }; incarnation = 1; install = 1; view = (named_view 0 1 3) })))))
    ∷ Returns 1 (call.Feed true)
    ∷ Returns 1 (call.Now 1)
    ∷ Returns 1 (call.Send (record { 0 = 0 }) (packet_bytes (packet.Heard (record { 0 = 1 }) (record { hears = record { 0 = 3 }; follows = Some (record { 0 = 0 }); able = true }) knows_names)) true)
    ∷ Returns 1 (call.Read (mail_place 1) (mail_bytes (anonymous message.Empty)) true)
    ∷ Lands 1
    ∷ Returns 1 (call.Send (record { 0 = 0 }) (packet_bytes (packet.Ask (record { from = record { 0 = 1 }; to = record { 0 = 0 }; incarnation = 1; install = 1; view = (named_view 0 1 3) }))) true)
    ∷ Returns 1 (call.Now 1)
    ∷ Returns 1 (call.Receive (received.Packet (packet_bytes (packet.Announce (record { 0 = 0 }) (named_view 0 1 3)))))
    ∷ []

abbrev takes_view : List Happening
takes_view = part_takes_view ++ sees_both

takes_view_may : May takes_view
unfolding joint_steps packet_of
takes_view_may =
    record { on = refl; asked = refl; waits = refl; answer = tt; spells = refl } ▸
    record { on = refl; asked = refl; waits = refl; answer = refl; spells = refl } ▸
    record { on = refl; asked = refl; waits = refl; answer = λ c. (8, leb-true _ _ refl, refl); spells = refl } ▸
    record { on = refl; asked = refl; waits = refl; answer = tt; spells = refl } ▸
    record { on = refl; asked = refl; waits = refl; answer = refl; spells = refl } ▸
    record { on = refl; asked = refl; waits = refl; answer = λ c. (2, leb-true _ _ refl, refl); spells = refl } ▸
    record { on = refl; asked = refl; waits = refl; answer = tt; spells = refl } ▸
    record { on = refl; asked = refl; waits = refl; answer = refl; spells = refl } ▸
    record { on = refl; asked = refl; waits = refl; answer = tt; spells = refl } ▸
    record { on = refl; asked = refl; waits = refl; answer = λ ok. refl; spells = refl } ▸
    (refl, refl, refl) ▸
    record { on = refl; asked = refl; waits = refl; answer = tt; spells = refl } ▸
    record { on = refl; asked = refl; waits = refl; answer = refl; spells = refl } ▸
    record { on = refl; asked = refl; waits = refl; answer = λ c. absurd (false≢true c); spells = refl } ▸
    sees_both_may

abbrev part_misses : List Happening
part_misses =
    Returns 1 (call.Feed true)
    ∷ Returns 1 (call.Now 6)
    ∷ Returns 1 (call.Send (record { 0 = 0 }) (packet_bytes (packet.Announce (record { 0 = 1 }) (named_view 1 2 2))) true)
    ∷ Returns 1 (call.Send (record { 0 = 0 }) (packet_bytes (packet.Heard (record { 0 = 1 }) (leads_alone 1) knows_names)) true)
    ∷ Returns 1 (call.Read (mail_place 1) (mail_bytes (anonymous message.Test)) true)
    ∷ Lands 1
    ∷ Returns 1 (call.Now 6)
    ∷ Returns 1 (call.Receive received.Nothing)
    ∷ Passes 1 []
    ∷ Returns 1 (call.Feed true)
    ∷ Returns 1 (call.Now 5)
    ∷ Returns 1 (call.Send (record { 0 = 0 }) (packet_bytes (packet.Heard (record { 0 = 1 }) (leads_alone 1) knows_names)) true)
    ∷ Returns 1 (call.Read (mail_place 1) (mail_bytes (anonymous message.Test)) true)
    ∷ Lands 1
    ∷ Returns 1 (call.Send (record { 0 = 0 }) (packet_bytes (packet.Ask (record { from = record { 0 = 1 }; to = record { 0 = 0 }; incarnation = 1; install = 1; view = (named_view 0 1 3) }))) true)
    ∷ Returns 1 (call.Now 5)
    ∷ Returns 1 (call.Receive received.Nothing)
    ∷ Passes 4 []
    ∷ Operates 1 message.Test
    ∷ []

abbrev misses : List Happening
misses = part_misses ++ takes_view

misses_may : May misses
unfolding joint_steps packet_of
misses_may =
    record { on = refl; asked = refl; waits = refl; answer = tt; spells = refl } ▸
    record { on = refl; asked = refl; waits = refl; answer = refl; spells = refl } ▸
    record { on = refl; asked = refl; waits = refl; answer = tt; spells = refl } ▸
    record { on = refl; asked = refl; waits = refl; answer = tt; spells = refl } ▸
    record { on = refl; asked = refl; waits = refl; answer = λ ok. refl; spells = refl } ▸
    (refl, refl, refl) ▸
    record { on = refl; asked = refl; waits = refl; answer = refl; spells = refl } ▸
    record { on = refl; asked = refl; waits = refl; answer = tt; spells = refl } ▸
    (of_two _ refl refl, refl) ▸
    record { on = refl; asked = refl; waits = refl; answer = tt; spells = refl } ▸
    record { on = refl; asked = refl; waits = refl; answer = refl; spells = refl } ▸
    record { on = refl; asked = refl; waits = refl; answer = tt; spells = refl } ▸
    record { on = refl; asked = refl; waits = refl; answer = λ ok. refl; spells = refl } ▸
    (refl, refl, refl) ▸
    record { on = refl; asked = refl; waits = refl; answer = tt; spells = refl } ▸
    record { on = refl; asked = refl; waits = refl; answer = refl; spells = refl } ▸
    record { on = refl; asked = refl; waits = refl; answer = tt; spells = refl } ▸
    (of_two _ refl refl, refl) ▸
    (omega arith, refl) ▸
    takes_view_may

abbrev part_fences : List Happening
part_fences =
    Returns 1 (call.Now 6)
    ∷ Returns 1 (call.Now 6)
    ∷ Returns 1 (call.Receive received.Nothing)
    ∷ Returns 1 (call.Write (mail_place 0) (mail_bytes (reset_by two_nodes 1 1)) true)
    ∷ Lands 1
    ∷ LandsLate 1 1
    ∷ Returns 1 (call.Now 6)
    ∷ Returns 1 (call.Write (mail_place 0) (mail_bytes (reset_by two_nodes 1 1)) false)
    ∷ Returns 1 (call.Now 6)
    ∷ Returns 1 (call.Read (slot_place 0) (slot_bytes 1 (record { incarnation = 1; clean = false })) true)
    ∷ Lands 1
    ∷ []

abbrev fences : List Happening
fences = part_fences ++ misses

fences_may : May fences
unfolding joint_steps packet_of
fences_may =
    record { on = refl; asked = refl; waits = refl; answer = refl; spells = refl } ▸
    record { on = refl; asked = refl; waits = refl; answer = refl; spells = refl } ▸
    record { on = refl; asked = refl; waits = refl; answer = tt; spells = refl } ▸
    record { on = refl; asked = refl; waits = refl; answer = λ ok. refl; spells = refl } ▸
    (refl, refl, refl) ▸
    refl ▸
    record { on = refl; asked = refl; waits = refl; answer = refl; spells = refl } ▸
    record { on = refl; asked = refl; waits = refl; answer = λ ok. absurd (false≢true ok); spells = refl } ▸
    record { on = refl; asked = refl; waits = refl; answer = refl; spells = refl } ▸
    record { on = refl; asked = refl; waits = refl; answer = λ ok. refl; spells = refl } ▸
    (refl, refl, refl) ▸
    misses_may

abbrev part_dies : List Happening
part_dies =
    Ends 0
    ∷ Returns 0 (call.Halt 2)
    ∷ Returns 0 (call.Now 6)
    ∷ Returns 0 (call.Send (record { 0 = 1 }) (packet_bytes (packet.Announce (record { 0 = 0 }) (named_view 0 1 3))) true)
    ∷ Returns 0 (call.Send (record { 0 = 1 }) (packet_bytes (packet.Heard (record { 0 = 0 }) (leads_alone 0) holds_and_keeps)) true)
    ∷ Returns 0 (call.Read (mail_place 0) (mail_bytes (reset_by two_nodes 1 1)) true)
    ∷ Lands 0
    ∷ Returns 0 (call.Now 6)
    ∷ Returns 0 (call.Receive received.Nothing)
    ∷ []

abbrev dies : List Happening
dies = part_dies ++ fences

dies_may : May dies
unfolding joint_steps packet_of
dies_may =
    refl ▸
    record { on = refl; asked = refl; waits = refl; answer = tt; spells = refl } ▸
    record { on = refl; asked = refl; waits = refl; answer = refl; spells = refl } ▸
    record { on = refl; asked = refl; waits = refl; answer = tt; spells = refl } ▸
    record { on = refl; asked = refl; waits = refl; answer = tt; spells = refl } ▸
    record { on = refl; asked = refl; waits = refl; answer = λ ok. refl; spells = refl } ▸
    (refl, refl, refl) ▸
    record { on = refl; asked = refl; waits = refl; answer = refl; spells = refl } ▸
    record { on = refl; asked = refl; waits = refl; answer = tt; spells = refl } ▸
    fences_may

abbrev part_waits : List Happening
part_waits =
    Returns 1 (call.Now 1116)
    ∷ Returns 1 (call.Receive received.Nothing)
    ∷ Passes 120 []
    ∷ Feeds 1
    ∷ Returns 1 (call.Feed true)
    ∷ Returns 1 (call.Now 996)
    ∷ Returns 1 (call.Send (record { 0 = 0 }) (packet_bytes (packet.Announce (record { 0 = 1 }) (named_view 1 2 2))) true)
    ∷ Returns 1 (call.Send (record { 0 = 0 }) (packet_bytes (packet.Heard (record { 0 = 1 }) (leads_alone 1) knows_names)) true)
    ∷ Returns 1 (call.Read (mail_place 1) (mail_bytes (anonymous message.Test)) true)
    ∷ Lands 1
    ∷ Returns 1 (call.Now 996)
    ∷ Returns 1 (call.Receive received.Nothing)
    ∷ Passes 990 []
    ∷ Feeds 1
    ∷ []

abbrev waits : List Happening
waits = part_waits ++ dies

waits_may : May waits
unfolding joint_steps packet_of
waits_may =
    record { on = refl; asked = refl; waits = refl; answer = refl; spells = refl } ▸
    record { on = refl; asked = refl; waits = refl; answer = tt; spells = refl } ▸
    (of_two _ refl refl, refl) ▸
    (refl, refl) ▸
    record { on = refl; asked = refl; waits = refl; answer = tt; spells = refl } ▸
    record { on = refl; asked = refl; waits = refl; answer = refl; spells = refl } ▸
    record { on = refl; asked = refl; waits = refl; answer = tt; spells = refl } ▸
    record { on = refl; asked = refl; waits = refl; answer = tt; spells = refl } ▸
    record { on = refl; asked = refl; waits = refl; answer = λ ok. refl; spells = refl } ▸
    (refl, refl, refl) ▸
    record { on = refl; asked = refl; waits = refl; answer = refl; spells = refl } ▸
    record { on = refl; asked = refl; waits = refl; answer = tt; spells = refl } ▸
    (of_two _ refl refl, refl) ▸
    (refl, refl) ▸
    dies_may

owner_runs : runs_at two_nodes new_image takes_view 0 ≡ true
unfolding joint_steps packet_of
owner_runs = refl

beside : ((joint_after two_nodes new_image takes_view).hosts 1).on ≡ true
unfolding joint_steps packet_of
beside = refl

still_runs : runs_at two_nodes new_image fences 0 ≡ true
unfolding joint_steps packet_of
still_runs = refl

reset_stands : is_deadly_mail ((joint_after two_nodes new_image fences).image (mail_place 0)) ≡ true
unfolding joint_steps packet_of
reset_stands = refl

next_runs : runs_at two_nodes new_image waits 1 ≡ true
unfolding joint_steps packet_of
next_runs = refl

pub owner_is_reset : OwnerIsReset
owner_is_reset =
    record {
      settings = two_nodes;
      timing = short_times;
      image = new_image;
      started = takes_view;
      between = part_fences ++ part_misses;
      after = part_waits ++ part_dies;
      owner = 0;
      next = 1;
      valid = two_nodes_valid;
      safe = refl;
      joined = record { fits = fits; created = created; may = waits_may };
      owner_runs = owner_runs;
      beside = beside;
      still_runs = still_runs;
      reset_stands = reset_stands;
      next_runs = next_runs;
      differ = λ same. one_is_not_zero (sym same);
    }
