-- What happens to two nodes and their arbiter: they see each other, they are cut, and the arbiter says yes to one of them. Each list stands newest
-- first.
use Rattle.std.proofs.Common.{ℕ, Bool, true, false, List, [], ◌∷◌, ◌++◌, ◌+◌, ◌*◌, ◌^◌, ◌==◌, Option, None, Some, if◌then◌else◌}
use Rattle.std.specs.Prelude.{is_some}
use Rattle.std.specs.Option.{option_map}
use Rattle.qn_base.specs.declared.calls.Call.TheVariants as call
use Rattle.qn_base.specs.declared.calls.Received.TheVariants as received
use Rattle.qn_base.specs.declared.ids.Rank.{Rank}
use Rattle.qn_base.specs.declared.ids.Standing.{Standing}
use Rattle.qn_base.specs.declared.ids.View.{View}
use Rattle.qn_model.specs.declared.disk.Message.TheVariants as message
use Rattle.qn_model.specs.declared.packets.Packet.TheVariants as packet
use Rattle.qn_model.specs.declared.times.Timing.{Timing}
use Rattle.qn_model.specs.Sectors.{anonymous, header_bytes, mail_bytes, mail_place, slot_bytes, slot_place}
use Rattle.qn_polls.specs.Polls.{poll_bytes, reply_bytes}
use Rattle.qn_safety.specs.declared.lease.Lease.{Lease}
use Rattle.qn_wire.specs.Packets.{packet_bytes}
use Rattle.qn_joined.specs.Joints.{Begins, Lands, Looks, Returns}
use Rattle.qn_beside.specs.Beside.{ArbiterBegins, ArbiterReturns, BesideHappening, Here, PassesWith}

abbrev pub short_times : Timing
short_times = record { watchdog = 1000; msgwait = 1100; loop_ms = 1; read_limit = 10; feed_delay = 10 }

-- the least safe lease where the device's yes counts for 10 milliseconds
abbrev pub short_lease : Lease
short_lease = record { limit = 2; lease = 14 }

abbrev rank_of : ℕ → Rank
rank_of rank = record { 0 = rank }

-- a slot of that rank
abbrev slot : ℕ → ℕ → Bool → List ℕ
slot rank incarnation clean = slot_bytes (rank + 1) (record { incarnation = incarnation; clean = clean })

abbrev no_mail : List ℕ
no_mail = mail_bytes (anonymous message.Empty)

abbrev header : List ℕ
header = header_bytes 2 short_times

abbrev pub new_image : ℕ → List ℕ
new_image sector =
    if sector == 0 then header
    else (if sector == slot_place 0 then slot 0 0 true
    else (if sector == slot_place 1 then slot 1 0 true
    else no_mail))

-- a view of that number that names a rank
abbrev pub named_view : ℕ → ℕ → ℕ → View
named_view rank number members = record { id = (rank + 1) * 2 ^ 56 + number; members = record { 0 = members } }

-- what a node says of itself by its flags: 32 that it knows names, and 96 that it is able besides to lead with the votes of the device alone
abbrev standing_of : ℕ → Standing
standing_of flags = record { flags = flags; weight = 0 }

-- a Hello: whom the node hears, whom it follows, and what it says of itself; a node that follows another or itself is able
abbrev hello : ℕ → ℕ → Option ℕ → ℕ → List ℕ
hello from hears follows flags =
    packet_bytes (packet.Heard (rank_of from) (record { hears = record { 0 = hears }; follows = option_map rank_of follows; able = is_some follows }) (standing_of flags))

abbrev announce : ℕ → View → List ℕ
announce from seen = packet_bytes (packet.Announce (rank_of from) seen)

-- an Ask in the view of both
abbrev ask : ℕ → ℕ → List ℕ
ask from to =
    packet_bytes (packet.Ask (record { from = rank_of from; to = rank_of to; incarnation = 1; install = 1; view = named_view 0 1 3 }))

-- a poll of that number, in the view of that install number
abbrev poll : ℕ → ℕ → ℕ → View → List ℕ
poll from number install seen =
    poll_bytes (record { from = rank_of from; number = number; incarnation = 1; install = install; view = seen })

abbrev reply : ℕ → ℕ → ℕ → Bool → List ℕ
reply to number install agrees =
    reply_bytes (record { to = rank_of to; number = number; incarnation = 1; install = install; agrees = agrees })

-- the arbiter boots, and a lease later the first node comes up
abbrev pub part_up_0 : List BesideHappening
part_up_0 =
    Here (Returns 0 (call.Feed true))
    ∷ Here (Returns 0 (call.Now 0))
    ∷ Here (Returns 0 (call.Send (rank_of 1) (hello 0 1 None 32) true))
    ∷ Here (Returns 0 (call.Read (mail_place 0) no_mail true))
    ∷ Here (Lands 0)
    ∷ Here (Returns 0 (call.Feed true))
    ∷ Here (Returns 0 (call.Now 0))
    ∷ Here (Returns 0 (call.Write (mail_place 0) no_mail true))
    ∷ Here (Lands 0)
    ∷ Here (Returns 0 (call.Feed true))
    ∷ Here (Returns 0 (call.Now 0))
    ∷ Here (Returns 0 (call.Write (slot_place 0) (slot 0 1 false) true))
    ∷ Here (Lands 0)
    ∷ Here (Returns 0 (call.Feed true))
    ∷ Here (Returns 0 (call.Now 0))
    ∷ Here (Returns 0 (call.Read (slot_place 0) (slot 0 0 true) true))
    ∷ Here (Lands 0)
    ∷ Here (Returns 0 (call.Feed true))
    ∷ Here (Returns 0 (call.Now 0))
    ∷ Here (Returns 0 (call.Read 0 header true))
    ∷ Here (Lands 0)
    ∷ Here (Looks 0 0)
    ∷ Here (Begins 0 false None (Some 2) 60)
    ∷ PassesWith 14 [] 1400
    ∷ ArbiterReturns (call.Now 0)
    ∷ ArbiterBegins 0
    ∷ []

abbrev pub up_0 : List BesideHappening
up_0 = part_up_0 ++ []

-- and so does the second one
abbrev pub part_up_1 : List BesideHappening
part_up_1 =
    Here (Returns 1 (call.Feed true))
    ∷ Here (Returns 1 (call.Now 0))
    ∷ Here (Returns 1 (call.Send (rank_of 0) (hello 1 2 None 32) true))
    ∷ Here (Returns 1 (call.Read (mail_place 1) no_mail true))
    ∷ Here (Lands 1)
    ∷ Here (Returns 1 (call.Feed true))
    ∷ Here (Returns 1 (call.Now 0))
    ∷ Here (Returns 1 (call.Write (mail_place 1) no_mail true))
    ∷ Here (Lands 1)
    ∷ Here (Returns 1 (call.Feed true))
    ∷ Here (Returns 1 (call.Now 0))
    ∷ Here (Returns 1 (call.Write (slot_place 1) (slot 1 1 false) true))
    ∷ Here (Lands 1)
    ∷ Here (Returns 1 (call.Feed true))
    ∷ Here (Returns 1 (call.Now 0))
    ∷ Here (Returns 1 (call.Read (slot_place 1) (slot 1 0 true) true))
    ∷ Here (Lands 1)
    ∷ Here (Returns 1 (call.Feed true))
    ∷ Here (Returns 1 (call.Now 0))
    ∷ Here (Returns 1 (call.Read 0 header true))
    ∷ Here (Lands 1)
    ∷ Here (Looks 1 0)
    ∷ Here (Begins 1 false None (Some 2) 60)
    ∷ []

abbrev pub up_1 : List BesideHappening
up_1 = part_up_1 ++ up_0

-- each hears the other one's first Hello
abbrev pub part_hears : List BesideHappening
part_hears =
    Here (Returns 0 (call.Now 0))
    ∷ Here (Returns 0 (call.Receive (received.Packet (hello 1 2 None 32))))
    ∷ Here (Returns 1 (call.Now 0))
    ∷ Here (Returns 1 (call.Receive (received.Packet (hello 0 1 None 32))))
    ∷ []

abbrev pub hears : List BesideHappening
hears = part_hears ++ up_1

-- the second one leans on the device, since no Hello named it yet; the first one, that its Hello names, is sure, and the second one follows it
abbrev pub part_sees : List BesideHappening
part_sees =
    Here (Returns 1 (call.Now 1))
    ∷ Here (Returns 1 (call.Receive (received.Packet (hello 0 3 (Some 0) 32))))
    ∷ Here (Returns 0 (call.Feed true))
    ∷ Here (Returns 0 (call.Now 1))
    ∷ Here (Returns 0 (call.Send (rank_of 1) (hello 0 3 (Some 0) 32) true))
    ∷ Here (Returns 0 (call.Read (mail_place 0) no_mail true))
    ∷ Here (Lands 0)
    ∷ Here (Returns 0 (call.Now 1))
    ∷ Here (Returns 0 (call.Receive (received.Packet (hello 1 3 (Some 1) 96))))
    ∷ Here (Returns 1 (call.Feed true))
    ∷ Here (Returns 1 (call.Now 1))
    ∷ Here (Returns 1 (call.Send (rank_of 0) (hello 1 3 (Some 1) 96) true))
    ∷ Here (Returns 1 (call.Read (mail_place 1) no_mail true))
    ∷ Here (Lands 1)
    ∷ Here (Returns 1 (call.Now 1))
    ∷ Here (Returns 1 (call.Receive received.Nothing))
    ∷ PassesWith 1 [] 100
    ∷ []

abbrev pub sees : List BesideHappening
sees = part_sees ++ hears

-- a loop later it says so, and the first node makes a view of both
abbrev pub part_first_view : List BesideHappening
part_first_view =
    Here (Returns 0 (call.Send (rank_of 1) (announce 0 (named_view 0 1 3)) true))
    ∷ Here (Returns 0 (call.Send (rank_of 1) (hello 0 3 (Some 0) 32) true))
    ∷ Here (Returns 0 (call.Send (rank_of 32) (poll 0 0 1 (named_view 0 1 3)) true))
    ∷ Here (Returns 0 (call.Read (mail_place 0) no_mail true))
    ∷ Here (Lands 0)
    ∷ Here (Returns 0 (call.Send (rank_of 1) (ask 0 1) true))
    ∷ Here (Returns 0 (call.Now 2))
    ∷ Here (Returns 0 (call.Receive (received.Packet (hello 1 3 (Some 0) 32))))
    ∷ Here (Returns 1 (call.Feed true))
    ∷ Here (Returns 1 (call.Now 2))
    ∷ Here (Returns 1 (call.Send (rank_of 0) (hello 1 3 (Some 0) 32) true))
    ∷ Here (Returns 1 (call.Read (mail_place 1) no_mail true))
    ∷ Here (Lands 1)
    ∷ Here (Returns 1 (call.Now 2))
    ∷ Here (Returns 1 (call.Receive received.Nothing))
    ∷ PassesWith 1 [] 100
    ∷ []

abbrev pub first_view : List BesideHappening
first_view = part_first_view ++ sees

-- and the second one takes it
abbrev pub part_one_view : List BesideHappening
part_one_view =
    Here (Returns 1 (call.Send (rank_of 32) (poll 1 0 1 (named_view 0 1 3)) true))
    ∷ Here (Returns 1 (call.Send (rank_of 0) (ask 1 0) true))
    ∷ Here (Returns 1 (call.Now 2))
    ∷ Here (Returns 1 (call.Receive (received.Packet (announce 0 (named_view 0 1 3)))))
    ∷ Here (Returns 0 (call.Feed true))
    ∷ Here (Returns 0 (call.Now 2))
    ∷ []

abbrev pub one_view : List BesideHappening
one_view = part_one_view ++ first_view

-- then no packet comes between them, and they miss each other
abbrev pub part_misses : List BesideHappening
part_misses =
    Here (Returns 1 (call.Feed true))
    ∷ Here (Returns 1 (call.Now 6))
    ∷ Here (Returns 1 (call.Send (rank_of 0) (announce 1 (named_view 0 1 3)) true))
    ∷ Here (Returns 1 (call.Send (rank_of 0) (hello 1 2 (Some 1) 96) true))
    ∷ Here (Returns 1 (call.Send (rank_of 32) (poll 1 1 1 (named_view 0 1 3)) true))
    ∷ Here (Returns 1 (call.Read (mail_place 1) no_mail true))
    ∷ Here (Lands 1)
    ∷ Here (Returns 1 (call.Send (rank_of 0) (ask 1 0) true))
    ∷ Here (Returns 1 (call.Now 6))
    ∷ Here (Returns 1 (call.Receive received.Nothing))
    ∷ Here (Returns 0 (call.Feed true))
    ∷ Here (Returns 0 (call.Now 6))
    ∷ Here (Returns 0 (call.Send (rank_of 1) (announce 0 (named_view 0 1 3)) true))
    ∷ Here (Returns 0 (call.Send (rank_of 1) (hello 0 1 (Some 0) 96) true))
    ∷ Here (Returns 0 (call.Send (rank_of 32) (poll 0 1 1 (named_view 0 1 3)) true))
    ∷ Here (Returns 0 (call.Read (mail_place 0) no_mail true))
    ∷ Here (Lands 0)
    ∷ Here (Returns 0 (call.Send (rank_of 1) (ask 0 1) true))
    ∷ Here (Returns 0 (call.Now 6))
    ∷ Here (Returns 0 (call.Receive received.Nothing))
    ∷ PassesWith 4 [] 400
    ∷ []

abbrev pub misses : List BesideHappening
misses = part_misses ++ one_view

-- a loop later each sees itself alone
abbrev pub part_alone : List BesideHappening
part_alone =
    Here (Returns 1 (call.Feed true))
    ∷ Here (Returns 1 (call.Now 7))
    ∷ Here (Returns 1 (call.Send (rank_of 0) (announce 1 (named_view 1 2 2)) true))
    ∷ Here (Returns 1 (call.Send (rank_of 0) (hello 1 2 (Some 1) 96) true))
    ∷ Here (Returns 1 (call.Read (mail_place 1) no_mail true))
    ∷ Here (Lands 1)
    ∷ Here (Returns 1 (call.Now 7))
    ∷ Here (Returns 1 (call.Receive received.Nothing))
    ∷ Here (Returns 0 (call.Feed true))
    ∷ Here (Returns 0 (call.Now 7))
    ∷ Here (Returns 0 (call.Send (rank_of 1) (announce 0 (named_view 0 2 1)) true))
    ∷ Here (Returns 0 (call.Send (rank_of 1) (hello 0 1 (Some 0) 96) true))
    ∷ Here (Returns 0 (call.Read (mail_place 0) no_mail true))
    ∷ Here (Lands 0)
    ∷ Here (Returns 0 (call.Now 7))
    ∷ Here (Returns 0 (call.Receive received.Nothing))
    ∷ PassesWith 1 [] 100
    ∷ []

abbrev pub alone : List BesideHappening
alone = part_alone ++ misses

-- and another loop later the first node polls
abbrev pub part_polls_0 : List BesideHappening
part_polls_0 =
    Here (Returns 0 (call.Feed true))
    ∷ Here (Returns 0 (call.Now 8))
    ∷ Here (Returns 0 (call.Send (rank_of 1) (announce 0 (named_view 0 2 1)) true))
    ∷ Here (Returns 0 (call.Send (rank_of 1) (hello 0 1 (Some 0) 96) true))
    ∷ Here (Returns 0 (call.Send (rank_of 32) (poll 0 2 2 (named_view 0 2 1)) true))
    ∷ Here (Returns 0 (call.Read (mail_place 0) no_mail true))
    ∷ Here (Lands 0)
    ∷ Here (Returns 0 (call.Now 8))
    ∷ Here (Returns 0 (call.Receive received.Nothing))
    ∷ PassesWith 1 [] 100
    ∷ []

abbrev pub polls_0 : List BesideHappening
polls_0 = part_polls_0 ++ alone

-- and the second one
abbrev pub part_polls_1 : List BesideHappening
part_polls_1 =
    Here (Returns 1 (call.Feed true))
    ∷ Here (Returns 1 (call.Now 8))
    ∷ Here (Returns 1 (call.Send (rank_of 0) (announce 1 (named_view 1 2 2)) true))
    ∷ Here (Returns 1 (call.Send (rank_of 0) (hello 1 2 (Some 1) 96) true))
    ∷ Here (Returns 1 (call.Send (rank_of 32) (poll 1 2 2 (named_view 1 2 2)) true))
    ∷ Here (Returns 1 (call.Read (mail_place 1) no_mail true))
    ∷ Here (Lands 1)
    ∷ Here (Returns 1 (call.Now 8))
    ∷ Here (Returns 1 (call.Receive received.Nothing))
    ∷ []

abbrev pub polls_1 : List BesideHappening
polls_1 = part_polls_1 ++ polls_0

-- the arbiter hears the first one's poll, and says yes
abbrev pub part_answered_0 : List BesideHappening
part_answered_0 =
    Here (Returns 0 (call.Now 8))
    ∷ Here (Returns 0 (call.Receive (received.Packet (reply 0 2 2 true))))
    ∷ ArbiterReturns (call.Send (rank_of 0) (reply 0 2 2 true) true)
    ∷ ArbiterReturns (call.Now 22)
    ∷ ArbiterReturns (call.Receive (received.Packet (poll 0 2 2 (named_view 0 2 1))))
    ∷ []

abbrev pub answered_0 : List BesideHappening
answered_0 = part_answered_0 ++ polls_1

-- it hears the second one's, and says no
abbrev pub part_answered_1 : List BesideHappening
part_answered_1 =
    Here (Returns 1 (call.Now 8))
    ∷ Here (Returns 1 (call.Receive (received.Packet (reply 1 2 2 false))))
    ∷ ArbiterReturns (call.Send (rank_of 1) (reply 1 2 2 false) true)
    ∷ ArbiterReturns (call.Now 22)
    ∷ ArbiterReturns (call.Receive (received.Packet (poll 1 2 2 (named_view 1 2 2))))
    ∷ []

abbrev pub answered_1 : List BesideHappening
answered_1 = part_answered_1 ++ answered_0
