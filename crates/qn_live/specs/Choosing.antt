-- Which entry a turn takes: this project's profile.
use Rattle.std.specs.Prelude.{ℕ, Bool, true, false, not, ◌&&◌, ◌||◌, ◌-◌, ◌==◌, nat_le, [], ◌∷◌, Option, None, Some, is_some, option_map, if◌then◌else◌}
use Rattle.std.specs.Option.{option_or, option_map_or}
use Rattle.std.specs.Str.{bytes_eq}
use Rattle.qn_base.specs.declared.calls.Call.TheVariants as call
use Rattle.qn_base.specs.declared.calls.Received.{Received}
use Rattle.qn_base.specs.declared.calls.Received.TheVariants as received
use Rattle.qn_base.specs.declared.ids.View.{View}
use Rattle.qn_base.specs.Plans.{Plan, Ends, Asks, ◌>>=◌}
use Rattle.qn_io.specs.Answered.{received_in}
use Rattle.qn_model.specs.declared.configuration.Settings.{Settings}
use Rattle.qn_model.specs.declared.packets.Packet.{Packet}
use Rattle.qn_model.specs.declared.packets.Packet.TheVariants as packet
use Rattle.qn_model.specs.declared.seen.SlotSeen.{SlotSeen}
use Rattle.qn_model.specs.declared.seen.SlotSeen.TheVariants as slot
use Rattle.qn_model.specs.declared.seen.MailSeen.{MailSeen}
use Rattle.qn_model.specs.declared.seen.MailSeen.TheVariants as mail
use Rattle.qn_model.specs.declared.entries.What.{What}
use Rattle.qn_model.specs.declared.entries.What.TheVariants as what
use Rattle.qn_model.specs.Holding.{holds}
use Rattle.qn_model.specs.Log.{now}
use Rattle.qn_model.specs.Phases.{phase, is_up}
use Rattle.qn_model.specs.Steps.{entry_of}
use Rattle.qn_wire.specs.Reading.{packet_of}
use Rattle.qn_member.specs.Naming.{NamingMaker, after_named_announce, after_named_hello, after_named_plain_hello, after_stand, after_standing}
use Rattle.qn_member.specs.NamingViews.{after_look, answer_at}
use Rattle.qn_live.specs.declared.place.Choice.{Choice}
use Rattle.qn_live.specs.declared.place.Choice.TheVariants as choice
use Rattle.qn_live.specs.declared.place.Waits.{Waits}
use Rattle.qn_live.specs.declared.words.Own.{Own}
use Rattle.qn_live.specs.Running.{RunState}
use Rattle.qn_live.specs.Polling.{choice_beside, reply_in}
use Rattle.qn_live.specs.Words.{own_by, words_after, words_at}
use Rattle.qn_safety.specs.Poller.{Poller}

-- what was read could not be read
abbrev pub is_failed_slot : SlotSeen → Bool
is_failed_slot (slot.Read own) = false
is_failed_slot slot.Damaged = false
is_failed_slot slot.Failed = true

abbrev pub is_failed_mail : MailSeen → Bool
is_failed_mail (mail.Read message) = false
is_failed_mail mail.Damaged = false
is_failed_mail mail.Failed = true

-- an entry is the failed answer of a disk operation of a node that takes part; a boot whose operation failed is over
abbrev pub failed_answer : What → Bool
failed_answer (what.SlotRead rank seen) = is_failed_slot seen
failed_answer (what.MailRead seen) = is_failed_mail seen
failed_answer (what.MailWritten rank ok) = not ok
failed_answer (what.Closed ok) = not ok
failed_answer what.Begin = false
failed_answer what.BeginClean = false
failed_answer (what.Header seen) = false
failed_answer (what.MailChecked seen) = false
failed_answer (what.Claimed ok) = false
failed_answer (what.Cleared ok) = false
failed_answer (what.View view) = false
failed_answer (what.Ask ask) = false
failed_answer (what.Tell tell) = false
failed_answer (what.Device agrees) = false
failed_answer what.Tick = false
failed_answer (what.Stopped ok) = false
failed_answer what.Leave = false

-- the node is to leave at this turn: it is up, and its host has asked it to, or the number of the turn has come
abbrev pub is_to_leave : Settings → Option ℕ → ℕ → RunState → Bool
is_to_leave s leave turn st = is_up (phase s st.log) && (st.asked || option_map_or (λ from. nat_le from turn) leave false)

-- The entry of a turn that needs no packet, and the answers that wait then: the answer of a Stop, else of a disk operation,
-- unless the turn before took a failed one, else the order to leave.
abbrev pub ready : Bool → Bool → Waits → Option (What × Waits)
ready leaves rests waits =
    option_or
    (option_map (λ ok. (what.Stopped ok, record waits { stopped = None })) waits.stopped)
    (option_or
    (if rests then None else option_map (λ answer. (answer, record waits { disk = None })) waits.disk)
    (if leaves then Some (what.Leave, waits) else None))

-- a packet is an entry of this node: a vote of the device, or an Ask or a Tell to it
abbrev pub is_entry_for : ℕ → Packet → Bool
is_entry_for me (packet.Ask ask) = ask.to.0 == me
is_entry_for me (packet.Tell tell) = tell.to.0 == me
is_entry_for me (packet.Vote agrees) = true
is_entry_for me (packet.Hello from) = false
is_entry_for me (packet.Heard from said standing) = false
is_entry_for me (packet.Announce from view) = false

-- what a turn takes that received this packet, or none
abbrev pub choice_of : ℕ → Option Packet → Choice
choice_of me None = choice.Open None
choice_of me (Some p) = if is_entry_for me p then choice.Whole (entry_of p) else choice.Open (Some p)

-- the packet that came, where it is one
abbrev pub packet_in : Received → Option Packet
packet_in (received.Packet bytes) = packet_of bytes
packet_in received.Nothing = None
packet_in received.Failed = None

-- what a turn takes that received this: with an arbiter, a reply of it as well
abbrev pub choice_where : Bool → ℕ → Received → Choice
choice_where polls me got =
    if polls then choice_beside me (reply_in got) (choice_of me (packet_in got)) else choice_of me (packet_in got)

abbrev pub choice_in : ℕ → Option Poller → Received → Choice
choice_in me poller got = choice_where (is_some poller) me got

abbrev pub receive_plan : Plan Received
receive_plan = Asks (call.Receive received.Nothing) (λ call. Ends (received_in call))

-- what came is the request of this host that the node is to leave: `QN`, a kind that no packet has, and 1
abbrev pub is_request : Received → Bool
is_request (received.Packet bytes) = bytes_eq bytes (81 ∷ 78 ∷ 12 ∷ 1 ∷ [])
is_request received.Nothing = false
is_request received.Failed = false

-- the state after something came: what the host of the node asks and says comes as a packet does
abbrev pub heard_request : Received → RunState → RunState
heard_request got st =
    record st { asked = st.asked || is_request got; words = words_after (now st.log) got st.words }

-- the last look of the view maker is a loop ago or more
abbrev pub is_late : RunState → Bool
is_late st = is_some st.maker && nat_le st.loop_ms (now st.log - st.last_look)

-- what a turn takes that needs a packet: none where that look is late, so that no flood of packets keeps it from looking
abbrev pub open_plan : ℕ → RunState → Bool → Plan (Choice × RunState)
open_plan me st late =
    if late then Ends (choice.Open None, st) else (receive_plan >>= (λ got. Ends (choice_in me st.poller got, heard_request got st)))

-- what a turn takes, and what is left then
unfoldable pub choice_plan : ℕ → Bool → RunState → Plan (Choice × RunState)
choice_plan me leaves st =
    option_map_or
    (λ taken. Ends (choice.Whole taken.0, record st { waits = taken.1 }))
    (ready leaves st.rests st.waits)
    (open_plan me st (is_late st))

-- the tick of the last look, after a turn took this at a tick; while there is no view maker each entry counts as a look
abbrev pub look_after : ℕ → Choice → Option NamingMaker → ℕ → ℕ
look_after tick (choice.Open p) maker last = tick
look_after tick (choice.Whole entry) None last = tick
look_after tick (choice.Whole entry) (Some m) last = last
look_after tick (choice.Answer reply) None last = tick
look_after tick (choice.Answer reply) (Some m) last = last

-- the state at a tick, before what was chosen is taken
abbrev pub looking : ℕ → Choice × RunState → RunState
looking tick chosen =
    record chosen.1 {
      last_look = look_after tick chosen.0 chosen.1.maker chosen.1.last_look;
      words = words_at tick chosen.1.loop_ms (holds chosen.1.log) chosen.1.words;
    }

-- what a node says of itself
abbrev pub own_of : RunState → Own
own_of st = own_by st.words (holds st.log)

-- what the view maker hears of a packet
abbrev pub heard : ℕ → Option Packet → NamingMaker → NamingMaker
heard tick None m = m
heard tick (Some (packet.Hello from)) m = after_named_plain_hello tick from.0 m
heard tick (Some (packet.Heard from said standing)) m = after_standing from.0 standing (after_named_hello tick from.0 said m)
heard tick (Some (packet.Announce from view)) m = after_named_announce from.0 view m
heard tick (Some (packet.Ask ask)) m = m
heard tick (Some (packet.Tell tell)) m = m
heard tick (Some (packet.Vote agrees)) m = m

-- the entry of a look of the view maker
abbrev pub view_or_tick : Option View → What
view_or_tick None = what.Tick
view_or_tick (Some view) = what.View view

-- what the view maker knows where it is to look: it heard the packet, and what its own node says of itself
abbrev pub told : ℕ → Own → Option Packet → NamingMaker → NamingMaker
told tick own p m = after_stand own.said own.holds (heard tick p m)

-- The entry of a turn at its tick, and the view maker then, by what the node says of itself: where the choice is open, the view
-- maker is told that and what came, and looks.
abbrev pub looked : ℕ → Own → Choice → Option NamingMaker → Option NamingMaker × What
looked tick own (choice.Whole entry) maker = (maker, entry)
looked tick own (choice.Answer reply) maker = (maker, what.Tick)
looked tick own (choice.Open p) None = (None, what.Tick)
looked tick own (choice.Open p) (Some m) =
    (Some (after_look tick (told tick own p m)), view_or_tick (answer_at tick (told tick own p m)))
