-- What a node that takes part sends to the others: where a Hello is due comes the Hello, and then the view that the node announces;
-- and a farewell at the end of a clean leave. This project's profile.
use Rattle.std.specs.Prelude.{ℕ, Bool, true, false, not, ◌-◌, ◌==◌, List, [], ◌∷◌, ◌++◌, map, filter, length, Option, None, Some, option_map, unwrap_or, option_and_then, if◌then◌else◌}
use Rattle.std.specs.Option.{option_map_or}
use Rattle.std.specs.List.{range_with_len}
use Rattle.qn_base.specs.declared.calls.Call.{Call}
use Rattle.qn_base.specs.declared.calls.Call.TheVariants as call
use Rattle.qn_base.specs.declared.ids.View.{View}
use Rattle.qn_base.specs.Plans.{Plan, Ends, Asks}
use Rattle.qn_model.specs.declared.configuration.Settings.{Settings}
use Rattle.qn_model.specs.declared.packets.Packet.{Packet}
use Rattle.qn_model.specs.declared.packets.Packet.TheVariants as packet
use Rattle.qn_model.specs.declared.packets.Sent.{Sent}
use Rattle.qn_model.specs.Phases.{phase, is_live}
use Rattle.qn_model.specs.Wanted.{rank_of}
use Rattle.qn_wire.specs.Packets.{packet_bytes}
use Rattle.qn_member.specs.Announcing.{view_to_leave}
use Rattle.qn_member.specs.Naming.{NamingMaker, after_stand, first_naming}
use Rattle.qn_member.specs.NamingViews.{is_naming_hello_due, view_announced}
use Rattle.qn_live.specs.declared.live_end.LiveEnd.{LiveEnd}
use Rattle.qn_live.specs.declared.live_end.LiveEnd.TheVariants as end
use Rattle.qn_live.specs.declared.place.Greeting.{Greeting}
use Rattle.qn_live.specs.declared.place.Greeting.TheVariants as greeting
use Rattle.qn_live.specs.declared.words.Own.{Own}
use Rattle.qn_live.specs.Choosing.{own_of}
use Rattle.qn_live.specs.Running.{RunState}

-- the view maker of a node that begins to take part knows what the node says of itself
abbrev pub maker_begun : Settings → ℕ → ℕ → Own → NamingMaker
maker_begun s me loop_ms own = after_stand own.said own.holds (first_naming s me loop_ms)

-- the view maker of a node: it is made in the turn that makes the node up, and is there while the node takes part
abbrev pub maker_where : Bool → NamingMaker → Option NamingMaker → Option NamingMaker
maker_where live begun maker = if live then Some (unwrap_or maker begun) else None

abbrev pub maker_of : Settings → ℕ → RunState → Option NamingMaker
maker_of s me st = maker_where (is_live (phase s st.log)) (maker_begun s me st.loop_ms (own_of st)) st.maker

-- the other configured ranks from one on, ascending
abbrev pub others_from : Settings → ℕ → ℕ → List ℕ
others_from s me from = filter (λ rank. not (rank == me)) (range_with_len from (length s.nodes - from))

-- a packet to each of these ranks
abbrev pub to_each : Packet → List ℕ → List Sent
to_each p ranks = map (λ rank. record { to = rank_of rank; packet = p }) ranks

-- the packet of a greeting
abbrev pub greeting_packet : ℕ → Greeting → Packet
greeting_packet me (greeting.Hello said standing) = packet.Heard (rank_of me) said standing
greeting_packet me (greeting.Announce view) = packet.Announce (rank_of me) view

-- the call that sends a greeting to a rank
abbrev pub greeting_call : ℕ → Greeting → ℕ → Call
greeting_call me said to = call.Send (rank_of to) (packet_bytes (greeting_packet me said)) true

-- a greeting to all others
abbrev pub to_all : Settings → ℕ → Greeting → List Sent
to_all s me said = to_each (greeting_packet me said) (others_from s me 0)

-- the Hello of a node: what the last look found, and what the node says of itself
abbrev pub hello_of : NamingMaker → Greeting
hello_of m = greeting.Hello m.maker.says m.stands

-- the greeting that follows another one: after the Hello the announcement of the present view, where the node announces one
abbrev pub greeting_after : Greeting → Option NamingMaker → Option Greeting
greeting_after (greeting.Hello said standing) maker =
    option_map (λ view. greeting.Announce view) (option_and_then view_announced maker)
greeting_after (greeting.Announce view) maker = None

-- the announcement of a view to all others, where the node announces one
abbrev pub announcements : Settings → ℕ → Option View → List Sent
announcements s me announced = option_map_or (λ view. to_all s me (greeting.Announce view)) announced []

-- what is said after a greeting
abbrev pub said_after : Settings → ℕ → Option NamingMaker → Greeting → List Sent
said_after s me maker (greeting.Hello said standing) = announcements s me (option_and_then view_announced maker)
said_after s me maker (greeting.Announce view) = []

-- what is left to send: this greeting to the other nodes from a rank on, and those that follow it to all others
abbrev pub to_send : Settings → ℕ → Option NamingMaker → Greeting → ℕ → List Sent
to_send s me maker said from = to_each (greeting_packet me said) (others_from s me from) ++ said_after s me maker said

-- the first greeting of a turn: a Hello, where one is due
abbrev pub first_greeting : Bool → Option NamingMaker → Option Greeting
first_greeting due maker = if due then option_map hello_of maker else None

-- what is sent in a turn, by whether a Hello is due
abbrev pub hellos_where : Bool → Settings → ℕ → Option NamingMaker → List Sent
hellos_where due s me maker = option_map_or (λ first. to_send s me maker first 0) (first_greeting due maker) []

-- the view of the farewell after an end: only a node that left clean says one
abbrev pub farewell_after : LiveEnd → Option NamingMaker → Option View
farewell_after (end.Left clean) maker = if clean then option_and_then (λ m. view_to_leave m.maker) maker else None
farewell_after (end.Turns phase holds answer why) maker = None
farewell_after (end.ClockBack before now) maker = None
farewell_after (end.SelfReset message) maker = None
farewell_after (end.BootHalted stopped) maker = None

-- what is left to send of a farewell: its view, announced to the other nodes from a rank on
abbrev pub farewells : Settings → ℕ → View → ℕ → List Sent
farewells s me view from = to_each (greeting_packet me (greeting.Announce view)) (others_from s me from)

-- a Hello is due
abbrev pub is_due : ℕ → Option NamingMaker → Bool
is_due tick maker = option_map_or (is_naming_hello_due tick) maker false

-- the packets are sent; that a send failed is passed over
unfoldable pub sends_plan : List Sent → Plan (Unit {0})
sends_plan [] = Ends tt
sends_plan (sent ∷ more) = Asks (call.Send sent.to (packet_bytes sent.packet) true) (λ call. sends_plan more)
