-- What is kept of a packet that was sent: this project's profile.
use Rattle.std.specs.Prelude.{◌<◌, ℕ, List, All, slice_index_or}
use Rattle.qn_base.specs.declared.ids.Rank.{Rank}
use Rattle.qn_base.specs.declared.ids.View.{View}
use Rattle.qn_model.specs.declared.packets.Packet.{Packet}
use Rattle.qn_model.specs.declared.packets.Packet.TheVariants as packet
use Rattle.qn_model.specs.declared.packets.Sent.{Sent}
use Rattle.qn_cluster.specs.declared.kept.Heading.{Heading}
use Rattle.qn_cluster.specs.declared.kept.Kept.{Kept}
use Rattle.qn_cluster.specs.declared.kept.Kind.{Kind}
use Rattle.qn_cluster.specs.declared.kept.Kind.TheVariants as kind

abbrev pub no_view : View
no_view = record { id = 0; members = record { 0 = 0 } }

abbrev pub no_heading : Heading
no_heading = record { from = record { 0 = 0 }; incarnation = 0; install = 0; view = no_view }

-- the heading of a packet, with 0 for what the packet does not name
abbrev pub heading_of : Packet → Heading
heading_of (packet.Ask ask) = record { from = ask.from; incarnation = ask.incarnation; install = ask.install; view = ask.view }
heading_of (packet.Tell tell) = record { from = tell.from; incarnation = tell.incarnation; install = tell.install; view = tell.view }
heading_of (packet.Hello from) = record no_heading { from = from }
heading_of (packet.Heard from said standing) = record no_heading { from = from }
heading_of (packet.Announce from view) = record no_heading { from = from; view = view }
heading_of (packet.Vote agrees) = no_heading

-- the node that a packet names as its receiver, 0 where it names none
abbrev pub addressee_of : Packet → Rank
addressee_of (packet.Ask ask) = ask.to
addressee_of (packet.Tell tell) = tell.to
addressee_of (packet.Hello from) = record { 0 = 0 }
addressee_of (packet.Heard from said standing) = record { 0 = 0 }
addressee_of (packet.Announce from view) = record { 0 = 0 }
addressee_of (packet.Vote agrees) = record { 0 = 0 }

abbrev pub kind_of : Packet → Kind
kind_of (packet.Ask ask) = kind.Ask
kind_of (packet.Tell tell) = kind.Tell tell.holds tell.released
kind_of (packet.Hello from) = kind.Hello
kind_of (packet.Heard from said standing) = kind.Heard said standing
kind_of (packet.Announce from view) = kind.Announce
kind_of (packet.Vote agrees) = kind.Vote agrees

-- the packet of a heading, a named receiver and a kind
abbrev pub packet_of : Heading → Rank → Kind → Packet
packet_of heading to kind.Ask =
    packet.Ask (record { from = heading.from; to = to; incarnation = heading.incarnation; install = heading.install; view = heading.view })
packet_of heading to (kind.Tell holds released) =
    packet.Tell (record { from = heading.from; to = to; incarnation = heading.incarnation; install = heading.install; view = heading.view; holds = holds; released = released })
packet_of heading to kind.Hello = packet.Hello heading.from
packet_of heading to (kind.Heard said standing) = packet.Heard heading.from said standing
packet_of heading to kind.Announce = packet.Announce heading.from heading.view
packet_of heading to (kind.Vote agrees) = packet.Vote agrees

-- the packet that is kept, where these are the headings
abbrev pub sent_of : List Heading → Kept → Sent
sent_of headings kept =
    record { to = kept.to; packet = packet_of (slice_index_or headings kept.heading no_heading) kept.addressee kept.kind }

-- the place of each heading is that of one
abbrev pub AreHeaded : ℕ → List Kept → Type 0
AreHeaded count kept = All (λ k. k.heading < count) kept
