-- What comes where a Hello is due: this project's profile.
use Rattle.std.specs.Prelude.{ℕ, true, List, ◌++◌}
use Rattle.qn_base.specs.declared.calls.Call.{Call}
use Rattle.qn_base.specs.declared.calls.Call.TheVariants as call
use Rattle.qn_model.specs.declared.configuration.Settings.{Settings}
use Rattle.qn_model.specs.declared.packets.Sent.{Sent}
use Rattle.qn_wire.specs.Packets.{packet_bytes}
use Rattle.qn_member.specs.Naming.{NamingMaker}
use Rattle.qn_member.specs.NamingViews.{view_announced}
use Rattle.qn_live.specs.Greetings.{announcements, hello_of, to_all}

-- a Hello to each other configured node, and then the view that the node announces to the same ones
abbrev pub hellos_of : Settings → ℕ → NamingMaker → List Sent
hellos_of s me m = to_all s me (hello_of m) ++ announcements s me (view_announced m)

-- the call that sends a packet, with its answer wiped
abbrev pub send_call : Sent → Call
send_call sent = call.Send sent.to (packet_bytes sent.packet) true
