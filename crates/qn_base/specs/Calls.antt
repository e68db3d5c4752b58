use Rattle.std.specs.Prelude.{Bool, true, false, not, ◌||◌, List, [], ◌∷◌}
use Rattle.qn_base.specs.declared.calls.Call.{Call}
use Rattle.qn_base.specs.declared.calls.Call.TheVariants.{OpenImage, OpenNode, Now, Receive, Read, Write, Feed, Start, Stop, Send, Disarm, Halt}
use Rattle.qn_base.specs.declared.calls.Received.{Received}
use Rattle.qn_base.specs.declared.calls.Received.TheVariants.{Packet, Nothing, Failed}

-- this project's profile: the question of a call, which is the call with its answer wiped
abbrev pub blank : Call → Call
blank (OpenImage path ok) = OpenImage path true
blank (OpenNode images image watchdog resource port rank ok) = OpenNode images image watchdog resource port rank true
blank (Now tick) = Now 0
blank (Receive got) = Receive Nothing
blank (Read sector bytes ok) = Read sector [] true
blank (Write sector bytes ok) = Write sector bytes true
blank (Feed ok) = Feed true
blank (Start ok) = Start true
blank (Stop ok) = Stop true
blank (Send to bytes ok) = Send to bytes true
blank (Disarm ok) = Disarm true
blank (Halt code) = Halt code

-- whether nothing was received because the call failed
abbrev pub is_receive_failed : Received → Bool
is_receive_failed (Packet bytes) = false
is_receive_failed Nothing = false
is_receive_failed Failed = true

-- this project's profile: whether the call answered Failed
abbrev pub is_failed : Call → Bool
is_failed (OpenImage path ok) = not ok
is_failed (OpenNode images image watchdog resource port rank ok) = not ok
is_failed (Now tick) = false
is_failed (Receive got) = is_receive_failed got
is_failed (Read sector bytes ok) = not ok
is_failed (Write sector bytes ok) = not ok
is_failed (Feed ok) = not ok
is_failed (Start ok) = not ok
is_failed (Stop ok) = not ok
is_failed (Send to bytes ok) = not ok
is_failed (Disarm ok) = not ok
is_failed (Halt code) = false

-- whether one of the calls answered Failed
abbrev pub some_failed : List Call → Bool
some_failed [] = false
some_failed (call ∷ calls) = is_failed call || some_failed calls
