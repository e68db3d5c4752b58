-- The calls of a running node as values: what is asked, and what a call gave. This project's profile.
use Rattle.std.specs.Prelude.{◌≡◌, ◌<◌, Bool, true, false, not, [], if◌then◌else◌}
use Rattle.std.proofs.Common.{refl}
use Rattle.qn_base.specs.declared.calls.Call.{Call}
use Rattle.qn_base.specs.declared.calls.Call.TheVariants as call
use Rattle.qn_base.specs.declared.calls.Received.TheVariants as received
use Rattle.qn_base.specs.Calls.{is_failed, blank}
use Rattle.qn_io.specs.Answered.{bytes_read, is_read, received_in, time_of}
use Rattle.qn_io.specs.Receives.{received}
use Rattle.qn_live.specs.declared.asked.Asked.{Asked}
use Rattle.qn_live.specs.declared.asked.Asked.TheVariants as asked
use Rattle.qn_live.specs.declared.asked.Given.{Given}
use Rattle.qn_live.specs.declared.asked.Room.{Room}

-- a sector is one of an image, and what is sent is to a rank, or to the arbiter, whose seat is 32
abbrev pub IsWithin : Asked → Type 0
IsWithin (asked.Read sector) = sector < 1024
IsWithin (asked.Write sector) = sector < 1024
IsWithin asked.Receive = Unit {0}
IsWithin asked.Now = Unit {0}
IsWithin asked.Feed = Unit {0}
IsWithin asked.Start = Unit {0}
IsWithin asked.Stop = Unit {0}
IsWithin (asked.Send to) = to.0 < 33
IsWithin asked.Disarm = Unit {0}
IsWithin (asked.Halt code) = Unit {0}

-- the same where the outside serves the sectors of three images
abbrev pub IsServed : Asked → Type 0
IsServed (asked.Read sector) = sector < 3072
IsServed (asked.Write sector) = sector < 3072
IsServed asked.Receive = Unit {0}
IsServed asked.Now = Unit {0}
IsServed asked.Feed = Unit {0}
IsServed asked.Start = Unit {0}
IsServed asked.Stop = Unit {0}
IsServed (asked.Send to) = to.0 < 33
IsServed asked.Disarm = Unit {0}
IsServed (asked.Halt code) = Unit {0}

-- the call is a look at the clock
abbrev pub is_look : Asked → Bool
is_look asked.Now = true
is_look asked.Receive = false
is_look (asked.Read sector) = false
is_look (asked.Write sector) = false
is_look asked.Feed = false
is_look asked.Start = false
is_look asked.Stop = false
is_look (asked.Send to) = false
is_look asked.Disarm = false
is_look (asked.Halt code) = false

-- the call that is asked for, with no answer
abbrev pub question_of : Asked → Room → Call
question_of asked.Receive room = call.Receive received.Nothing
question_of asked.Now room = call.Now 0
question_of (asked.Read sector) room = call.Read sector [] true
question_of (asked.Write sector) room = call.Write sector room.sector true
question_of asked.Feed room = call.Feed true
question_of asked.Start room = call.Start true
question_of asked.Stop room = call.Stop true
question_of (asked.Send to) room = call.Send to room.sent.items true
question_of asked.Disarm room = call.Disarm true
question_of (asked.Halt code) room = call.Halt code

-- the same with its answer, by the room before the call and after it
abbrev pub told : Asked → Room → Given → Room → Call
told asked.Receive before given after = call.Receive (received given.got after.packet)
told asked.Now before given after = call.Now given.tick
told (asked.Read sector) before given after = call.Read sector (if given.ok then after.sector else []) given.ok
told (asked.Write sector) before given after = call.Write sector before.sector given.ok
told asked.Feed before given after = call.Feed given.ok
told asked.Start before given after = call.Start given.ok
told asked.Stop before given after = call.Stop given.ok
told (asked.Send to) before given after = call.Send to before.sent.items given.ok
told asked.Disarm before given after = call.Disarm given.ok
told (asked.Halt code) before given after = call.Halt code

-- the call gave this answer, with its bytes in the room
pub record Tells (made : Call) (given : Given) (room : Room) : Type 0 where
  pub tick : time_of made ≡ given.tick
  pub got : received_in made ≡ received given.got room.packet
  pub ok : is_failed made ≡ not given.ok
  pub bytes : is_read made ≡ true → is_failed made ≡ false → bytes_read made ≡ room.sector

-- a call without its answer is the question
pub blank-told : (wanted : Asked) (before : Room) (given : Given) (after : Room) → blank (told wanted before given after) ≡ question_of wanted before
blank-told asked.Receive before given after = refl
blank-told asked.Now before given after = refl
blank-told (asked.Read sector) before given after = refl
blank-told (asked.Write sector) before given after = refl
blank-told asked.Feed before given after = refl
blank-told asked.Start before given after = refl
blank-told asked.Stop before given after = refl
blank-told (asked.Send to) before given after = refl
blank-told asked.Disarm before given after = refl
blank-told (asked.Halt code) before given after = refl
