-- The calls that an outside can have made, of values that there are, and what a chain of calls shows of it. This project's profile.
use Rattle.std.specs.Prelude.{◌≡◌, ◌≤◌, ◌<◌, ◌^◌, ℕ, Bool, true, false, List, [], ◌∷◌, length}
use Rattle.hex.specs.Hex.{IsBytes}
use Rattle.qn_base.specs.declared.calls.Call.{Call}
use Rattle.qn_base.specs.declared.calls.Call.TheVariants as call
use Rattle.qn_base.specs.declared.calls.Received.{Received}
use Rattle.qn_base.specs.declared.calls.Received.TheVariants as received

-- whether an outside can have made the call, and what it read: a sector has 512 bytes, a packet that came at most 129 and one
-- that is sent at most 128
abbrev pub IsSoundReceived : Received → Type 0
IsSoundReceived (received.Packet bytes) = length bytes ≤ 129
IsSoundReceived received.Nothing = Unit {0}
IsSoundReceived received.Failed = Unit {0}

abbrev pub IsSoundRead : List ℕ → Bool → Type 0
IsSoundRead bytes true = length bytes ≡ 512
IsSoundRead bytes false = bytes ≡ []

abbrev pub IsLogged : Call → Type 0
IsLogged (call.OpenImage path ok) = ⊥
IsLogged (call.OpenNode images image watchdog resource port rank ok) = ⊥
IsLogged (call.Now tick) = Unit {0}
IsLogged (call.Receive got) = IsSoundReceived got
IsLogged (call.Read sector bytes ok) = IsSoundRead bytes ok
IsLogged (call.Write sector bytes ok) = length bytes ≡ 512
IsLogged (call.Feed ok) = Unit {0}
IsLogged (call.Start ok) = Unit {0}
IsLogged (call.Stop ok) = Unit {0}
IsLogged (call.Send to bytes ok) = (to.0 < 33) × (length bytes ≤ 128)
IsLogged (call.Disarm ok) = Unit {0}
IsLogged (call.Halt code) = Unit {0}

-- the bytes and the numbers of a call fit their types
abbrev pub HasReceivedBytes : Received → Type 0
HasReceivedBytes (received.Packet bytes) = IsBytes bytes
HasReceivedBytes received.Nothing = Unit {0}
HasReceivedBytes received.Failed = Unit {0}

abbrev pub FitsTypes : Call → Type 0
FitsTypes (call.OpenImage path ok) = Unit {0}
FitsTypes (call.OpenNode images image watchdog resource port rank ok) = Unit {0}
FitsTypes (call.Now tick) = tick < 2 ^ 64
FitsTypes (call.Receive got) = HasReceivedBytes got
FitsTypes (call.Read sector bytes ok) = (sector < 2 ^ 32) × IsBytes bytes
FitsTypes (call.Write sector bytes ok) = (sector < 2 ^ 32) × IsBytes bytes
FitsTypes (call.Feed ok) = Unit {0}
FitsTypes (call.Start ok) = Unit {0}
FitsTypes (call.Stop ok) = Unit {0}
FitsTypes (call.Send to bytes ok) = IsBytes bytes
FitsTypes (call.Disarm ok) = Unit {0}
FitsTypes (call.Halt code) = code < 2 ^ 8

-- a call that an outside can have made, of values that there are
abbrev pub IsRecorded : Call → Type 0
IsRecorded call = IsLogged call × FitsTypes call

abbrev pub AreRecorded : List Call → Type 0
AreRecorded [] = Unit {0}
AreRecorded (first ∷ calls) = IsRecorded first × AreRecorded calls

-- the calls were made one after the other, from the one outside to the other, and each shows of it what the relation says
abbrev pub Shows : {S : Type 0} → (S → S → Call → Type 0) → S → S → List Call → Type 0
Shows each before after [] = before ≡ after
Shows {S} each before after (first ∷ calls) = (between : S) × each before between first × Shows each between after calls
