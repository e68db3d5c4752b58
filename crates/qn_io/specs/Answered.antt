-- What a call gave, by the call with its answer: this project's profile.
use Rattle.std.specs.Prelude.{ℕ, Bool, true, false, List, []}
use Rattle.qn_base.specs.declared.calls.Call.{Call}
use Rattle.qn_base.specs.declared.calls.Call.TheVariants.{Now, Receive, Read}
use Rattle.qn_base.specs.declared.calls.Received.{Received}
use Rattle.qn_base.specs.declared.calls.Received.TheVariants.{Nothing}

-- whether the call reads a sector
abbrev pub is_read : Call → Bool
is_read (Read sector bytes ok) = true
is_read other = false

-- the bytes that a call read
abbrev pub bytes_read : Call → List ℕ
bytes_read (Read sector bytes ok) = bytes
bytes_read other = []

-- the time that a call told
abbrev pub time_of : Call → ℕ
time_of (Now tick) = tick
time_of other = 0

-- what a call received
abbrev pub received_in : Call → Received
received_in (Receive got) = got
received_in other = Nothing
