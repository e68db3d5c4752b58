-- A call of a log as it was read, with its bytes in a room: this project's profile.
use Rattle.std.specs.Prelude.{ℕ, Bool, List, [], Result, Ok, Err, take, if◌then◌else◌}
use Rattle.qn_base.specs.declared.calls.Call.{Call}
use Rattle.qn_base.specs.declared.calls.Call.TheVariants as made
use Rattle.qn_base.specs.declared.calls.Received.{Received}
use Rattle.qn_io.specs.declared.calls.Got.{Got}
use Rattle.qn_io.specs.Receives.{FitsPacket, received}
use Rattle.qn_live.specs.declared.asked.Room.{Room}
use Rattle.qn_live.specs.Asking.{Tells, told}
use Rattle.qn_model.specs.declared.line_fault.LineFault.{LineFault}
use Rattle.qn_audit.specs.declared.logged_call.LoggedCall.{LoggedCall}
use Rattle.qn_audit.specs.Logs.{IsLogged}

-- the call with its answer
abbrev pub call_in : LoggedCall → Room → Call
call_in logged room = told logged.asked room logged.given room

-- what a reading gave, with the bytes that it put into the room
abbrev pub read_in : Result LoggedCall LineFault → Room → Result Call LineFault
read_in (Ok logged) room = Ok (call_in logged room)
read_in (Err fault) room = Err fault

-- the same of a packet
abbrev pub received_in : Result Got LineFault → List ℕ → Result Received LineFault
received_in (Ok got) packet = Ok (received got packet)
received_in (Err fault) packet = Err fault

-- the same of a read of a sector, which succeeded or failed
abbrev pub sector_read_in : ℕ → Result Bool LineFault → List ℕ → Result Call LineFault
sector_read_in sector (Ok ok) bytes = Ok (made.Read sector (if ok then bytes else []) ok)
sector_read_in sector (Err fault) bytes = Err fault

-- the same of so many bytes at the beginning of a buffer
abbrev pub front_in : Result ℕ LineFault → List ℕ → Result (List ℕ) LineFault
front_in (Ok count) bytes = Ok (take count bytes)
front_in (Err fault) bytes = Err fault

-- the same of a whole buffer
abbrev pub filled_in : Result (Unit {0}) LineFault → List ℕ → Result (List ℕ) LineFault
filled_in (Ok done) bytes = Ok bytes
filled_in (Err fault) bytes = Err fault

-- an outside can have made the call, and its answer is the one that a run takes
pub record IsToldIn (call : LoggedCall) (room : Room) : Type 0 where
  pub logged : IsLogged (call_in call room)
  pub tells : Tells (call_in call room) call.given room
  pub fits : FitsPacket call.given.got
