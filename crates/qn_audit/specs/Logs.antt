-- The lines of a log, one spelling a call with its answer. This project's profile.
use Rattle.std.specs.Prelude.{ℕ, Bool, true, false, List, [], ◌∷◌, ◌++◌, codes, decimal}
use Rattle.hex.specs.Hex.{encode_lower}
use Rattle.qn_base.specs.declared.calls.Call.{Call}
use Rattle.qn_base.specs.declared.calls.Call.TheVariants as call
use Rattle.qn_base.specs.declared.calls.Received.{Received}
use Rattle.qn_base.specs.declared.calls.Received.TheVariants as received
pub use Rattle.qn_live.specs.Sound.{AreRecorded, FitsTypes, HasReceivedBytes, IsLogged, IsRecorded, IsSoundRead, IsSoundReceived}

-- two digits a byte, and `-` for no bytes
abbrev pub bytes_text : List ℕ → List ℕ
bytes_text [] = codes "-"
bytes_text (byte ∷ bytes) = encode_lower (byte ∷ bytes)

-- whether a call succeeded
abbrev pub ok_text : Bool → List ℕ
ok_text true = codes "ok"
ok_text false = codes "failed"

-- what was received
abbrev pub received_text : Received → List ℕ
received_text (received.Packet bytes) = bytes_text bytes
received_text received.Nothing = codes "nothing"
received_text received.Failed = codes "failed"

-- what was read: a read that failed has no bytes
abbrev pub read_text : List ℕ → Bool → List ℕ
read_text bytes true = bytes_text bytes
read_text bytes false = codes "failed"

-- the line of a call, without its end; the openings come before the log
unfoldable pub call_line : Call → List ℕ
call_line (call.OpenImage path ok) = []
call_line (call.OpenNode images image watchdog resource port rank ok) = []
call_line (call.Now tick) = codes "now " ++ decimal tick
call_line (call.Receive got) = codes "receive " ++ received_text got
call_line (call.Read sector bytes ok) = codes "read " ++ decimal sector ++ codes " " ++ read_text bytes ok
call_line (call.Write sector bytes ok) =
    codes "write " ++ decimal sector ++ codes " " ++ bytes_text bytes ++ codes " " ++ ok_text ok
call_line (call.Feed ok) = codes "feed " ++ ok_text ok
call_line (call.Start ok) = codes "start " ++ ok_text ok
call_line (call.Stop ok) = codes "stop " ++ ok_text ok
call_line (call.Send to bytes ok) =
    codes "send " ++ decimal to.0 ++ codes " " ++ bytes_text bytes ++ codes " " ++ ok_text ok
call_line (call.Disarm ok) = codes "disarm " ++ ok_text ok
call_line (call.Halt code) = codes "halt " ++ decimal code

-- the lines of calls, each with its end
abbrev pub log_text : List Call → List ℕ
log_text [] = []
log_text (first ∷ calls) = (call_line first ++ codes "\n") ++ log_text calls
