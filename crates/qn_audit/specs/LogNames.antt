-- The first words of the lines of a log: this project's profile.
use Rattle.std.specs.Prelude.{ℕ, List, [], ◌∷◌, Option, codes, find}
use Rattle.std.specs.Str.{bytes_eq}
use Rattle.qn_base.specs.declared.calls.Call.{Call}
use Rattle.qn_base.specs.declared.calls.Call.TheVariants as call
use Rattle.std.specs.Prelude.{Bool}
use Rattle.qn_audit.specs.declared.log_name.LogName.{LogName}
use Rattle.qn_audit.specs.declared.log_name.LogName.TheVariants.{Now, Receive, Read, Write, Send, Halt, OfDevice}
use Rattle.qn_audit.specs.declared.log_name.DeviceCall.{DeviceCall}
use Rattle.qn_audit.specs.declared.log_name.DeviceCall.TheVariants.{Feed, Start, Stop, Disarm}

-- the first word of a call of the watchdog or of the resource
abbrev pub device_word : DeviceCall → List ℕ
device_word Feed = codes "feed"
device_word Start = codes "start"
device_word Stop = codes "stop"
device_word Disarm = codes "disarm"

-- that call, with its answer
abbrev pub device_call : DeviceCall → Bool → Call
device_call Feed ok = call.Feed ok
device_call Start ok = call.Start ok
device_call Stop ok = call.Stop ok
device_call Disarm ok = call.Disarm ok

-- the first word of a line
abbrev pub log_word : LogName → List ℕ
log_word Now = codes "now"
log_word Receive = codes "receive"
log_word Read = codes "read"
log_word Write = codes "write"
log_word Send = codes "send"
log_word Halt = codes "halt"
log_word (OfDevice call) = device_word call

-- the names of all calls that a log has
abbrev pub log_names : List LogName
log_names =
    Now ∷ Receive ∷ Read ∷ Write ∷ Send ∷ Halt ∷ OfDevice Feed ∷ OfDevice Start ∷ OfDevice Stop ∷ OfDevice Disarm ∷ []

-- the name that a first word is
unfoldable pub log_name : List ℕ → Option LogName
log_name word = find (λ name. bytes_eq (log_word name) word) log_names
