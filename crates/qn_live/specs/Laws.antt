-- What the laws of a run say of it: this project's profile.
use Rattle.std.specs.Prelude.{◌≡◌, ◌≤◌, ℕ, Bool, true, false, not, ◌||◌, ◌==◌, List, [], ◌∷◌, ◌++◌, map, slice_index, if◌then◌else◌}
use Rattle.qn_base.specs.declared.calls.Call.{Call}
use Rattle.qn_base.specs.declared.calls.Call.TheVariants as call
use Rattle.qn_base.specs.Calls.{blank}
use Rattle.qn_model.specs.declared.configuration.Settings.{Settings}
use Rattle.qn_model.specs.declared.entries.Entry.{Entry}
use Rattle.qn_model.specs.declared.outputs.BootCause.{BootCause}
use Rattle.qn_model.specs.declared.outputs.BootCause.TheVariants as cause
use Rattle.qn_model.specs.Log.{Line, is_answer}
use Rattle.qn_model.specs.NodeOutputs.{log_of}
use Rattle.qn_live.specs.declared.live_end.LiveEnd.{LiveEnd}
use Rattle.qn_live.specs.declared.live_end.LiveEnd.TheVariants as end
use Rattle.qn_live.specs.declared.place.Choice.{Choice}
use Rattle.qn_live.specs.declared.place.Choice.TheVariants as choice
use Rattle.qn_live.specs.Performing.{out_call, own_number}

-- the log is that of one history
abbrev pub IsHistory : Settings → ℕ → List Line → Type 0
IsHistory s me log = (history : List Entry) × (log ≡ log_of s me history)

-- the entry that is taken is the answer of a disk operation
abbrev pub takes_answer : Choice → Bool
takes_answer (choice.Whole entry) = is_answer entry
takes_answer (choice.Open p) = false
takes_answer (choice.Answer reply) = false

-- the bytes begin as those of a Hello, or of an Announce, each in one of its two kinds
abbrev pub is_greeting : List ℕ → Bool
is_greeting bytes =
    slice_index bytes 2 == 3 || slice_index bytes 2 == 4 || slice_index bytes 2 == 8 || slice_index bytes 2 == 11

-- the bytes begin as those of a poll
abbrev pub is_polling : List ℕ → Bool
is_polling bytes = slice_index bytes 2 == 6

-- the call performs an output: it receives nothing, does not look at the clock, and sends no Hello, no Announce and no poll
abbrev pub is_output : Call → Bool
is_output (call.Now tick) = false
is_output (call.Receive got) = false
is_output (call.Send to bytes ok) = not (is_greeting bytes || is_polling bytes)
is_output (call.Read sector bytes ok) = true
is_output (call.Write sector bytes ok) = true
is_output (call.Feed ok) = true
is_output (call.Start ok) = true
is_output (call.Stop ok) = true
is_output (call.Disarm ok) = true
is_output (call.Halt code) = true
is_output (call.OpenImage path ok) = true
is_output (call.OpenNode images image watchdog resource port rank ok) = true

-- the calls that perform outputs, in order, each with its answer wiped
abbrev pub if_output : Call → List Call
if_output made = if is_output made then blank made ∷ [] else []

abbrev pub outputs_among : List Call → List Call
outputs_among [] = []
outputs_among (made ∷ calls) = if_output made ++ outputs_among calls

-- the calls of all outputs of a log, oldest first
abbrev pub outputs_of : Settings → ℕ → List Line → List Call
outputs_of s me [] = []
outputs_of s me (line ∷ past) = outputs_of s me past ++ map (out_call s me (own_number (line ∷ past))) line.outs

-- the last tick that the clock gave, after a call
abbrev pub tick_after : Call → ℕ → ℕ
tick_after (call.Now tick) last = tick
tick_after other last = last

-- no look at the clock gives a tick below the one before
abbrev pub NeverFalls : ℕ → List Call → Type 0
NeverFalls last [] = Unit {0}
NeverFalls last (made ∷ calls) = (last ≤ tick_after made last) × NeverFalls (tick_after made last) calls

-- the cause is no failure of a call
abbrev pub is_no_failure : BootCause → Bool
is_no_failure cause.ReadFailed = false
is_no_failure cause.NotImage = true
is_no_failure cause.UnsafeTiming = true
is_no_failure cause.ClaimFailed = false
is_no_failure cause.ClearFailed = false
is_no_failure cause.IncarnationSpent = true
is_no_failure cause.NotClean = true

-- the end came by a call that failed, which halted the boot
abbrev pub is_by_call : LiveEnd → Bool
is_by_call (end.Turns phase holds answer why) = false
is_by_call (end.Left clean) = false
is_by_call (end.ClockBack before now) = false
is_by_call (end.SelfReset message) = false
is_by_call (end.BootHalted stopped) = not (is_no_failure stopped)

-- the end came by a clock that went back
abbrev pub is_by_clock : LiveEnd → Bool
is_by_clock (end.Turns phase holds answer why) = false
is_by_clock (end.Left clean) = false
is_by_clock (end.ClockBack before now) = true
is_by_clock (end.SelfReset message) = false
is_by_clock (end.BootHalted stopped) = false

-- the end came though no call failed and no tick fell
abbrev pub is_sound : LiveEnd → Bool
is_sound (end.Turns phase holds answer why) = true
is_sound (end.Left clean) = true
is_sound (end.ClockBack before now) = false
is_sound (end.SelfReset message) = true
is_sound (end.BootHalted stopped) = is_no_failure stopped
