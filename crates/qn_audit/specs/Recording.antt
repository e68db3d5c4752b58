-- What a recorder writes: this project's profile.
use Rattle.std.specs.Prelude.{◌≡◌, ◌≤◌, ℕ, Bool, true, false, List, ◌++◌, Option, codes}
use Rattle.std.specs.Io.KnownBytes.{append_known}
use Rattle.qn_base.specs.declared.calls.Call.{Call}
use Rattle.qn_base.specs.Plans.{Follows, Made, Plan}
use Rattle.qn_io.specs.Outside.{HasRisen}
use Rattle.qn_io.specs.Writes.{AppendsFront}
use Rattle.qn_audit.specs.declared.recorder.Recorder.{Recorder}
use Rattle.qn_audit.specs.Logs.{AreRecorded, call_line, log_text}

-- a log: the bytes of its sink, where it tells them, the count of the sink's faults, and whether each write of the log
-- succeeded
pub record LogSink : Type 0 where
  pub written : Option (List ℕ)
  pub faults : ℕ
  pub whole : Bool

-- the log of a recorder
abbrev pub log_of : {E O : Type 0} → (O → Option (List ℕ)) → (O → ℕ) → Recorder E O → LogSink
log_of written faults recorder =
    record { written = written recorder.out.now; faults = faults recorder.out.now; whole = recorder.whole }

-- The text was given to a log, which was whole before or was not, and is whole after or is not: it was written whole, or a
-- write failed and a prefix of it was written; after a write that failed nothing is written.
abbrev pub LogsWhen : Bool → Bool → LogSink → LogSink → List ℕ → Type 0
LogsWhen true true before after text = after.written ≡ append_known before.written text
LogsWhen true false before after text =
    AppendsFront before.written after.written text × HasRisen before.faults after.faults
LogsWhen false true before after text = ⊥
LogsWhen false false before after text = after.written ≡ before.written

abbrev pub Logs : LogSink → LogSink → List ℕ → Type 0
Logs before after text = LogsWhen before.whole after.whole before after text

-- a call was given to a log, as its line with its end
abbrev pub LogsCall : LogSink → LogSink → Call → Type 0
LogsCall before after call = Logs before after (call_line call ++ codes "\n")

-- what a call shows of a recorder, before it and after it: its line was given to the log, and the recorder holds the same outside
-- and the same sink
abbrev pub Records : {E O : Type 0} → (O → Option (List ℕ)) → (O → ℕ) → Recorder E O → Recorder E O → Call → Type 0
Records written faults before after call =
    LogsCall (log_of written faults before) (log_of written faults after) call
    × (after.env.ghost_name ≡ before.env.ghost_name) × (after.out.ghost_name ≡ before.out.ghost_name)
    × (faults before.out.now ≤ faults after.out.now)

-- what a recorder shows: the faults and the calls of its outside, where they are told, and its log
pub record Recorded : Type 0 where
  pub faults : ℕ
  pub calls : Option (List Call)
  pub log : LogSink

abbrev pub recorded : ℕ → Option (List Call) → LogSink → Recorded
recorded faults calls log = record { faults = faults; calls = calls; log = log }

-- the calls of the plan were made, with these answers and no others, it ended with the value, and they were given to the log
-- in that order, each a call that has a line
pub record DidLogged {A : Type 0} (plan : Plan A) (value : A) (before after : Recorded) : Type 0 where
  pub calls : List Call
  pub made : Made before.faults after.faults before.calls after.calls calls
  pub recorded : AreRecorded calls
  pub logs : Logs before.log after.log (log_text calls)
  pub follows : Follows plan calls value
