-- The head of a schedule: the settings text (corosync.conf(5)), a line `----`, and the timing line; this project's profile.
use Rattle.std.specs.Prelude.{ℕ, if◌then◌else◌, List, Result, Ok, Err, codes}
use Rattle.qn_model.specs.declared.configuration.Settings.{Settings}
use Rattle.qn_model.specs.declared.line_fault.LineFault.{LineFault}
use Rattle.qn_model.specs.declared.times.Timing.{Timing}
use Rattle.qn_model.specs.Timing.{is_safe}
use Rattle.qn_settings.specs.declared.faults.TextFault.{TextFault}
use Rattle.qn_settings.specs.Text.{settings_of_text}
use Rattle.qn_sched.specs.declared.replay_end.ReplayEnd.{ReplayEnd}
use Rattle.qn_sched.specs.declared.replay_end.ReplayEnd.TheVariants.{BadSchedule, UnsafeTiming}
use Rattle.qn_sched.specs.Ends.{bad_text}
use Rattle.qn_sched.specs.TimingLine.{timing_of}

-- the line after the settings text
abbrev pub dashes : List ℕ
dashes = codes "----"

abbrev pub or_bad_text : Result Settings TextFault → Result Settings ReplayEnd
or_bad_text (Ok settings) = Ok settings
or_bad_text (Err fault) = Err (bad_text fault)

-- the settings that a whole text gives, or its first fault
unfoldable pub settings_in : List ℕ → Result Settings ReplayEnd
settings_in bytes = or_bad_text (settings_of_text bytes)

abbrev pub safe_or_not : ℕ → Result Timing LineFault → Result Timing ReplayEnd
safe_or_not number (Ok timing) = if is_safe timing then Ok timing else Err (UnsafeTiming timing)
safe_or_not number (Err fault) = Err (BadSchedule number fault)

-- the safe times that the line of this number gives, or its first fault
unfoldable pub safe_timing_in : ℕ → List ℕ → Result Timing ReplayEnd
safe_timing_in number line = safe_or_not number (timing_of line)
