-- The settings text that a command reads first, corosync.conf(5), and what follows from it: this project's profile.
use Rattle.std.specs.Prelude.{◌≡◌, ◌⊎◌, ◌≤◌, ℕ, ◌+◌, List, Result, Ok, Err, length, nat_lt, if◌then◌else◌}
use Rattle.std.specs.Io.KnownBytes.{IsAtEnd, prepend_known}
use Rattle.qn_conf.specs.declared.faults.ConfFault.TheVariants as conf
use Rattle.qn_model.specs.declared.configuration.Settings.{Settings}
use Rattle.qn_model.specs.Lines.{Ending, Ended, ReadFailed}
use Rattle.qn_settings.specs.declared.faults.TextFault.{TextFault}
use Rattle.qn_settings.specs.Text.{settings_of_text}
use Rattle.qn_commands.specs.declared.fault.Fault.{Fault}
use Rattle.qn_commands.specs.declared.fault.Fault.TheVariants.{BadConf, NoMemory, ReadFault}
use Rattle.qn_commands.specs.Faults.{text_fault}
use Rattle.qn_commands.specs.Reads.{Tells}
use Rattle.qn_commands.specs.Seen.{Input, ReadFails, Seen}
use Rattle.qn_commands.specs.Works.{Work, Works, refusal}

-- the settings of a text, or its first fault
abbrev pub or_fault : Result Settings TextFault → Result Settings Fault
or_fault (Ok settings) = Ok settings
or_fault (Err fault) = Err (text_fault fault)

unfoldable pub settings_in : List ℕ → Result Settings Fault
settings_in bytes = or_fault (settings_of_text bytes)

-- the settings text that an input is, where it was read whole
abbrev pub text_at : Ending → List ℕ → Result (List ℕ) Fault
text_at Ended text = Ok text
text_at ReadFailed text = Err ReadFault

-- too many bytes come before everything else
unfoldable pub input_text : Ending → List ℕ → Result (List ℕ) Fault
input_text ending text = if nat_lt 1048576 (length text) then Err (BadConf conf.TooLong) else text_at ending text

abbrev pub judged_text : Result (List ℕ) Fault → Result Settings Fault
judged_text (Ok text) = settings_in text
judged_text (Err fault) = Err fault

-- the settings of an input, or its first fault
abbrev pub input_settings : Ending → List ℕ → Result Settings Fault
input_settings ending text = judged_text (input_text ending text)

-- out of memory
abbrev pub IsWanted : {A : Type 0} → Result A Fault → Type 0
IsWanted result = (result ≡ Err NoMemory) ⊎ (result ≡ Err (BadConf conf.NoMemory))

-- The answer is the one that the bytes that were read tell of, or it ran out of memory. No more is read than the piece of
-- 4096 bytes in which the text became too long.
pub record Judges {A : Type 0} (judged_of : Ending → List ℕ → Result A Fault) (before after : Input) (result : Result A Fault) : Type 0 where
  pub read : List ℕ
  pub takes : before.left ≡ prepend_known read after.left
  pub bounded : length read ≤ 1048576 + 4096
  pub judged : IsWanted result ⊎ Tells judged_of read (IsAtEnd after.left) (ReadFails before after) (λ answer. answer ≡ result)

-- the input was read to its end, and these are its bytes, not too many for a settings text
pub record ReadsWhole (before after : Input) (text : List ℕ) : Type 0 where
  pub takes : before.left ≡ prepend_known text after.left
  pub at_end : IsAtEnd after.left
  pub bounded : length text ≤ 1048576

-- the same, and they are a text of these settings
pub record ReadsText (before after : Input) (text : List ℕ) (settings : Settings) : Type 0 where
  pub whole : ReadsWhole before after text
  pub good : settings_in text ≡ Ok settings

-- the work that follows from the settings, or the end at their fault
abbrev pub settings_work : (Settings → Work) → Result Settings Fault → Work
settings_work work_of (Ok settings) = work_of settings
settings_work work_of (Err fault) = refusal fault

-- The whole input is read and judged, and then the work is done that follows from the settings. Out of memory comes only
-- before they are judged.
pub record WorksOnSettings (work_of : Settings → Work) (before after : Seen) (status : ℕ) : Type 0 where
  pub settings : Result Settings Fault
  pub judges : Judges input_settings before.input after.input settings
  pub works : Works (settings_work work_of settings) before after status
  pub memory : status ≡ 11 → IsWanted settings
