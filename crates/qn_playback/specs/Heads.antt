-- The head of a schedule: the settings text (corosync.conf(5)), a line `----`, and the timing line; this project's profile.
use Rattle.std.specs.Prelude.{ℕ, ◌+◌, nat_eq, nat_lt, if◌then◌else◌, List, [], ◌∷◌, ◌++◌, length, Result, Ok, Err}
use Rattle.std.specs.List.{starts_with}
use Rattle.std.specs.Str.{bytes_eq}
use Rattle.qn_base.specs.declared.limits.TheConstants.{MOST_LINE_BYTES}
use Rattle.qn_conf.specs.declared.faults.ConfFault.TheVariants as conf
use Rattle.qn_model.specs.declared.configuration.Settings.{Settings}
use Rattle.qn_model.specs.declared.line_fault.LineFault.TheVariants.{TooLong, Unended}
use Rattle.qn_model.specs.declared.times.Timing.{Timing}
use Rattle.qn_model.specs.Lines.{Ending, Ended, ReadFailed, lines_of}
use Rattle.qn_sched.specs.declared.replay_end.ReplayEnd.{ReplayEnd}
use Rattle.qn_sched.specs.declared.replay_end.ReplayEnd.TheVariants.{BadConf, BadSchedule, ReadFault}
use Rattle.qn_sched.specs.Head.{dashes, safe_timing_in, settings_in}
use Rattle.qn_playback.specs.declared.head.Head.{Head}
use Rattle.qn_playback.specs.declared.settings_head.SettingsHead.{SettingsHead}
use Rattle.qn_playback.specs.Parts.{Given, Part, then_given}

-- the input ended, or could not be read further, inside line `number` or where it was due
abbrev pub cut : ℕ → Ending → ReplayEnd
cut number Ended = BadSchedule number Unended
cut number ReadFailed = ReadFault

-- ---- one line

-- the input after `before` lines, where a further line is due and not ended
unfoldable pub last_line : ℕ → Ending → List ℕ → ReplayEnd
last_line before ending rest = if nat_lt MOST_LINE_BYTES (length rest) then BadSchedule (before + 1) TooLong else cut (before + 1) ending

-- a whole line, unless it has too many bytes
unfoldable pub within_bound : ℕ → List ℕ → List (List ℕ) → Given (List ℕ)
within_bound before line lines =
    if nat_lt MOST_LINE_BYTES (length line) then Err (BadSchedule (before + 1) TooLong) else Ok (line, lines)

-- the line after `before` lines, without its end
abbrev pub line_lines : ℕ → Ending → List (List ℕ) → Given (List ℕ)
line_lines before ending [] = Err (last_line before ending [])
line_lines before ending (rest ∷ []) = Err (last_line before ending rest)
line_lines before ending (line ∷ next ∷ lines) = within_bound before line (next ∷ lines)

abbrev pub line_part : ℕ → Part (List ℕ)
line_part before ending bytes = line_lines before ending (lines_of bytes)

-- ---- the settings text

-- how many bytes are counted of a settings text and an unended rest, which may become `----`
abbrev pub counted_bytes : List ℕ → List ℕ → ℕ
counted_bytes text rest = if starts_with nat_eq dashes rest then length text else length text + length rest

-- the input after the `before` lines of a settings text, where `----` is due and not ended
unfoldable pub last_of_text : List ℕ → ℕ → Ending → List ℕ → ReplayEnd
last_of_text text before ending rest =
    if nat_lt 1048576 (counted_bytes text rest) then BadConf conf.TooLong else cut (before + 1) ending

-- the settings, or the end at the fault of their text
abbrev pub with_settings : ℕ → List (List ℕ) → Result Settings ReplayEnd → Given SettingsHead
with_settings lines rest (Ok settings) = Ok (record { settings = settings; lines = lines }, rest)
with_settings lines rest (Err end) = Err end

-- a whole text and the line `----`, which are so many lines
abbrev pub text_given : List ℕ → ℕ → List (List ℕ) → Given SettingsHead
text_given text lines rest = with_settings lines rest (settings_in text)

-- the lines after the `before` lines of a settings text: it goes up to the first line `----`
abbrev pub text_lines : List ℕ → ℕ → Ending → List (List ℕ) → Given SettingsHead
text_lines text before ending [] = Err (last_of_text text before ending [])
text_lines text before ending (rest ∷ []) = Err (last_of_text text before ending rest)
text_lines text before ending (line ∷ next ∷ lines) =
    if bytes_eq line dashes then text_given text (before + 1) (next ∷ lines)
    else if nat_lt 1048576 (length (text ++ line ++ 10 ∷ [])) then Err (BadConf conf.TooLong)
    else text_lines (text ++ line ++ 10 ∷ []) (before + 1) ending (next ∷ lines)

abbrev pub settings_part : Part SettingsHead
settings_part ending bytes = text_lines [] 0 ending (lines_of bytes)

-- ---- the whole head

-- the times, or the end at the fault of their line
abbrev pub with_timing : SettingsHead → List (List ℕ) → Result Timing ReplayEnd → Given Head
with_timing text rest (Ok timing) =
    Ok (record { settings = text.settings; timing = timing; lines = text.lines + 1 }, rest)
with_timing text rest (Err end) = Err end

abbrev pub timing_given : SettingsHead → List ℕ → List (List ℕ) → Given Head
timing_given text line rest = with_timing text rest (safe_timing_in (text.lines + 1) line)

-- the timing line after the settings text and `----`
abbrev pub timing_lines : SettingsHead → Ending → List (List ℕ) → Given Head
timing_lines text ending lines = then_given (line_lines text.lines ending lines) (timing_given text)

-- the head of a schedule
abbrev pub head_part : Part Head
head_part ending bytes = then_given (settings_part ending bytes) (λ text rest. timing_lines text ending rest)
