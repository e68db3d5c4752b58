-- What is true of every head: its settings are valid and its times safe, and its end fits the way in which the input ended.
use Rattle.std.proofs.Common.{◌≡◌, ◌+◌, ℕ, Bool, true, false, cond, List, [], ◌∷◌, ◌++◌, Result, Ok, Err, IfOk, IfErr, length, refl, subst}
use Rattle.std.specs.Prelude.{nat_lt}
use Rattle.std.specs.Str.{bytes_eq}
use Rattle.qn_conf.specs.declared.faults.ConfFault.{ConfFault}
use Rattle.qn_conf.specs.declared.tree.Item.{Item}
use Rattle.qn_conf.specs.Conf.{conf_of}
use Rattle.qn_model.specs.declared.configuration.Settings.{Settings}
use Rattle.qn_model.specs.declared.line_fault.LineFault.{LineFault}
use Rattle.qn_model.specs.declared.times.Timing.{Timing}
use Rattle.qn_model.specs.Lines.{Ending, Ended, ReadFailed, lines_of}
use Rattle.qn_model.specs.Settings.{IsValid}
use Rattle.qn_model.specs.Timing.{is_safe}
use Rattle.qn_playback.specs.Endings.{EndFits, either_fits}
use Rattle.qn_sched.specs.declared.replay_end.ReplayEnd.{ReplayEnd}
use Rattle.qn_sched.specs.declared.replay_end.ReplayEnd.TheVariants.{NoMemory, ReadFault, UnsafeTiming}
use Rattle.qn_sched.specs.Head.{dashes, or_bad_text, safe_or_not, safe_timing_in, settings_in}
use Rattle.qn_sched.specs.TimingLine.{timing_of}
use Rattle.qn_settings.specs.declared.faults.SettingsFault.{SettingsFault}
use Rattle.qn_settings.specs.declared.faults.TextFault.{TextFault}
use Rattle.qn_settings.specs.declared.faults.TextFault.TheVariants as text
use Rattle.qn_settings.specs.Answer.{answer_of}
use Rattle.qn_settings.specs.Text.{of_answer, of_tree, settings_of_text}
use Rattle.qn_playback.specs.declared.head.Head.{Head}
use Rattle.qn_playback.specs.declared.settings_head.SettingsHead.{SettingsHead}
use Rattle.qn_playback.specs.Heads.{counted_bytes, cut, head_part, last_line, last_of_text, line_lines, settings_part, text_given, text_lines, timing_given, with_settings, with_timing, within_bound}
use Rattle.qn_playback.specs.Parts.{Given, then_given}

-- ---- ends

-- an end that fits, where there is one
abbrev EndsFit : {A : Type 0} → Ending → Result A ReplayEnd → Type 0
EndsFit ending judged = IfErr judged (λ end. EndFits end ending)

either_given : {A : Type 0} (ending : Ending) (test : Bool) (first second : Result A ReplayEnd) → EndsFit ending first → EndsFit ending second → EndsFit ending (cond test first second)
either_given ending true first second fits others = fits
either_given ending false first second fits others = others

then_fits : {A B : Type 0} (ending : Ending) (first : Given A) (next : A → List (List ℕ) → Given B) → EndsFit ending first
    → ((value : A) (rest : List (List ℕ)) → EndsFit ending (next value rest)) → EndsFit ending (then_given first next)
then_fits ending (Ok given) next fits others = others given.0 given.1
then_fits ending (Err end) next fits others = fits

cut_fits : (number : ℕ) (ending : Ending) → EndFits (cut number ending) ending
cut_fits number Ended = tt
cut_fits number ReadFailed = tt

last_line_fits : (before : ℕ) (ending : Ending) (rest : List ℕ) → EndFits (last_line before ending rest) ending
unfolding last_line
last_line_fits before ending rest = either_fits ending (nat_lt 4096 (length rest)) _ _ tt (cut_fits (before + 1) ending)

-- the end of a line of a head fits
pub line_fits : (before : ℕ) (ending : Ending) (lines : List (List ℕ)) → IfErr (line_lines before ending lines) (λ end. EndFits end ending)
unfolding within_bound
line_fits before ending [] = last_line_fits before ending []
line_fits before ending (rest ∷ []) = last_line_fits before ending rest
line_fits before ending (line ∷ next ∷ lines) = either_given ending (nat_lt 4096 (length line)) _ _ tt tt

text_fits : (ending : Ending) (judged : Result Settings TextFault) → EndsFit ending (or_bad_text judged)
text_fits ending (Ok settings) = tt
text_fits ending (Err (text.Conf fault)) = tt
text_fits ending (Err (text.Settings fault)) = tt

given_fits : (ending : Ending) (lines : ℕ) (rest : List (List ℕ)) (judged : Result Settings ReplayEnd) → EndsFit ending judged → EndsFit ending (with_settings lines rest judged)
given_fits ending lines rest (Ok settings) fits = tt
given_fits ending lines rest (Err end) fits = fits

text_given_fits : (ending : Ending) (bytes : List ℕ) (lines : ℕ) (rest : List (List ℕ)) → EndsFit ending (text_given bytes lines rest)
unfolding settings_in
text_given_fits ending bytes lines rest = given_fits ending lines rest (settings_in bytes) (text_fits ending (settings_of_text bytes))

last_of_text_fits : (bytes : List ℕ) (before : ℕ) (ending : Ending) (rest : List ℕ) → EndFits (last_of_text bytes before ending rest) ending
unfolding last_of_text
last_of_text_fits bytes before ending rest = either_fits ending (nat_lt 1048576 (counted_bytes bytes rest)) _ _ tt (cut_fits (before + 1) ending)

text_lines_fit : (bytes : List ℕ) (before : ℕ) (ending : Ending) (lines : List (List ℕ)) → EndsFit ending (text_lines bytes before ending lines)
text_lines_fit bytes before ending [] = last_of_text_fits bytes before ending []
text_lines_fit bytes before ending (rest ∷ []) = last_of_text_fits bytes before ending rest
text_lines_fit bytes before ending (line ∷ next ∷ lines) =
    either_given ending (bytes_eq line dashes) _ _ (text_given_fits ending bytes (before + 1) (next ∷ lines))
    (either_given ending (nat_lt 1048576 (length (bytes ++ line ++ 10 ∷ []))) _ _ tt
    (text_lines_fit (bytes ++ line ++ 10 ∷ []) (before + 1) ending (next ∷ lines)))

settings_fit : (ending : Ending) (bytes : List ℕ) → EndsFit ending (settings_part ending bytes)
settings_fit ending bytes = text_lines_fit [] 0 ending (lines_of bytes)

-- the end of a settings text that was read to the end of its input is no ReadFault
pub settings_read : (bytes : List ℕ) → settings_part Ended bytes ≡ Err ReadFault → ⊥
settings_read bytes is = subst (λ (given : Given SettingsHead). EndsFit Ended given) is (settings_fit Ended bytes)

-- no bytes of a settings text tell of memory
pub settings_no_memory : (ending : Ending) (bytes : List ℕ) → settings_part ending bytes ≡ Err NoMemory → ⊥
settings_no_memory ending bytes is = subst (λ (given : Given SettingsHead). EndsFit ending given) is (settings_fit ending bytes)

safe_fits : (ending : Ending) (timing : Timing) (safe : Bool) → EndsFit ending (cond safe (Ok timing) (Err (UnsafeTiming timing)))
safe_fits ending timing true = tt
safe_fits ending timing false = tt

times_fit : (ending : Ending) (number : ℕ) (times : Result Timing LineFault) → EndsFit ending (safe_or_not number times)
times_fit ending number (Ok timing) = safe_fits ending timing (is_safe timing)
times_fit ending number (Err fault) = tt

timing_fits : (ending : Ending) (head : SettingsHead) (rest : List (List ℕ)) (judged : Result Timing ReplayEnd) → EndsFit ending judged → EndsFit ending (with_timing head rest judged)
timing_fits ending head rest (Ok timing) fits = tt
timing_fits ending head rest (Err end) fits = fits

timing_given_fits : (ending : Ending) (head : SettingsHead) (line : List ℕ) (rest : List (List ℕ)) → EndsFit ending (timing_given head line rest)
unfolding safe_timing_in
timing_given_fits ending head line rest =
    timing_fits ending head rest (safe_timing_in (head.lines + 1) line) (times_fit ending (head.lines + 1) (timing_of line))

-- the end of a head fits the way in which the input ended
pub head_fits : (ending : Ending) (bytes : List ℕ) → IfErr (head_part ending bytes) (λ end. EndFits end ending)
head_fits ending bytes =
    then_fits ending (settings_part ending bytes) _ (text_lines_fit [] 0 ending (lines_of bytes))
    (λ head rest. then_fits ending (line_lines head.lines ending rest) _ (line_fits head.lines ending rest) (timing_given_fits ending head))

-- ---- values

then_good : {A B : Type 0} (P : A → Type 0) (Q : B → Type 0) (first : Given A) (next : A → List (List ℕ) → Given B) → IfOk first (λ given. P given.0)
    → ((value : A) (rest : List (List ℕ)) → P value → IfOk (next value rest) (λ given. Q given.0)) → IfOk (then_given first next) (λ given. Q given.0)
then_good P Q (Ok given) next holds goes = goes given.0 given.1 holds
then_good P Q (Err end) next holds goes = tt

either_good : {A : Type 0} (P : A → Type 0) (test : Bool) (first second : Given A) → IfOk first (λ given. P given.0) → IfOk second (λ given. P given.0) → IfOk (cond test first second) (λ given. P given.0)
either_good P true first second holds others = holds
either_good P false first second holds others = others

safe_good : (timing : Timing) (safe : Bool) → is_safe timing ≡ safe → IfOk (cond safe (Ok timing) (Err (UnsafeTiming timing))) (λ t. is_safe t ≡ true)
safe_good timing true is = is
safe_good timing false is = tt

times_good : (number : ℕ) (times : Result Timing LineFault) → IfOk (safe_or_not number times) (λ t. is_safe t ≡ true)
times_good number (Ok timing) = safe_good timing (is_safe timing) refl
times_good number (Err fault) = tt

timing_good : (number : ℕ) (line : List ℕ) → IfOk (safe_timing_in number line) (λ t. is_safe t ≡ true)
unfolding safe_timing_in
timing_good number line = times_good number (timing_of line)

answer_good : (answer : Result Settings SettingsFault) → IfOk answer IsValid → IfOk (of_answer answer) IsValid
answer_good (Ok settings) valid = valid
answer_good (Err fault) valid = tt

text_good : (judged : Result Settings TextFault) → IfOk judged IsValid → IfOk (or_bad_text judged) IsValid
text_good (Ok settings) valid = valid
text_good (Err fault) valid = tt

abbrev HasValid : SettingsHead → Type 0
HasValid head = IsValid head.settings

given_good : (lines : ℕ) (rest : List (List ℕ)) (judged : Result Settings ReplayEnd) → IfOk judged IsValid → IfOk (with_settings lines rest judged) (λ given. HasValid given.0)
given_good lines rest (Ok settings) valid = valid
given_good lines rest (Err end) valid = tt

-- settings that are valid, and times that are safe
abbrev pub IsGood : Head → Type 0
IsGood head = IsValid head.settings × (is_safe head.timing ≡ true)

timed_good : (head : SettingsHead) (rest : List (List ℕ)) (judged : Result Timing ReplayEnd) → HasValid head → IfOk judged (λ t. is_safe t ≡ true)
    → IfOk (with_timing head rest judged) (λ given. IsGood given.0)
timed_good head rest (Ok timing) valid safe = (valid, safe)
timed_good head rest (Err end) valid safe = tt

-- the settings of each tree are valid
abbrev pub TreesAreValid : Type 0
TreesAreValid = (tree : List Item) → IfOk (answer_of tree) IsValid

module _ (valid : TreesAreValid) where
  tree_good : (conf : Result (List Item) ConfFault) → IfOk (of_tree conf) IsValid
  tree_good (Ok tree) = answer_good (answer_of tree) (valid tree)
  tree_good (Err fault) = tt

  settings_good : (bytes : List ℕ) → IfOk (settings_in bytes) IsValid
  unfolding settings_in settings_of_text
  settings_good bytes = text_good (of_tree (conf_of bytes)) (tree_good (conf_of bytes))

  text_lines_good : (bytes : List ℕ) (before : ℕ) (ending : Ending) (lines : List (List ℕ)) → IfOk (text_lines bytes before ending lines) (λ given. HasValid given.0)
  text_lines_good bytes before ending [] = tt
  text_lines_good bytes before ending (rest ∷ []) = tt
  text_lines_good bytes before ending (line ∷ next ∷ lines) =
      either_good HasValid (bytes_eq line dashes) _ _ (given_good (before + 1) (next ∷ lines) (settings_in bytes) (settings_good bytes))
      (either_good HasValid (nat_lt 1048576 (length (bytes ++ line ++ 10 ∷ []))) _ _ tt
      (text_lines_good (bytes ++ line ++ 10 ∷ []) (before + 1) ending (next ∷ lines)))

  -- so is what each head gives
  pub head_good : (ending : Ending) (bytes : List ℕ) → IfOk (head_part ending bytes) (λ given. IsGood given.0)
  head_good ending bytes =
      then_good HasValid IsGood (settings_part ending bytes) _ (text_lines_good [] 0 ending (lines_of bytes))
      (λ head rest valid_text.
      then_good (λ line. Unit {0}) IsGood (line_lines head.lines ending rest) (timing_given head) (elim (line_lines head.lines ending rest) as (λ g. IfOk g (λ given. Unit {0})) [ Ok given ↦ tt | Err end ↦ tt ])
      (λ line more any. timed_good head more (safe_timing_in (head.lines + 1) line) valid_text (timing_good (head.lines + 1) line)))
