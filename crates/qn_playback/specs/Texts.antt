-- A settings text while it is read, byte after byte.
use Rattle.std.specs.Prelude.{◌≡◌, ◌≤◌, ◌<◌, ℕ, ◌+◌, List, [], ◌∷◌, ◌++◌, length, codes, Option, Ok, Err}
use Rattle.std.specs.Io.KnownBytes.{prepend_known}
use Rattle.qn_conf.specs.declared.faults.ConfFault.TheVariants as conf
use Rattle.qn_model.specs.declared.configuration.Settings.{Settings}
use Rattle.qn_model.specs.LineLaws.{IsPartOfLine}
use Rattle.qn_model.specs.Lines.{Ending, lines_of}
use Rattle.qn_sched.specs.declared.replay_end.ReplayEnd.TheVariants.{BadConf}
use Rattle.qn_sched.specs.Head.{dashes, settings_in}
use Rattle.qn_playback.specs.declared.part_text.Taken.{Taken}
use Rattle.qn_playback.specs.declared.part_text.Taken.TheVariants.{More, Whole, TooLong, NoMemory}
use Rattle.qn_playback.specs.declared.settings_head.SettingsHead.{SettingsHead}
use Rattle.qn_playback.specs.Heads.{counted_bytes, text_given, text_lines}
use Rattle.qn_playback.specs.Parts.{Given}

-- a settings text so far: its whole lines with their ends, how many they are, and what there is of the next line
pub record TextSoFar : Type 0 where
  pub whole : List ℕ
  pub lines : ℕ
  pub rest : List ℕ

abbrev pub no_text : TextSoFar
no_text = record { whole = []; lines = 0; rest = [] }

-- one more byte of the next line
abbrev pub with_byte : TextSoFar → ℕ → TextSoFar
with_byte text byte = record { whole = text.whole; lines = text.lines; rest = text.rest ++ byte ∷ [] }

-- the next line is ended, and whole
abbrev pub with_end : TextSoFar → TextSoFar
with_end text = record { whole = text.whole ++ text.rest ++ 10 ∷ []; lines = text.lines + 1; rest = [] }

-- all bytes so far
abbrev pub bytes_of : TextSoFar → List ℕ
bytes_of text = text.whole ++ text.rest

-- nothing of the text is at fault before it is whole
pub record MayGoOn (text : TextSoFar) : Type 0 where
  pub inside : IsPartOfLine text.rest
  pub fits : counted_bytes text.whole text.rest ≤ 1048576
  pub numbered : text.lines ≤ length text.whole

-- what is given from here on: inside the settings text
abbrev pub text_rest : TextSoFar → Ending → List ℕ → Given SettingsHead
text_rest text ending more = text_lines text.whole text.lines ending (lines_of (text.rest ++ more))

-- after a settings text of so many lines, and `----`
abbrev pub whole_text : List ℕ → ℕ → Ending → List ℕ → Given SettingsHead
whole_text text lines ending more = text_given text (lines + 1) (lines_of more)

-- a settings text that gives these settings, and the line `----`, were taken
pub record HasText (settings : Settings) (to_come_old to_come_new : Option (List ℕ)) : Type 0 where
  pub text : List ℕ
  pub takes : to_come_old ≡ prepend_known (text ++ codes "----\n") to_come_new
  pub gives : settings_in text ≡ Ok settings

-- whether the text is too long by now
abbrev pub Progresses : Taken → TextSoFar → Type 0
Progresses More text = counted_bytes text.whole text.rest ≤ 1048576
Progresses TooLong text = 1048576 < counted_bytes text.whole text.rest
Progresses Whole text = ⊥
Progresses NoMemory text = ⊥

-- one byte more, and the text may go on
pub record TakesMore (byte : ℕ) (old new : TextSoFar) : Type 0 where
  pub may_go_on : MayGoOn new
  pub longer : bytes_of new ≡ bytes_of old ++ byte ∷ []
  pub rest : (ending : Ending) (more : List ℕ) → text_rest old ending (byte ∷ more) ≡ text_rest new ending more

-- the byte ended the line `----`
pub record TakesEnd (byte : ℕ) (old new : TextSoFar) : Type 0 where
  pub same : new ≡ old
  pub dashes_read : old.rest ≡ dashes
  pub ended : byte ≡ 10
  pub rest : (ending : Ending) (more : List ℕ) → text_rest old ending (byte ∷ more) ≡ whole_text new.whole new.lines ending more

-- the text goes on, is whole, or is too long whatever follows; or it ran out of memory
abbrev pub Takes : Taken → ℕ → TextSoFar → TextSoFar → Type 0
Takes More byte old new = TakesMore byte old new
Takes Whole byte old new = TakesEnd byte old new
Takes TooLong byte old new = (ending : Ending) (more : List ℕ) → text_rest old ending (byte ∷ more) ≡ Err (BadConf conf.TooLong)
Takes NoMemory byte old new = Unit {0}
