-- The words of a line of the journal, and the line that they make (this project's profile).
use Rattle.std.specs.Prelude.{ℕ, Bool, List, [], ◌∷◌, length, decimal}
use Rattle.qn_base.specs.Text.{yes_no}
use Rattle.qn_event.specs.EventLines.{head_of}
use Rattle.qn_event.specs.EventNames.{event_word}
use Rattle.qn_event.specs.EventTexts.{EventText}
use Rattle.qn_event.specs.EventWords.{with_text, with_word}
use Rattle.qn_event.specs.declared.event_name.EventName.{EventName}
use Rattle.qn_event.specs.declared.level.Level.{Level}
use Rattle.qn_event.specs.declared.moment.Moment.{Moment}

-- a word of a line: its key, its value, and how many bytes the value has at most
pub record Word : Type 0 where
  pub key : List ℕ
  pub value : List ℕ
  pub most : ℕ

abbrev pub number : List ℕ → ℕ → Word
number key value = record { key = key; value = decimal value; most = 384 }

abbrev pub truth : List ℕ → Bool → Word
truth key value = record { key = key; value = yes_no value; most = 384 }

abbrev pub text : List ℕ → List ℕ → Word
text key value = record { key = key; value = value; most = length value }

-- words of a line, one after the other
abbrev pub with_words : List ℕ → List Word → List ℕ
with_words line [] = line
with_words line (word ∷ words) = with_words (with_word line word.key word.value word.most) words

-- a line of that level, said at that time: its beginning, the name of what happened, and the words of it
abbrev pub line : Moment → Level → EventName → List Word → EventText
line at level name words = record {
  level = level;
  head = head_of at level;
  words = with_words (with_text [] (length (event_word name)) (event_word name)) words;
}
