-- A text of at most 14,336 bytes, and what is added to it. This project's profile.
use Rattle.std.specs.Prelude.{ℕ, true, false, ◌++◌, List, [], ◌∷◌, length, nat_lt, if◌then◌else◌}
use Rattle.json.specs.Print.{escape_byte}
use Rattle.qn_journal.specs.declared.fixed_text.FixedText.{FixedText}

abbrev pub nothing_yet : FixedText
nothing_yet = record { bytes = record { items = [] }; is_cut = false }

-- a byte more, where it has room
unfoldable pub with_byte : FixedText → ℕ → FixedText
with_byte text byte =
    if nat_lt (length text.bytes.items) 14336 then record text { bytes = record { items = text.bytes.items ++ byte ∷ [] } }
    else record text { is_cut = true }

unfoldable pub with_text : FixedText → List ℕ → FixedText
with_text text [] = text
with_text text (byte ∷ rest) = with_text (with_byte text byte) rest

-- what stands for a text in a string of JSON, with its quotation marks
unfoldable pub with_escaped : FixedText → List ℕ → FixedText
with_escaped text [] = text
with_escaped text (byte ∷ rest) = with_escaped (with_text text (escape_byte byte)) rest

unfoldable pub with_quoted : FixedText → List ℕ → FixedText
with_quoted text string = with_byte (with_escaped (with_byte text 34) string) 34
