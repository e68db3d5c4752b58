-- A text of JSON in the room of a text, token by token and key by key. This project's profile.
use Rattle.std.specs.Prelude.{ℕ, Bool, true, false, List, [], ◌∷◌, None, Some, codes}
use Rattle.json.specs.Json.{Json}
use Rattle.json.specs.Token.{Token}
use Rattle.json.specs.Tree.{json_tokens}
use Rattle.qn_shown.specs.Entries.{Entry}
use Rattle.qn_journal.specs.declared.fixed_text.FixedText.{FixedText}
use Rattle.qn_journal.specs.declared.json_text.JsonText.{JsonText}
use Rattle.qn_journal.specs.FixedTexts.{nothing_yet, with_byte, with_quoted, with_text}

abbrev pub empty : JsonText
empty = record { text = nothing_yet; after_value = false }

-- the comma between the end of a value and the beginning of the next
abbrev pub comma_after : Bool → FixedText → FixedText
comma_after true text = with_byte text 44
comma_after false text = text

abbrev pub with_comma : JsonText → JsonText
with_comma json = record json { text = comma_after json.after_value json.text }

-- a bracket that begins a value, and one that ends it
abbrev pub begun : JsonText → ℕ → JsonText
begun json bracket = record { text = with_byte (with_comma json).text bracket; after_value = false }

abbrev pub ended : JsonText → ℕ → JsonText
ended json bracket = record { text = with_byte json.text bracket; after_value = true }

unfoldable pub with_token : JsonText → Token → JsonText
with_token json Token.begin_object = begun json 123
with_token json Token.end_object = ended json 125
with_token json Token.begin_array = begun json 91
with_token json Token.end_array = ended json 93
with_token json (Token.key s) = record { text = with_byte (with_quoted (with_comma json).text s) 58; after_value = false }
with_token json (Token.string s) = record { text = with_quoted (with_comma json).text s; after_value = true }
with_token json (Token.number s) = record { text = with_text (with_comma json).text s; after_value = true }
with_token json (Token.boolean true) = record { text = with_text (with_comma json).text (codes "true"); after_value = true }
with_token json (Token.boolean false) = record { text = with_text (with_comma json).text (codes "false"); after_value = true }
with_token json Token.null = record { text = with_text (with_comma json).text (codes "null"); after_value = true }
with_token json Token.bad = record { text = (with_comma json).text; after_value = true }

abbrev pub with_tokens : JsonText → List Token → JsonText
with_tokens json [] = json
with_tokens json (t ∷ ts) = with_tokens (with_token json t) ts

abbrev pub with_json : JsonText → Json → JsonText
with_json json j = with_tokens json (json_tokens j)

-- a member of an object, where its key is not left out
unfoldable pub with_entry : JsonText → Entry → JsonText
with_entry json (name, None) = json
with_entry json (name, Some j) = with_json (with_token json (Token.key name)) j

abbrev pub with_entries : JsonText → List Entry → JsonText
with_entries json [] = json
with_entries json (e ∷ rest) = with_entries (with_entry json e) rest

-- the members of an array
unfoldable pub with_items : {A : Type 0} → (A → Json) → JsonText → List A → JsonText
with_items spells json [] = json
with_items spells json (a ∷ rest) = with_items spells (with_json json (spells a)) rest

-- a whole object, and a whole array
abbrev pub with_object : JsonText → List Entry → JsonText
with_object json entries = with_token (with_entries (with_token json Token.begin_object) entries) Token.end_object

abbrev pub with_array : {A : Type 0} → (A → Json) → JsonText → List A → JsonText
with_array spells json all = with_token (with_items spells (with_token json Token.begin_array) all) Token.end_array
