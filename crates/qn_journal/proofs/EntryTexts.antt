-- An object and an array that were put together are those values.
use Rattle.std.proofs.Common.{◌≡◌, ℕ, List, Some, sym, ap, ◌∙◌}
use Rattle.json.specs.Json.{Json, array, object}
use Rattle.json.specs.Token.{Token}
use Rattle.qn_shown.specs.Entries.{Entry, entries_members}
use Rattle.qn_shown.specs.Spelling.{items_of}
use Rattle.qn_journal.specs.declared.json_text.JsonText.{JsonText}
use Rattle.qn_journal.specs.JsonTexts.{with_entries, with_entry, with_items, with_json, with_token}
use Rattle.qn_journal.proofs.Printing.{array_is, object_is}

pub object_value : (old : JsonText) (entries : List Entry) {begun filled ended : JsonText} → begun ≡ with_token old Token.begin_object
    → filled ≡ with_entries begun entries → ended ≡ with_token filled Token.end_object → ended ≡ with_json old (object (entries_members entries))
object_value old entries begins fills ends =
    ends
    ∙ ap (λ (json : JsonText). with_token json Token.end_object) (fills ∙ ap (λ (json : JsonText). with_entries json entries) begins)
    ∙ sym (object_is old entries)

pub array_value : {A : Type 0} (spells : A → Json) (old : JsonText) (all : List A) {begun filled ended : JsonText} → begun ≡ with_token old Token.begin_array
    → filled ≡ with_items spells begun all → ended ≡ with_token filled Token.end_array → ended ≡ with_json old (array (items_of spells all))
array_value spells old all begins fills ends =
    ends
    ∙ ap (λ (json : JsonText). with_token json Token.end_array) (fills ∙ ap (λ (json : JsonText). with_items spells json all) begins)
    ∙ sym (array_is spells old all)

pub object_entry : (old : JsonText) (name : List ℕ) (entries : List Entry) {named ended : JsonText} → named ≡ with_token old (Token.key name)
    → ended ≡ with_json named (object (entries_members entries)) → ended ≡ with_entry old (name, Some (object (entries_members entries)))
unfolding with_entry
object_entry old name entries names is = is ∙ ap (λ (json : JsonText). with_json json (object (entries_members entries))) names

pub array_entry : {A : Type 0} (spells : A → Json) (old : JsonText) (name : List ℕ) (all : List A) {named ended : JsonText} → named ≡ with_token old (Token.key name)
    → ended ≡ with_json named (array (items_of spells all)) → ended ≡ with_entry old (name, Some (array (items_of spells all)))
unfolding with_entry
array_entry spells old name all names is = is ∙ ap (λ (json : JsonText). with_json json (array (items_of spells all))) names
