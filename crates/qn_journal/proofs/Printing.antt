-- What is put together token by token and key by key is the text of its tokens.
use Rattle.std.proofs.Common.{◌≡◌, ℕ, Bool, true, false, ◌&&◌, cond, List, [], ◌∷◌, ◌++◌, None, Some, codes, refl, sym, ap, ◌∙◌, append_assoc}
use Rattle.json.specs.Json.{Json, object, array}
use Rattle.json.specs.Print.{ends, escape, escape_byte, print_from, quoted, separator, token_text}
use Rattle.json.specs.Token.{Token}
use Rattle.json.specs.Tree.{items_tokens, json_tokens, members_tokens}
use Rattle.qn_shown.specs.Entries.{Entry, entries_members}
use Rattle.qn_shown.specs.Spelling.{items_of}
use Rattle.qn_journal.specs.declared.fixed_text.FixedText.{FixedText}
use Rattle.qn_journal.specs.declared.json_text.JsonText.{JsonText}
use Rattle.qn_journal.specs.FixedTexts.{with_byte, with_escaped, with_quoted, with_text}
use Rattle.qn_journal.specs.JsonTexts.{comma_after, with_array, with_entries, with_entry, with_items, with_json, with_object, with_token, with_tokens}

-- ## Texts

pub text_then : (text : FixedText) (one other : List ℕ) → with_text text (one ++ other) ≡ with_text (with_text text one) other
unfolding with_text
text_then text [] other = refl
text_then text (byte ∷ one) other = text_then (with_byte text byte) one other

escaped_is : (text : FixedText) (string : List ℕ) → with_escaped text string ≡ with_text text (escape string)
unfolding with_escaped with_text
escaped_is text [] = refl
escaped_is text (byte ∷ rest) =
    escaped_is (with_text text (escape_byte byte)) rest ∙ sym (text_then text (escape_byte byte) (escape rest))

pub one_byte : (text : FixedText) (byte : ℕ) → with_byte text byte ≡ with_text text (byte ∷ [])
unfolding with_text
one_byte text byte = refl

byte_first : (text : FixedText) (byte : ℕ) (rest : List ℕ) → with_text (with_byte text byte) rest ≡ with_text text (byte ∷ rest)
unfolding with_text
byte_first text byte rest = refl

quoted_is : (text : FixedText) (string : List ℕ) → with_quoted text string ≡ with_text text (quoted string)
unfolding with_quoted
quoted_is text string =
    ap (λ (t : FixedText). with_byte t 34) (escaped_is (with_byte text 34) string)
    ∙ one_byte (with_text (with_byte text 34) (escape string)) 34
    ∙ sym (text_then (with_byte text 34) (escape string) (34 ∷ []))
    ∙ byte_first text 34 (escape string ++ 34 ∷ [])

-- ## Tokens

-- a comma stands before what begins, where a value ended
begun_is : (after : Bool) (text : FixedText) (rest : List ℕ) → with_text (comma_after after text) rest ≡ with_text text (cond (after && true) (44 ∷ []) [] ++ rest)
unfolding with_text
begun_is true text rest = refl
begun_is false text rest = refl

ended_is : (after : Bool) (text : FixedText) (rest : List ℕ) → with_text text rest ≡ with_text text (cond (after && false) (44 ∷ []) [] ++ rest)
ended_is true text rest = refl
ended_is false text rest = refl

nothing_more : (text : FixedText) → text ≡ with_text text []
unfolding with_text
nothing_more text = refl

token_is : (json : JsonText) (t : Token) → (with_token json t).text ≡ with_text json.text (separator json.after_value t ++ token_text t)
unfolding with_token
token_is json Token.begin_object = one_byte _ 123 ∙ begun_is json.after_value json.text (123 ∷ [])
token_is json Token.end_object = one_byte _ 125 ∙ ended_is json.after_value json.text (125 ∷ [])
token_is json Token.begin_array = one_byte _ 91 ∙ begun_is json.after_value json.text (91 ∷ [])
token_is json Token.end_array = one_byte _ 93 ∙ ended_is json.after_value json.text (93 ∷ [])
token_is json (Token.key s) =
    let begun = comma_after json.after_value json.text in
    ap (λ (t : FixedText). with_byte t 58) (quoted_is begun s)
    ∙ one_byte (with_text begun (quoted s)) 58
    ∙ sym (text_then begun (quoted s) (58 ∷ []))
    ∙ begun_is json.after_value json.text (quoted s ++ 58 ∷ [])
token_is json (Token.string s) =
    quoted_is (comma_after json.after_value json.text) s ∙ begun_is json.after_value json.text (quoted s)
token_is json (Token.number s) = begun_is json.after_value json.text s
token_is json (Token.boolean true) = begun_is json.after_value json.text (codes "true")
token_is json (Token.boolean false) = begun_is json.after_value json.text (codes "false")
token_is json Token.null = begun_is json.after_value json.text (codes "null")
token_is json Token.bad = nothing_more (comma_after json.after_value json.text) ∙ begun_is json.after_value json.text []

after_is : (json : JsonText) (t : Token) → (with_token json t).after_value ≡ ends t
unfolding with_token
after_is json Token.begin_object = refl
after_is json Token.end_object = refl
after_is json Token.begin_array = refl
after_is json Token.end_array = refl
after_is json (Token.key s) = refl
after_is json (Token.string s) = refl
after_is json (Token.number s) = refl
after_is json (Token.boolean true) = refl
after_is json (Token.boolean false) = refl
after_is json Token.null = refl
after_is json Token.bad = refl

pub tokens_are : (json : JsonText) (ts : List Token) → (with_tokens json ts).text ≡ with_text json.text (print_from json.after_value ts)
unfolding print_from with_text
tokens_are json [] = refl
tokens_are json (t ∷ ts) =
    let comma = separator json.after_value t in
    let more = print_from (ends t) ts in
    tokens_are (with_token json t) ts
    ∙ ap (λ (after : Bool). with_text (with_token json t).text (print_from after ts)) (after_is json t)
    ∙ ap (λ (text : FixedText). with_text text more) (token_is json t)
    ∙ sym (text_then json.text (comma ++ token_text t) more)
    ∙ ap (λ (bytes : List ℕ). with_text json.text bytes) (append_assoc comma (token_text t) more)

-- ## Objects and arrays

tokens_then : (json : JsonText) (one other : List Token) → with_tokens json (one ++ other) ≡ with_tokens (with_tokens json one) other
tokens_then json [] other = refl
tokens_then json (t ∷ one) other = tokens_then (with_token json t) one other

members_are : (json : JsonText) (entries : List Entry)
    → with_tokens json (members_tokens (entries_members entries)) ≡ with_token (with_entries json entries) Token.end_object
unfolding with_entry
members_are json [] = refl
members_are json ((name, None) ∷ rest) = members_are json rest
members_are json ((name, Some j) ∷ rest) =
    let begun = with_token json (Token.key name) in
    tokens_then begun (json_tokens j) (members_tokens (entries_members rest)) ∙ members_are (with_json begun j) rest

pub object_is : (json : JsonText) (entries : List Entry) → with_json json (object (entries_members entries)) ≡ with_object json entries
object_is json entries = members_are (with_token json Token.begin_object) entries

items_are : {A : Type 0} (spells : A → Json) (json : JsonText) (all : List A)
    → with_tokens json (items_tokens (items_of spells all)) ≡ with_token (with_items spells json all) Token.end_array
unfolding with_items
items_are spells json [] = refl
items_are spells json (a ∷ rest) =
    tokens_then json (json_tokens (spells a)) (items_tokens (items_of spells rest)) ∙ items_are spells (with_json json (spells a)) rest

pub array_is : {A : Type 0} (spells : A → Json) (json : JsonText) (all : List A) → with_json json (array (items_of spells all)) ≡ with_array spells json all
array_is spells json all = items_are spells (with_token json Token.begin_array) all
