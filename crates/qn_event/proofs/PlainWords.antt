-- What stands as it is in a line of a journal.
use Rattle.std.proofs.Common.{ℕ, ◌≡◌, ◌≤◌, ◌<◌, ◌+◌, ◌-◌, min, List, [], ◌∷◌, ◌++◌, ◌∙◌, length, length-append, append_assoc, arith, refl, ap}
use Rattle.std.specs.Prelude.{All}
use Rattle.std.proofs.lemmas.Grind.{common_steps}
use Rattle.std.proofs.lemmas.List.Elements.{All-head, All-tail}
use Rattle.qn_event.specs.EventTexts.{escape_of}
use Rattle.qn_event.specs.EventWords.{escaped_in, room_for, IsPlainByte, Stands, with_byte, with_key, with_plain_word, with_text, with_word}

-- a plain byte wants its own room, and is written as it is
plain_room : (byte : ℕ) → IsPlainByte byte → room_for byte ≡ 1
plain_room byte plain = grind arith

plain_escape : (byte : ℕ) → IsPlainByte byte → escape_of byte ≡ byte ∷ []
plain_escape byte plain = grind arith

-- a plain text that has room is written as it is
plain_text : (room : ℕ) → (text : List ℕ) → All IsPlainByte text → length text ≤ room → escaped_in room text ≡ text
plain_text room [] plain fits = refl
plain_text room (byte ∷ rest) plain fits =
    let head = All-head IsPlainByte byte rest plain in
    let tail = All-tail IsPlainByte byte rest plain in
    let room_is = plain_room byte head in
    let escape_is = plain_escape byte head in
    let more : escaped_in (room - 1) rest ≡ rest = plain_text (room - 1) rest tail (omega arith) in
    grind (arith, common_steps)

-- a byte, and a plain text, after words that leave room for it
byte_after : (words : List ℕ) → (byte : ℕ) → length words < 384 → with_byte words byte ≡ words ++ byte ∷ []
byte_after words byte room = grind arith

text_after : (words : List ℕ) → (most : ℕ) → (text : List ℕ) → All IsPlainByte text → length text ≤ most → length words + length text ≤ 384
    → with_text words most text ≡ words ++ text
unfolding with_text
text_after words most text plain short room =
    ap (λ (written : List ℕ). words ++ written) (plain_text (min most (384 - length words)) text plain (omega arith))

-- so is a word of such a key and such a value
pub plain_word : (words key value : List ℕ) → (most : ℕ) → Stands words key value most
    → with_word words key value most ≡ with_plain_word words key value
unfolding with_word
plain_word words key value most stands =
    let blank = words ++ 32 ∷ [] in
    let named = blank ++ key in
    let ready = named ++ 61 ∷ [] in
    let after_blank : with_byte words 32 ≡ blank = byte_after words 32 (omega arith) in
    let after_name : with_text (with_byte words 32) (length key) key ≡ named =
    ap (λ (text : List ℕ). with_text text (length key) key) after_blank
    ∙ text_after blank (length key) key stands.plain_key (omega arith) (omega (arith, length-append {A = ℕ})) in
    let after_sign : with_key words key ≡ ready =
    ap (λ (text : List ℕ). with_byte text 61) after_name ∙ byte_after named 61 (omega (arith, length-append {A = ℕ})) in
    let after_value : with_word words key value most ≡ ready ++ value =
    ap (λ (text : List ℕ). with_text text most value) after_sign
    ∙ text_after ready most value stands.plain_value (omega arith) (omega (arith, length-append {A = ℕ})) in
    after_value ∙ simp append_assoc
