-- A text that was not cut is the whole text, and one that was cut had no room.
use Rattle.std.proofs.Common.{◌≡◌, ◌<◌, ℕ, ◌+◌, Bool, true, false, List, [], ◌∷◌, ◌++◌, length, refl, sym, ap, ◌∙◌, append_assoc, append-nil, arith, if◌then◌else◌, nat_lt}
use Rattle.std.proofs.lemmas.Grind.{common_steps}
use Rattle.qn_journal.specs.declared.fixed_text.FixedText.{FixedText}
use Rattle.qn_journal.specs.FixedTexts.{nothing_yet, with_byte, with_text}

-- a text with a byte more, and one that is cut
abbrev longer : FixedText → ℕ → FixedText
longer text byte = record text { bytes = record { items = text.bytes.items ++ byte ∷ [] } }

abbrev cut : FixedText → FixedText
cut text = record text { is_cut = true }

byte_cut : (text : FixedText) (byte : ℕ) → text.is_cut ≡ true → (with_byte text byte).is_cut ≡ true
unfolding with_byte
byte_cut text byte is = of_room (nat_lt (length text.bytes.items) 14336)
  where
    of_room : (room : Bool) → (if room then longer text byte else cut text).is_cut ≡ true
    of_room true = is
    of_room false = refl

stays_cut : (text : FixedText) (bytes : List ℕ) → text.is_cut ≡ true → (with_text text bytes).is_cut ≡ true
unfolding with_text
stays_cut text [] is = is
stays_cut text (byte ∷ bytes) is = stays_cut (with_byte text byte) bytes (byte_cut text byte is)

was_whole : (text : FixedText) (bytes : List ℕ) → (with_text text bytes).is_cut ≡ false → text.is_cut ≡ false
was_whole text bytes is = of_cut text.is_cut refl
  where
    of_cut : (before : Bool) → text.is_cut ≡ before → before ≡ false
    of_cut false same = refl
    of_cut true same = sym (stays_cut text bytes same) ∙ is

byte_whole : (text : FixedText) (byte : ℕ) → (with_byte text byte).is_cut ≡ false → (with_byte text byte).bytes.items ≡ text.bytes.items ++ byte ∷ []
unfolding with_byte
byte_whole text byte = of_room (nat_lt (length text.bytes.items) 14336)
  where
    of_room : (room : Bool) → (if room then longer text byte else cut text).is_cut ≡ false → (if room then longer text byte else cut text).bytes.items ≡ text.bytes.items ++ byte ∷ []
    of_room true is = refl
    of_room false is = cc

pub whole : (text : FixedText) (bytes : List ℕ) → (with_text text bytes).is_cut ≡ false → (with_text text bytes).bytes.items ≡ text.bytes.items ++ bytes
unfolding with_text
whole text [] is = sym (append-nil text.bytes.items)
whole text (byte ∷ bytes) is =
    whole (with_byte text byte) bytes is
    ∙ ap (λ (items : List ℕ). items ++ bytes) (byte_whole text byte (was_whole (with_byte text byte) bytes is))
    ∙ append_assoc text.bytes.items (byte ∷ []) bytes

pub has_no_room : (text : FixedText) (bytes : List ℕ) → text.is_cut ≡ false → (with_text text bytes).is_cut ≡ true → 14336 < length text.bytes.items + length bytes
unfolding with_text with_byte
has_no_room text [] uncut is = cc
has_no_room text (byte ∷ bytes) uncut is =
    of_room (nat_lt (length text.bytes.items) 14336) refl is (λ ends. has_no_room (longer text byte) bytes uncut ends)
  where
    of_room : (room : Bool) → nat_lt (length text.bytes.items) 14336 ≡ room → (with_text (if room then longer text byte else cut text) bytes).is_cut ≡ true
        → ((with_text (longer text byte) bytes).is_cut ≡ true → 14336 < length (text.bytes.items ++ byte ∷ []) + length bytes)
        → 14336 < length text.bytes.items + length (byte ∷ bytes)
    of_room true is ends rest = let more = rest ends in grind (arith, common_steps, more)
    of_room false is ends rest = grind (arith, common_steps)

-- of a text that begins with nothing
pub nothing_has_no_room : (bytes : List ℕ) → (with_text nothing_yet bytes).is_cut ≡ true → 14336 < length bytes
nothing_has_no_room bytes is =
    let more = has_no_room nothing_yet bytes refl is in
    grind (arith, common_steps, more)
