-- Bytes are read as a packet exactly where they are a spelling of it and it is well formed.
use Rattle.std.proofs.Common.{◌≡◌, Bool, true, false, ◌&&◌, ◌||◌, ◌⊎◌, inl, inr, subst, List, ℕ, Option, None, Some, IfSome, IfNone, option_and_then, if◌then◌else◌, slice_index, refl, sym, ap, ◌∙◌}
use Rattle.std.specs.Option.{option_map_or}
use Rattle.std.specs.Str.{bytes_eq}
use Rattle.std.proofs.lemmas.Slice.Eq.{bytes_eq-Decides}
use Rattle.std.proofs.lemmas.Bool.{and_parts, and_from, false≢true, or_right}
use Rattle.qn_base.specs.lemmas.Options.{some_if_true, true_if_some}
use Rattle.qn_model.specs.declared.packets.Packet.{Packet}
use Rattle.qn_wire.specs.Packets.{named_bytes, packet_bytes, is_well_formed, Spells}
use Rattle.qn_wire.specs.Reading.{is_spelling, packet_of, fields_of}
use Rattle.qn_wire.proofs.FieldsBack.{fields_of-named_bytes, fields_of-packet_bytes}

abbrev is_named : Packet → List ℕ → Bool
is_named p bytes = option_map_or (λ named. bytes_eq named bytes) (named_bytes p) false

-- what is taken from bytes counts only where it is well formed and they are a spelling of it
abbrev judged : List ℕ → Packet → Option Packet
judged bytes p = if is_well_formed p && is_spelling p bytes then Some p else None

spelling_found : (p : Packet) (bytes : List ℕ) → (bytes ≡ packet_bytes p) ⊎ (named_bytes p ≡ Some bytes) → is_spelling p bytes ≡ true
spelling_found p bytes (inl e) = ap (λ b. b || is_named p bytes) ((bytes_eq-Decides _ _).1 (sym e))
spelling_found p bytes (inr e) =
    or_right (bytes_eq (packet_bytes p) bytes) (is_named p bytes)
    (ap (λ named. option_map_or (λ b. bytes_eq b bytes) named false) e ∙ (bytes_eq-Decides bytes bytes).1 refl)

named_found : (named : Option (List ℕ)) (bytes : List ℕ) → option_map_or (λ b. bytes_eq b bytes) named false ≡ true → named ≡ Some bytes
named_found None bytes e = absurd (false≢true e)
named_found (Some named) bytes e = ap Some ((bytes_eq-Decides named bytes).0 e)

spelling_of : (p : Packet) (bytes : List ℕ) (here : Bool) → bytes_eq (packet_bytes p) bytes ≡ here → (here || is_named p bytes) ≡ true
    → (bytes ≡ packet_bytes p) ⊎ (named_bytes p ≡ Some bytes)
spelling_of p bytes true is e = inl (sym ((bytes_eq-Decides _ _).0 is))
spelling_of p bytes false is e = inr (named_found (named_bytes p) bytes e)

judged-spelling : (bytes : List ℕ) (p : Packet) → Spells bytes p → judged bytes p ≡ Some p
judged-spelling bytes p spells =
    some_if_true _ p (and_from _ _ spells.well_formed (spelling_found p bytes spells.spelling))

judged-spells : (bytes : List ℕ) (read : Option Packet) (p : Packet) → option_and_then (judged bytes) read ≡ Some p → Spells bytes p
judged-spells bytes None p is = cc
judged-spells bytes (Some read) p is =
    let found = true_if_some (is_well_formed read && is_spelling read bytes) read p is in
    let tests = and_parts (is_well_formed read) (is_spelling read bytes) found.0 in
    subst (Spells bytes) (sym found.1)
    (record { well_formed = tests.0; spelling = spelling_of read bytes (bytes_eq (packet_bytes read) bytes) refl tests.1 })

-- the fields of a spelling are those of what it spells
same_fields : (bytes : List ℕ) (p : Packet) → is_well_formed p ≡ true → (bytes ≡ packet_bytes p) ⊎ (named_bytes p ≡ Some bytes)
    → fields_of (slice_index bytes 2) bytes ≡ Some p
same_fields bytes p is (inl e) = rw e (fields_of-packet_bytes p is)
same_fields bytes p is (inr e) = fields_of-named_bytes p bytes is e

-- a spelling is read as what it spells
pub packet_of-spelling : (bytes : List ℕ) (p : Packet) → Spells bytes p → packet_of bytes ≡ Some p
unfolding packet_of
packet_of-spelling bytes p spells =
    ap (option_and_then (judged bytes)) (same_fields bytes p spells.well_formed spells.spelling) ∙ judged-spelling bytes p spells

-- what is read as a packet is well formed, and the bytes are a spelling of it
pub packet_of-spells : (bytes : List ℕ) (p : Packet) → packet_of bytes ≡ Some p → Spells bytes p
unfolding packet_of
packet_of-spells bytes p is = judged-spells bytes (fields_of (slice_index bytes 2) bytes) p is

pub packet_found : (bytes : List ℕ) (found : Option Packet) → found ≡ packet_of bytes → IfSome found (Spells bytes)
packet_found bytes None is = tt
packet_found bytes (Some p) is = packet_of-spells bytes p (sym is)

pub no_packet_found : (bytes : List ℕ) (found : Option Packet) → found ≡ packet_of bytes → IfNone found ((p : Packet) → Spells bytes p → ⊥)
no_packet_found bytes None is = λ p spells. let read = packet_of-spelling bytes p spells in cc
no_packet_found bytes (Some p) is = tt
