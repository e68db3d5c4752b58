-- A sector is read as a slot exactly where it is the spelling of that slot.
use Rattle.std.proofs.Common.{◌≡◌, ◌≤◌, ◌<◌, ◌^◌, ℕ, true, not, ◌==◌, cond, List, ◌∷◌, ◌++◌, Option, None, Some, IfSome, IfNone, refl, sym, ap, arith}
use Rattle.std.specs.Int.{bytes_high_first}
use Rattle.std.proofs.lemmas.Slice.Eq.{bytes_eq-Decides}
use Rattle.std.proofs.lemmas.Bool.{and_parts}
use Rattle.byteorder.specs.Numbers.{big_number-reads_back}
use Rattle.qn_base.specs.declared.ids.NodeId.{NodeId}
use Rattle.qn_base.specs.lemmas.Bools.{cond_is_one}
use Rattle.qn_base.specs.lemmas.Options.{some_if_true, true_if_some}
use Rattle.qn_model.specs.declared.disk.Slot.{Slot}
use Rattle.qn_model.specs.Sectors.{slot_bytes, zeros}
use Rattle.qn_sector.specs.Reading.{SpellsSlot, id_at, slot_at, slot_of}

id_at-slot_bytes : (id : ℕ) (slot : Slot) → id < 2 ^ 32 → id_at (slot_bytes id slot) ≡ id
unfolding slot_bytes
id_at-slot_bytes id slot fits =
    big_number-reads_back 4 id (bytes_high_first 8 slot.incarnation ++ (cond slot.clean 1 0 ∷ zeros 495)) fits

same_slot : (first second : Slot) → first.incarnation ≡ second.incarnation → first.clean ≡ second.clean → first ≡ second
same_slot first second same_incarnation same_clean = rw (same_incarnation, same_clean) refl

slot_at-slot_bytes : (id : ℕ) (slot : Slot) → slot.incarnation < 2 ^ 64 → slot_at (slot_bytes id slot) ≡ slot
unfolding slot_bytes
slot_at-slot_bytes id slot fits =
    same_slot (slot_at (slot_bytes id slot)) slot (big_number-reads_back 8 slot.incarnation (cond slot.clean 1 0 ∷ zeros 495) fits) (cond_is_one slot.clean)

not_zero : (n : ℕ) → 1 ≤ n → not (n == 0) ≡ true
not_zero n some = grind arith

slot_of-read : (sector : List ℕ) (id : NodeId) (slot : Slot) → id_at sector ≡ id.0 → slot_at sector ≡ slot → 1 ≤ id.0 → sector ≡ slot_bytes id.0 slot → slot_of sector ≡ Some (id, slot)
unfolding slot_of
slot_of-read sector id slot same_id same same_some spelled =
    rw (same_id, same) (some_if_true _ (id, slot) (rw (not_zero id.0 same_some) ((bytes_eq-Decides _ _).1 (sym spelled))))

-- a spelling is read as what it spells
pub slot_of-spelling : (sector : List ℕ) (id : NodeId) (slot : Slot) → SpellsSlot sector id slot → slot_of sector ≡ Some (id, slot)
slot_of-spelling sector id slot spells =
    let same_id : id_at sector ≡ id.0 = rw spells.bytes (id_at-slot_bytes id.0 slot spells.id_fits) in
    let same : slot_at sector ≡ slot = rw spells.bytes (slot_at-slot_bytes id.0 slot spells.incarnation_fits) in
    slot_of-read sector id slot same_id same spells.some_id spells.bytes

-- what is read as a slot is its spelling
slot_of-spells : (sector : List ℕ) (id : NodeId) (slot : Slot) → slot_of sector ≡ Some (id, slot) → id.0 < 2 ^ 32 → slot.incarnation < 2 ^ 64 → SpellsSlot sector id slot
unfolding slot_of
slot_of-spells sector id slot is id_fits incarnation_fits =
    let found = true_if_some _ _ (id, slot) is in
    let tests = and_parts _ _ found.0 in
    let same_id : id.0 ≡ id_at sector = ap (λ s. s.0.0) found.1 in
    let same : slot ≡ slot_at sector = ap (λ s. s.1) found.1 in
    record {
      some_id = rw same_id (some_of _ tests.0);
      id_fits = id_fits;
      incarnation_fits = incarnation_fits;
      bytes = rw (same_id, same) (sym ((bytes_eq-Decides _ _).0 tests.1));
    }
  where
    some_of : (n : ℕ) → not (n == 0) ≡ true → 1 ≤ n
    some_of n is = grind arith

pub slot_found : (sector : List ℕ) (found : Option (NodeId × Slot)) → found ≡ slot_of sector → IfSome found (λ s. (s.0.0 < 2 ^ 32) × (s.1.incarnation < 2 ^ 64)) → IfSome found (λ s. SpellsSlot sector s.0 s.1)
slot_found sector None is fits = tt
slot_found sector (Some s) is fits = slot_of-spells sector s.0 s.1 (sym is) fits.0 fits.1

pub no_slot_found : (sector : List ℕ) (found : Option (NodeId × Slot)) → found ≡ slot_of sector → IfNone found ((id : NodeId) (slot : Slot) → SpellsSlot sector id slot → ⊥)
no_slot_found sector None is = λ id slot spells. let read = slot_of-spelling sector id slot spells in cc
no_slot_found sector (Some s) is = tt
