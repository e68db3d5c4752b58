-- What stands on an image after some or all of the writes of a creation.
use Rattle.std.proofs.Common.{add-zero, zero-add, ◌≡◌, ◌≢◌, ◌<◌, ◌≤◌, ◌+◌, ◌==◌, ℕ, zero, suc, true, List, [], ◌∷◌, ◌++◌, length, length-append, take, slice_get, None, Some, if◌then◌else◌, refl, ap, ◌∙◌, arith}
use Rattle.std.proofs.lemmas.Bool.{ne_eqb}
use Rattle.std.proofs.lemmas.List.{take-append-le}
use Rattle.qn_model.specs.declared.disk.Message.TheVariants.{Empty}
use Rattle.qn_model.specs.declared.nodelist.NodeEntry.{NodeEntry}
use Rattle.qn_model.specs.declared.times.Timing.{Timing}
use Rattle.qn_model.specs.Sectors.{anonymous, slot_place, mail_place, header_bytes, slot_bytes, mail_bytes, zeros}
use Rattle.qn_sector.specs.Reading.{header_in}
use Rattle.qn_image.specs.Versions.{any_header_of}
use Rattle.qn_image.specs.Writes.{SectorWrite, fresh_slot, node_pair, node_writes, header_write, erasing_write, create_writes, written}

-- none of the writes is of that sector
abbrev pub Spares : ℕ → List SectorWrite → Type 0
Spares sector [] = Unit {0}
Spares sector (write ∷ writes) = (sector ≢ write.sector) × Spares sector writes

pub Spares-take : (sector n : ℕ) (writes : List SectorWrite) → Spares sector writes → Spares sector (take n writes)
Spares-take sector zero writes spares = tt
Spares-take sector (suc n) [] spares = tt
Spares-take sector (suc n) (write ∷ writes) spares = (spares.0, Spares-take sector n writes spares.1)

-- a sector that is spared stays as it was
pub written-spared : (sector : ℕ) (writes : List SectorWrite) (image : ℕ → List ℕ) → Spares sector writes → written writes image sector ≡ image sector
written-spared sector [] image spares = refl
written-spared sector (write ∷ writes) image spares =
    written-spared sector writes (λ s. if s == write.sector then write.bytes else image s) spares.1
    ∙ rw (ne_eqb sector write.sector spares.0) refl

pub written-append : (writes others : List SectorWrite) (image : ℕ → List ℕ) (sector : ℕ) → written (writes ++ others) image sector ≡ written others (λ s. written writes image s) sector
written-append [] others image sector = refl
written-append (write ∷ writes) others image sector =
    written-append writes others (λ s. if s == write.sector then write.bytes else image s) sector

-- the writes of the nodes spare every sector that is neither a slot nor a mailbox of theirs
abbrev IsOther : ℕ → ℕ → ℕ → Type 0
IsOther sector rank count =
    (place : ℕ) → place < count → (sector ≢ slot_place (rank + place)) × (sector ≢ mail_place (rank + place))

Spares-other : (sector rank : ℕ) (nodes : List NodeEntry) → IsOther sector rank (length nodes) → Spares sector (node_writes rank nodes)
unfolding node_writes
Spares-other sector rank [] other = tt
Spares-other sector rank (node ∷ nodes) other =
    let first : (sector ≢ slot_place rank) × (sector ≢ mail_place rank) = rw add-zero at (other 0 (omega arith)) in
    (first.0, (first.1, Spares-other sector (rank + 1) nodes (λ place within. next place (other (suc place) (omega arith)))))
  where
    next : (place : ℕ) → (sector ≢ slot_place (rank + suc place)) × (sector ≢ mail_place (rank + suc place)) → (sector ≢ slot_place (rank + 1 + place)) × (sector ≢ mail_place (rank + 1 + place))
    next place other = (λ same. other.0 (omega (arith, same)), λ same. other.1 (omega (arith, same)))

-- so the slots and the mailboxes of lower ranks are spared, among 32 ranks
Spares-slot : (place rank : ℕ) (nodes : List NodeEntry) → place < rank → rank + length nodes ≤ 32 → Spares (slot_place place) (node_writes rank nodes)
Spares-slot place rank nodes lower few =
    Spares-other (slot_place place) rank nodes (λ next within. (λ same. absurd (omega arith), λ same. absurd (omega arith)))

Spares-mail : (place rank : ℕ) (nodes : List NodeEntry) → place < rank → rank + length nodes ≤ 32 → Spares (mail_place place) (node_writes rank nodes)
Spares-mail place rank nodes lower few =
    Spares-other (mail_place place) rank nodes (λ next within. (λ same. absurd (omega arith), λ same. absurd (omega arith)))

-- the two writes of one node
written-pair_slot : (rank id : ℕ) (image : ℕ → List ℕ) → rank < 32 → written (node_pair rank id) image (slot_place rank) ≡ slot_bytes id fresh_slot
written-pair_slot rank id image few =
    rw (ne_eqb (slot_place rank) (mail_place rank) (λ same. absurd (omega arith)), eqb_self (slot_place rank)) refl
  where
    eqb_self : (n : ℕ) → (n == n) ≡ true
    eqb_self n = grind arith

written-pair_mail : (rank id : ℕ) (image : ℕ → List ℕ) → written (node_pair rank id) image (mail_place rank) ≡ mail_bytes (anonymous Empty)
written-pair_mail rank id image = rw (eqb_self (mail_place rank)) refl
  where
    eqb_self : (n : ℕ) → (n == n) ≡ true
    eqb_self n = grind arith

-- each node has its slot and its mailbox
written-slot : (rank : ℕ) (nodes : List NodeEntry) (image : ℕ → List ℕ) (place : ℕ) (node : NodeEntry) → rank + length nodes ≤ 32 → slice_get nodes place ≡ Some node → written (node_writes rank nodes) image (slot_place (rank + place)) ≡ slot_bytes node.id.0 fresh_slot
unfolding node_writes
written-slot rank [] image place node few is = cc
written-slot rank (first ∷ nodes) image zero node few is =
    let same : first ≡ node = cc in
    let at : rank + 0 ≡ rank = omega arith in
    rw (at, ← same)
    (written-append (node_pair rank first.id.0) (node_writes (rank + 1) nodes) image (slot_place rank)
    ∙ written-spared (slot_place rank) (node_writes (rank + 1) nodes) (λ s. written (node_pair rank first.id.0) image s) (Spares-slot rank (rank + 1) nodes (omega arith) (omega arith))
    ∙ written-pair_slot rank first.id.0 image (omega arith))
written-slot rank (first ∷ nodes) image (suc place) node few is =
    let at : rank + suc place ≡ rank + 1 + place = omega arith in
    rw at
    (written-append (node_pair rank first.id.0) (node_writes (rank + 1) nodes) image (slot_place (rank + 1 + place))
    ∙ written-slot (rank + 1) nodes (λ s. written (node_pair rank first.id.0) image s) place node (omega arith) is)

written-mail : (rank : ℕ) (nodes : List NodeEntry) (image : ℕ → List ℕ) (place : ℕ) → rank + length nodes ≤ 32 → place < length nodes → written (node_writes rank nodes) image (mail_place (rank + place)) ≡ mail_bytes (anonymous Empty)
unfolding node_writes
written-mail rank [] image place few within = absurd (omega arith)
written-mail rank (first ∷ nodes) image zero few within =
    let at : rank + 0 ≡ rank = omega arith in
    rw at
    (written-append (node_pair rank first.id.0) (node_writes (rank + 1) nodes) image (mail_place rank)
    ∙ written-spared (mail_place rank) (node_writes (rank + 1) nodes) (λ s. written (node_pair rank first.id.0) image s) (Spares-mail rank (rank + 1) nodes (omega arith) (omega arith))
    ∙ written-pair_mail rank first.id.0 image)
written-mail rank (first ∷ nodes) image (suc place) few within =
    let at : rank + suc place ≡ rank + 1 + place = omega arith in
    rw at
    (written-append (node_pair rank first.id.0) (node_writes (rank + 1) nodes) image (mail_place (rank + 1 + place))
    ∙ written-mail (rank + 1) nodes (λ s. written (node_pair rank first.id.0) image s) place (omega arith) (omega arith))

module _ (nodes : List NodeEntry) (timing : Timing) (image : ℕ → List ℕ) where
  -- the image with its header erased
  abbrev erased : ℕ → List ℕ
  erased = λ s. if s == 0 then zeros 512 else image s

  -- the writes of the creation, the last of which is of sector 0
  created : (sector : ℕ) → written (create_writes nodes timing) image sector ≡ written (header_write (length nodes) timing ∷ []) (λ s. written (node_writes 0 nodes) erased s) sector
  unfolding create_writes
  created sector = written-append (node_writes 0 nodes) (header_write (length nodes) timing ∷ []) erased sector

  pub created-header : written (create_writes nodes timing) image 0 ≡ header_bytes (length nodes) timing
  created-header = created 0

  -- after the header stands what the nodes' writes left
  created-behind : (sector : ℕ) → sector ≢ 0 → written (create_writes nodes timing) image sector ≡ written (node_writes 0 nodes) erased sector
  created-behind sector behind = created sector ∙ rw (ne_eqb sector 0 behind) refl

  pub created-slot : (rank : ℕ) (node : NodeEntry) → length nodes ≤ 32 → slice_get nodes rank ≡ Some node → written (create_writes nodes timing) image (slot_place rank) ≡ slot_bytes node.id.0 fresh_slot
  created-slot rank node few is =
      let at : 0 + rank ≡ rank = omega arith in
      created-behind (slot_place rank) (λ same. absurd (omega arith))
      ∙ (rw at at (written-slot 0 nodes erased rank node (omega arith) is))

  pub created-mail : (rank : ℕ) → length nodes ≤ 32 → rank < length nodes → written (create_writes nodes timing) image (mail_place rank) ≡ mail_bytes (anonymous Empty)
  created-mail rank few within =
      let at : 0 + rank ≡ rank = omega arith in
      created-behind (mail_place rank) (λ same. absurd (omega arith))
      ∙ (rw at at (written-mail 0 nodes erased rank (omega arith) within))

  pub created-other : (sector : ℕ) → sector ≢ 0 → ((rank : ℕ) → rank < length nodes → (sector ≢ slot_place rank) × (sector ≢ mail_place rank)) → written (create_writes nodes timing) image sector ≡ image sector
  created-other sector behind other =
      created-behind sector behind
      ∙ written-spared sector (node_writes 0 nodes) erased (Spares-other sector 0 nodes (λ place within. rw (zero-add place) (other place within)))
      ∙ rw (ne_eqb sector 0 behind) refl

  blank_header : any_header_of (zeros 512) ≡ None
  unfolding any_header_of header_in
  blank_header = refl

  -- stopped before the last write, the image has no header
  stopped_at : (done : ℕ) → done ≤ length (node_writes 0 nodes) → any_header_of (written (erasing_write ∷ take done (node_writes 0 nodes)) image 0) ≡ None
  stopped_at done few =
      ap any_header_of (written-spared 0 (take done (node_writes 0 nodes)) erased (Spares-take 0 done (node_writes 0 nodes) (Spares-other 0 0 nodes (λ place within. (λ same. absurd (omega arith), λ same. absurd (omega arith))))))
      ∙ blank_header

  pub stopped : (done : ℕ) → 1 ≤ done → done < length (create_writes nodes timing) → any_header_of (written (take done (create_writes nodes timing)) image 0) ≡ None
  unfolding create_writes
  stopped zero some few = absurd (omega arith)
  stopped (suc done) some few =
      let within : done ≤ length (node_writes 0 nodes) = omega (arith, length-append (node_writes 0 nodes) (header_write (length nodes) timing ∷ [])) in
      ap (λ ws. any_header_of (written (erasing_write ∷ ws) image 0)) (take-append-le done (node_writes 0 nodes) (header_write (length nodes) timing ∷ []) within)
      ∙ stopped_at done within
