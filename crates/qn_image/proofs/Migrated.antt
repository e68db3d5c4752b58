-- What stands on an image after some or all of the writes of a migration.
use Rattle.std.proofs.Common.{◌≡◌, ◌≢◌, ◌<◌, ◌≤◌, ◌+◌, ◌==◌, ℕ, zero, suc, true, IsTrue, List, [], ◌∷◌, ◌++◌, length, take, slice_get, Option, None, Some, IfSome, if◌then◌else◌, refl, ap, ◌∙◌, arith}
use Rattle.std.specs.Option.{option_or}
use Rattle.std.proofs.lemmas.Bool.{ne_eqb}
use Rattle.std.proofs.lemmas.List.{take-append-le}
use Rattle.qn_model.specs.declared.disk.Message.{Message}
use Rattle.qn_model.specs.declared.mailbox.Mail.{Mail}
use Rattle.qn_model.specs.declared.times.Timing.{Timing}
use Rattle.qn_model.specs.Sectors.{IsSender, anonymous, slot_place, mail_place, mail_place_1, header_bytes, mail_bytes}
use Rattle.qn_model.specs.Timing.{has_periods}
use Rattle.qn_sector.specs.Reading.{SpellsHeader, header_of, header_of_1, mail_of}
use Rattle.qn_image.specs.Migration.{IsImage, mail_writes, migrate_writes}
use Rattle.qn_image.specs.Versions.{any_header_of, mailbox_of, with_version}
use Rattle.qn_image.specs.Writes.{SectorWrite, header_write, written}
use Rattle.qn_image.proofs.Created.{Spares, Spares-take, written-spared, written-append}

length-mail_writes : (rank : ℕ) (messages : List Message) → length (mail_writes rank messages) ≡ length messages
unfolding mail_writes
length-mail_writes rank [] = refl
length-mail_writes rank (message ∷ messages) = ap suc (length-mail_writes (rank + 1) messages)

place_within : (messages : List Message) (place : ℕ) (message : Message) → slice_get messages place ≡ Some message → place < length messages
place_within [] place message is = cc
place_within (first ∷ messages) zero message is = omega arith
place_within (first ∷ messages) (suc place) message is = omega (arith, place_within messages place message is)

-- the new mailboxes stand after every slot and every old mailbox
Spares-before : (sector rank : ℕ) (messages : List Message) → sector < mail_place rank → Spares sector (mail_writes rank messages)
unfolding mail_writes
Spares-before sector rank [] before = tt
Spares-before sector rank (message ∷ messages) before =
    (λ same. absurd (omega arith), Spares-before sector (rank + 1) messages (omega arith))

-- the first so many writes of a migration that has not come to its last
mails_first : (nodes : ℕ) (timing : Timing) (messages : List Message) (done : ℕ) → done ≤ length messages → take done (migrate_writes nodes timing messages) ≡ take done (mail_writes 0 messages)
unfolding migrate_writes
mails_first nodes timing messages done few =
    take-append-le done (mail_writes 0 messages) (header_write nodes timing ∷ []) (omega (arith, length-mail_writes 0 messages))

Spares-last : (sector nodes : ℕ) (timing : Timing) (writes : List SectorWrite) → sector ≢ 0 → Spares sector writes → Spares sector (writes ++ header_write nodes timing ∷ [])
Spares-last sector nodes timing [] other spares = (other, tt)
Spares-last sector nodes timing (write ∷ writes) other spares =
    (spares.0, Spares-last sector nodes timing writes other spares.1)

Spares-low : (sector nodes : ℕ) (timing : Timing) (messages : List Message) → sector ≢ 0 → sector < 512 → Spares sector (migrate_writes nodes timing messages)
unfolding migrate_writes
Spares-low sector nodes timing messages other within =
    Spares-last sector nodes timing (mail_writes 0 messages) other (Spares-before sector 0 messages (omega arith))

-- a sector between the header and the new mailboxes stays as it is
low : (nodes : ℕ) (timing : Timing) (messages : List Message) (image : ℕ → List ℕ) (done sector : ℕ) → sector ≢ 0 → sector < 512 → written (take done (migrate_writes nodes timing messages)) image sector ≡ image sector
low nodes timing messages image done sector other within =
    written-spared sector (take done (migrate_writes nodes timing messages)) image (Spares-take sector done (migrate_writes nodes timing messages) (Spares-low sector nodes timing messages other within))

pub slot_stays : (nodes : ℕ) (timing : Timing) (messages : List Message) (image : ℕ → List ℕ) (done rank : ℕ) → rank < 32 → written (take done (migrate_writes nodes timing messages)) image (slot_place rank) ≡ image (slot_place rank)
slot_stays nodes timing messages image done rank within =
    low nodes timing messages image done (slot_place rank) (λ same. absurd (omega arith)) (omega arith)

-- a mailbox is spared by the writes of those after it
Spares-after : (place next : ℕ) (messages : List Message) → place < next → Spares (mail_place place) (mail_writes next messages)
unfolding mail_writes
Spares-after place next [] lower = tt
Spares-after place next (message ∷ messages) lower =
    (λ same. absurd (omega arith), Spares-after place (next + 1) messages (omega arith))

-- each message stands in its new mailbox
written-mailbox : (rank : ℕ) (messages : List Message) (image : ℕ → List ℕ) (place : ℕ) (message : Message) → slice_get messages place ≡ Some message → written (mail_writes rank messages) image (mail_place (rank + place)) ≡ mail_bytes (anonymous message)
unfolding mail_writes
written-mailbox rank [] image place message is = cc
written-mailbox rank (first ∷ messages) image zero message is =
    let same : first ≡ message = cc in
    let at : rank + 0 ≡ rank = omega arith in
    rw (at, ← same)
    (written-spared (mail_place rank) (mail_writes (rank + 1) messages) (λ s. if s == mail_place rank then mail_bytes (anonymous first) else image s) (Spares-after rank (rank + 1) messages (omega arith))
    ∙ rw eqb_self refl)
  where
    eqb_self : (mail_place rank == mail_place rank) ≡ true
    eqb_self = grind arith
written-mailbox rank (first ∷ messages) image (suc place) message is =
    let at : rank + suc place ≡ rank + 1 + place = omega arith in
    rw at
    (written-mailbox (rank + 1) messages (λ s. if s == mail_place rank then mail_bytes (anonymous first) else image s) place message is)

-- a header that is there in version 1 is read as one
header_1_of-any : (sector : List ℕ) (nodes : ℕ) (timing : Timing) → any_header_of sector ≡ Some (1, nodes, timing) → header_of_1 sector ≡ Some (nodes, timing)
unfolding any_header_of
header_1_of-any sector nodes timing is = by_headers (header_of sector) (header_of_1 sector) is
  where
    by_headers : (second first : Option (ℕ × Timing)) → option_or (with_version 2 second) (with_version 1 first) ≡ Some (1, nodes, timing) → first ≡ Some (nodes, timing)
    by_headers None None is = cc
    by_headers None (Some header) is =
        let same : ◌≡◌ {A = ℕ × ℕ × Timing} (1, header.0, header.1) (1, nodes, timing) = cc in
        ap (λ (h : ℕ × ℕ × Timing). Some (h.1, h.2)) same
    by_headers (Some header) first is =
        let same : ◌≡◌ {A = ℕ × ℕ × Timing} (2, header.0, header.1) (1, nodes, timing) = cc in
        let version = ap (λ (h : ℕ × ℕ × Timing). h.0) same in absurd (omega (arith, version))

any-header_of : (sector : List ℕ) (nodes : ℕ) (timing : Timing) → header_of sector ≡ Some (nodes, timing) → any_header_of sector ≡ Some (2, nodes, timing)
unfolding any_header_of
any-header_of sector nodes timing is =
    ap (λ header. option_or (with_version 2 header) (with_version 1 (header_of_1 sector))) is

module _ (nodes : ℕ) (timing : Timing) (messages : List Message) (image : ℕ → List ℕ) (reads_header_1 : (sector : List ℕ) (nodes : ℕ) (timing : Timing) → header_of_1 sector ≡ Some (nodes, timing) → SpellsHeader 1 sector nodes timing) (is : IsImage 1 nodes timing messages image) where
  spells : SpellsHeader 1 (image 0) nodes timing
  spells = reads_header_1 (image 0) nodes timing (header_1_of-any (image 0) nodes timing is.header)

  -- stopped before the last write, the header and the old mailboxes are as they were
  pub stopped : (done : ℕ) → done ≤ nodes → IsImage 1 nodes timing messages (λ s. written (take done (migrate_writes nodes timing messages)) image s)
  stopped done few =
      record {
        header = ap any_header_of stays ∙ is.header;
        counted = is.counted;
        mailboxes =
            λ rank message found.
            ap (λ bytes. mailbox_of 1 bytes) (low nodes timing messages image done (mail_place_1 rank) (λ same. absurd (omega arith)) (within rank message found))
            ∙ is.mailboxes rank message found;
      }
    where
      stays : written (take done (migrate_writes nodes timing messages)) image 0 ≡ image 0
      stays =
          ap (λ writes. written writes image 0) (mails_first nodes timing messages done (omega (arith, is.counted)))
          ∙ written-spared 0 (take done (mail_writes 0 messages)) image (Spares-take 0 done (mail_writes 0 messages) (Spares-before 0 0 messages (omega arith)))

      within : (rank : ℕ) (message : Message) → slice_get messages rank ≡ Some message → mail_place_1 rank < 512
      within rank message found = omega (arith, place_within messages rank message found, is.counted, spells.few_nodes)

  module _ (reads_back : (nodes : ℕ) (timing : Timing) → 1 ≤ nodes → nodes ≤ 32 → IsTrue (has_periods timing) → header_of (header_bytes nodes timing) ≡ Some (nodes, timing)) (mail_back : (mail : Mail) → IfSome mail.by IsSender → mail_of (mail_bytes mail) ≡ Some mail) where
    done_mail : (rank : ℕ) (message : Message) → slice_get messages rank ≡ Some message → written (migrate_writes nodes timing messages) image (mail_place rank) ≡ mail_bytes (anonymous message)
    unfolding migrate_writes
    done_mail rank message found =
        let at : 0 + rank ≡ rank = omega arith in
        written-append (mail_writes 0 messages) (header_write nodes timing ∷ []) image (mail_place rank)
        ∙ rw (ne_eqb (mail_place rank) 0 (λ same. absurd (omega arith))) (rw at at (written-mailbox 0 messages image rank message found))

    done_header : written (migrate_writes nodes timing messages) image 0 ≡ header_bytes nodes timing
    unfolding migrate_writes
    done_header = written-append (mail_writes 0 messages) (header_write nodes timing ∷ []) image 0

    -- after the last write it is an image of version 2
    pub migrated : IsImage 2 nodes timing messages (λ s. written (migrate_writes nodes timing messages) image s)
    migrated =
        record {
          header =
              ap any_header_of done_header
              ∙ any-header_of (header_bytes nodes timing) nodes timing (reads_back nodes timing spells.some_nodes spells.few_nodes spells.times);
          counted = is.counted;
          mailboxes =
              λ rank message found.
              ap (λ bytes. mailbox_of 2 bytes) (done_mail rank message found) ∙ mail_back (anonymous message) tt;
        }
