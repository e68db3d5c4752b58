-- What the bytes of an image give a node is what its operation takes in the world.
use Rattle.std.proofs.Common.{◌≡◌, ◌<◌, ◌≤◌, ℕ, List, Some, if◌then◌else◌, refl, ap, ◌∙◌}
use Rattle.std.specs.Prelude.{◌==◌, ◌^◌, IsTrue, IfSome, length}
use Rattle.std.specs.Option.{option_map_or}
use Rattle.qn_base.specs.declared.ids.NodeId.{NodeId}
use Rattle.qn_base.specs.lemmas.Numbers.{equal_to_itself}
use Rattle.qn_model.specs.declared.configuration.Settings.{Settings}
use Rattle.qn_model.specs.declared.disk.Slot.{Slot}
use Rattle.qn_model.specs.declared.mailbox.Mail.{Mail}
use Rattle.qn_model.specs.declared.times.Timing.{Timing}
use Rattle.qn_model.specs.declared.outputs.DiskOp.TheVariants as disk
use Rattle.qn_model.specs.declared.seen.HeaderSeen.TheVariants as header
use Rattle.qn_model.specs.declared.seen.SlotSeen.TheVariants as slot
use Rattle.qn_model.specs.declared.seen.MailSeen.TheVariants as mail
use Rattle.qn_model.specs.declared.entries.What.TheVariants as what
use Rattle.qn_model.specs.Sectors.{IsSender, header_bytes, mail_bytes, mail_place, slot_bytes, slot_place}
use Rattle.qn_model.specs.Timing.{has_periods}
use Rattle.qn_model.specs.Unmet.{id_of}
use Rattle.qn_model.specs.World.{World, taken}
use Rattle.qn_sector.specs.Reading.{header_of, mail_of, slot_of}
use Rattle.qn_live.specs.Performing.{done, mail_seen, slot_seen}
use Rattle.qn_joined.specs.Joints.{FitsImage}
use Rattle.qn_joined.specs.WorldOf.{IsImage}
use Rattle.qn_joined.specs.Theorem.{TakesAlike}

-- what was put is read back
pub record ReadsBack : Type 0 where
  pub header : (nodes : ℕ) (timing : Timing) → 1 ≤ nodes → nodes ≤ 32 → IsTrue (has_periods timing) → header_of (header_bytes nodes timing) ≡ Some (nodes, timing)
  pub slot : (id : NodeId) (own : Slot) → 1 ≤ id.0 → id.0 < 2 ^ 32 → own.incarnation < 2 ^ 64 → slot_of (slot_bytes id.0 own) ≡ Some (id, own)
  pub mailbox : (m : Mail) → IfSome m.by IsSender → mail_of (mail_bytes m) ≡ Some m

slot_read : (s : Settings) (rank : ℕ) (own : Slot) (bytes : List ℕ) → slot_of bytes ≡ Some (id_of s rank, own) → slot_seen s rank bytes ≡ slot.Read own
slot_read s rank own bytes spelled =
    ap (λ found. option_map_or (λ f. if f.0.0 == (id_of s rank).0 then slot.Read f.1 else slot.Damaged) found slot.Damaged) spelled
    ∙ ap (λ b. if b then slot.Read own else slot.Damaged) (equal_to_itself (id_of s rank).0)

mail_read : (m : Mail) (bytes : List ℕ) → mail_of bytes ≡ Some m → mail_seen bytes ≡ mail.Read m.message
mail_read m bytes spelled = ap (λ found. option_map_or (λ f. mail.Read f.message) found mail.Damaged) spelled

mail_at : (s : Settings) (t : Timing) (image : ℕ → List ℕ) (w : World) (rank : ℕ) → ReadsBack → IsImage s t image w → rank < length s.nodes → mail_seen (image (mail_place rank)) ≡ mail.Read (w.mailboxes rank)
mail_at s t image w rank back is below =
    let found = is.mails rank below in
    mail_read (record { message = w.mailboxes rank; by = found.0 }) (image (mail_place rank))
    (ap mail_of found.2 ∙ back.mailbox (record { message = w.mailboxes rank; by = found.0 }) found.1)

slot_at : (s : Settings) (t : Timing) (image : ℕ → List ℕ) (w : World) (rank : ℕ) → ReadsBack → FitsImage s t → IsImage s t image w → rank < length s.nodes → slot_seen s rank (image (slot_place rank)) ≡ slot.Read (w.slots rank)
slot_at s t image w rank back fits is below =
    let id = fits.ids rank below in
    slot_read s rank (w.slots rank) (image (slot_place rank))
    (ap slot_of (is.slots rank below) ∙ back.slot (id_of s rank) (w.slots rank) id.0 id.1 (is.fit rank below))

pub takes_alike : (s : Settings) (t : Timing) → ReadsBack → TakesAlike s t
unfolding done taken
takes_alike s t back image w rank disk.ReadHeader fits is below within =
    ap (λ found. what.Header (option_map_or (λ f. header.Read f.0 f.1) found header.NotImage))
    (ap header_of is.header ∙ back.header (length s.nodes) t fits.some fits.few fits.times)
takes_alike s t back image w rank (disk.ReadSlot other) fits is below within =
    ap (what.SlotRead other) (slot_at s t image w other.0 back fits is within)
takes_alike s t back image w rank disk.CheckMail fits is below within = ap what.MailChecked (mail_at s t image w rank back is below)
takes_alike s t back image w rank disk.ReadMail fits is below within = ap what.MailRead (mail_at s t image w rank back is below)
takes_alike s t back image w rank (disk.WriteClaim number) fits is below within = refl
takes_alike s t back image w rank (disk.WriteClose number) fits is below within = refl
takes_alike s t back image w rank disk.WriteClear fits is below within = refl
takes_alike s t back image w rank (disk.WriteReset other) fits is below within = refl
