-- What a write that lands does to the image, and to the world that it spells.
use Rattle.std.proofs.Common.{◌≡◌, ◌<◌, ◌+◌, ◌*◌, ℕ, Bool, true, false, List, Option, ◌==◌, if◌then◌else◌, refl, sym, ap, subst, ◌∙◌, arith}
use Rattle.std.specs.Prelude.{◌^◌, IfSome, length}
use Rattle.std.proofs.lemmas.Bool.{eqb-false, eqb-true, ne_eqb}
use Rattle.qn_model.specs.declared.configuration.Settings.{Settings}
use Rattle.qn_model.specs.declared.disk.Message.TheVariants as message
use Rattle.qn_model.specs.declared.disk.Slot.{Slot}
use Rattle.qn_model.specs.declared.mailbox.Mail.{Mail}
use Rattle.qn_model.specs.declared.mailbox.Sender.{Sender}
use Rattle.qn_model.specs.declared.times.Timing.{Timing}
use Rattle.qn_model.specs.declared.outputs.DiskOp.{DiskOp}
use Rattle.qn_model.specs.declared.outputs.DiskOp.TheVariants as disk
use Rattle.qn_model.specs.lemmas.Moments.{put_same, put_other}
use Rattle.qn_model.specs.Sectors.{IsSender, anonymous, mail_bytes, mail_place, slot_bytes, slot_place}
use Rattle.qn_model.specs.Unmet.{id_of}
use Rattle.qn_model.specs.World.{World, mailboxes_with, put, slots_with}
use Rattle.qn_live.specs.Performing.{disk_call, done, reset_by}
use Rattle.qn_joined.specs.Joints.{FitsImage, landed_image, takes}
use Rattle.qn_joined.specs.Theorem.{place_of}
use Rattle.qn_joined.specs.WorldOf.{IsImage}
use Rattle.qn_safety.specs.NodeLogs.{IsOperation}

mail_slot : (rank r : ℕ) → r < 32 → (512 + rank == 1 + 2 * r) ≡ false
mail_slot rank r small = ne_eqb (512 + rank) (1 + 2 * r) (λ e. omega arith)

mail_head : (rank : ℕ) → (512 + rank == 0) ≡ false
mail_head rank = ne_eqb (512 + rank) 0 (λ e. omega arith)

mail_mail : (rank r : ℕ) → (rank == r) ≡ false → (512 + rank == 512 + r) ≡ false
mail_mail rank r apart = ne_eqb (512 + rank) (512 + r) (λ e. eqb-false rank r apart (omega arith))

slot_head : (rank : ℕ) → (1 + 2 * rank == 0) ≡ false
slot_head rank = ne_eqb (1 + 2 * rank) 0 (λ e. omega arith)

slot_slot : (rank r : ℕ) → (rank == r) ≡ false → (1 + 2 * rank == 1 + 2 * r) ≡ false
slot_slot rank r apart = ne_eqb (1 + 2 * rank) (1 + 2 * r) (λ e. eqb-false rank r apart (omega arith))

slot_mail : (rank r : ℕ) → rank < 32 → (1 + 2 * rank == 512 + r) ≡ false
slot_mail rank r small = ne_eqb (1 + 2 * rank) (512 + r) (λ e. omega arith)

module _ {s : Settings} {t : Timing} {image : ℕ → List ℕ} {w : World} (is : IsImage s t image w) (fits : FitsImage s t) (w' : World) where
  -- nothing was written
  pub same_image : w'.slots ≡ w.slots → w'.mailboxes ≡ w.mailboxes → IsImage s t image w'
  same_image slots mails =
      record {
        header = is.header;
        slots = λ r below. is.slots r below ∙ ap (λ f. slot_bytes (id_of s r).0 (f r)) (sym slots);
        fit = λ r below. subst (λ f. (f r).incarnation < 2 ^ 64) (sym slots) (is.fit r below);
        mails = λ r below.
            subst (λ f. (by : Option Sender) × IfSome by IsSender × (image (mail_place r) ≡ mail_bytes (record { message = f r; by = by }))) (sym mails) (is.mails r below);
      }

  -- a mailbox was written
  pub mail_put : (rank : ℕ) (mail : Mail) → rank < length s.nodes → IfSome mail.by IsSender
      → w'.slots ≡ w.slots → w'.mailboxes ≡ put w.mailboxes rank mail.message
      → IsImage s t (put image (mail_place rank) (mail_bytes mail)) w'
  mail_put rank mail below sender slots mails =
      record {
        header = put_other image (mail_place rank) 0 (mail_bytes mail) (mail_head rank) ∙ is.header;
        slots = λ r within.
            put_other image (mail_place rank) (slot_place r) (mail_bytes mail) (mail_slot rank r (omega (arith, within, fits.few)))
            ∙ is.slots r within ∙ ap (λ f. slot_bytes (id_of s r).0 (f r)) (sym slots);
        fit = λ r within. subst (λ f. (f r).incarnation < 2 ^ 64) (sym slots) (is.fit r within);
        mails = λ r within.
            subst (λ f. (by : Option Sender) × IfSome by IsSender × (put image (mail_place rank) (mail_bytes mail) (mail_place r) ≡ mail_bytes (record { message = f r; by = by }))) (sym mails)
            (at_rank r within (rank == r) refl);
      }
    where
      at_rank : (r : ℕ) → r < length s.nodes → (b : Bool) → (rank == r) ≡ b
          → (by : Option Sender) × IfSome by IsSender
          × (put image (mail_place rank) (mail_bytes mail) (mail_place r) ≡ mail_bytes (record { message = put w.mailboxes rank mail.message r; by = by }))
      at_rank r within true e = (
        mail.by,
        sender,
        subst (λ k. put image (mail_place rank) (mail_bytes mail) (mail_place k) ≡ mail_bytes mail) (eqb-true rank r e) (put_same image (mail_place rank) (mail_bytes mail))
            ∙ ap (λ m. mail_bytes (record { message = m; by = mail.by })) (sym (ap (λ b. if b then mail.message else w.mailboxes r) e)),
      )
      at_rank r within false e =
          let was = is.mails r within in (
            was.0,
            was.1,
            put_other image (mail_place rank) (mail_place r) (mail_bytes mail) (mail_mail rank r e) ∙ was.2
                ∙ ap (λ m. mail_bytes (record { message = m; by = was.0 })) (sym (put_other w.mailboxes rank r mail.message e)),
          )

  -- a slot was written
  pub slot_put : (rank : ℕ) (slot : Slot) → rank < length s.nodes → slot.incarnation < 2 ^ 64
      → w'.slots ≡ put w.slots rank slot → w'.mailboxes ≡ w.mailboxes
      → IsImage s t (put image (slot_place rank) (slot_bytes (id_of s rank).0 slot)) w'
  slot_put rank slot below small slots mails =
      record {
        header = put_other image (slot_place rank) 0 (slot_bytes (id_of s rank).0 slot) (slot_head rank) ∙ is.header;
        slots = λ r within.
            at_rank r within (rank == r) refl ∙ ap (λ f. slot_bytes (id_of s r).0 (f r)) (sym slots);
        fit = λ r within. subst (λ f. (f r).incarnation < 2 ^ 64) (sym slots) (fit_at r within (rank == r));
        mails = λ r within.
            subst (λ f. (by : Option Sender) × IfSome by IsSender × (put image (slot_place rank) (slot_bytes (id_of s rank).0 slot) (mail_place r) ≡ mail_bytes (record { message = f r; by = by }))) (sym mails)
            (let was = is.mails r within in
            (was.0, was.1, put_other image (slot_place rank) (mail_place r) (slot_bytes (id_of s rank).0 slot) (slot_mail rank r (omega (arith, below, fits.few))) ∙ was.2));
      }
    where
      at_rank : (r : ℕ) → r < length s.nodes → (b : Bool) → (rank == r) ≡ b
          → put image (slot_place rank) (slot_bytes (id_of s rank).0 slot) (slot_place r) ≡ slot_bytes (id_of s r).0 (put w.slots rank slot r)
      at_rank r within true e =
          subst (λ k. put image (slot_place rank) (slot_bytes (id_of s rank).0 slot) (slot_place k) ≡ slot_bytes (id_of s k).0 slot) (eqb-true rank r e) (put_same image (slot_place rank) (slot_bytes (id_of s rank).0 slot))
          ∙ ap (λ x. slot_bytes (id_of s r).0 x) (sym (ap (λ b. if b then slot else w.slots r) e))
      at_rank r within false e =
          put_other image (slot_place rank) (slot_place r) (slot_bytes (id_of s rank).0 slot) (slot_slot rank r e) ∙ is.slots r within
          ∙ ap (λ x. slot_bytes (id_of s r).0 x) (sym (put_other w.slots rank r slot e))

      fit_at : (r : ℕ) → r < length s.nodes → (b : Bool) → (if b then slot else w.slots r).incarnation < 2 ^ 64
      fit_at r within true = small
      fit_at r within false = is.fit r within

  -- the call of an operation landed
  pub image_lands : (rank number : ℕ) (op : DiskOp) → rank < length s.nodes → number < 2 ^ 64 → IsOperation s op
      → w'.slots ≡ slots_with rank op w.slots → w'.mailboxes ≡ mailboxes_with rank op w.mailboxes
      → IsImage s t (landed_image (disk_call s rank number op) image) w'
  unfolding disk_call
  image_lands rank number disk.ReadHeader below small is_op slots mails = same_image slots mails
  image_lands rank number (disk.ReadSlot other) below small is_op slots mails = same_image slots mails
  image_lands rank number disk.CheckMail below small is_op slots mails = same_image slots mails
  image_lands rank number disk.ReadMail below small is_op slots mails = same_image slots mails
  image_lands rank number (disk.WriteClaim next) below small is_op slots mails = slot_put rank (record { incarnation = next; clean = false }) below is_op slots mails
  image_lands rank number (disk.WriteClose last) below small is_op slots mails = slot_put rank (record { incarnation = last; clean = true }) below is_op slots mails
  image_lands rank number disk.WriteClear below small is_op slots mails = mail_put rank (anonymous message.Empty) below tt slots mails
  image_lands rank number (disk.WriteReset other) below small is_op slots mails =
      mail_put other.0 (reset_by s rank number) is_op
      (record { some_id = (fits.ids rank below).0; id_fits = (fits.ids rank below).1; incarnation_fits = small }) slots mails

-- what a call takes is what its operation reads
pub takes_done : (s : Settings) (rank number : ℕ) (op : DiskOp) (image : ℕ → List ℕ) → done s op (takes (disk_call s rank number op) image) ≡ done s op (image (place_of rank op))
unfolding disk_call done
takes_done s rank number disk.ReadHeader image = refl
takes_done s rank number (disk.ReadSlot other) image = refl
takes_done s rank number disk.CheckMail image = refl
takes_done s rank number disk.ReadMail image = refl
takes_done s rank number (disk.WriteClaim next) image = refl
takes_done s rank number (disk.WriteClose last) image = refl
takes_done s rank number disk.WriteClear image = refl
takes_done s rank number (disk.WriteReset other) image = refl
