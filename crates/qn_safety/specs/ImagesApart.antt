-- What is put on one image of three leaves the other two as they are.
use Rattle.std.proofs.Common.{◌≡◌, ℕ, Bool, true, false, if◌then◌else◌, ◌==◌, ◌∙◌, ap, refl}
use Rattle.std.proofs.lemmas.Bool.{eqb-true}
use Rattle.qn_model.specs.declared.disk.Message.{Message}
use Rattle.qn_model.specs.declared.disk.Slot.{Slot}
use Rattle.qn_model.specs.declared.outputs.DiskOp.{DiskOp}
use Rattle.qn_model.specs.declared.outputs.DiskOp.TheVariants as disk
use Rattle.qn_model.specs.World.{put}
use Rattle.qn_safety.specs.TripleWorld.{mailboxes_on, put_on, slots_on}

pub put_on_other : {A : Type 0} (f : ℕ → ℕ → A) (i image : ℕ) (value : A) (rank k : ℕ) (b : Bool) → (i == rank) ≡ b → (image == k) ≡ false
    → put_on f i image value rank k ≡ f rank k
put_on_other f i image value rank k true e apart =
    ap (λ b. (if b then put (f i) image value else f rank) k) e ∙ (ap (λ b. if b then value else f i k) apart ∙ ap (λ r. f r k) (eqb-true i rank e))
put_on_other f i image value rank k false e apart = ap (λ b. (if b then put (f i) image value else f rank) k) e

pub slots_other : (i image : ℕ) (op : DiskOp) (slots : ℕ → ℕ → Slot) (rank k : ℕ) → (image == k) ≡ false → slots_on i image op slots rank k ≡ slots rank k
slots_other i image (disk.WriteClaim number) slots rank k apart = put_on_other slots i image (record { incarnation = number; clean = false }) rank k (i == rank) refl apart
slots_other i image (disk.WriteClose number) slots rank k apart = put_on_other slots i image (record { incarnation = number; clean = true }) rank k (i == rank) refl apart
slots_other i image disk.ReadHeader slots rank k apart = refl
slots_other i image (disk.ReadSlot other) slots rank k apart = refl
slots_other i image disk.CheckMail slots rank k apart = refl
slots_other i image disk.WriteClear slots rank k apart = refl
slots_other i image disk.ReadMail slots rank k apart = refl
slots_other i image (disk.WriteReset other) slots rank k apart = refl

pub mailboxes_other : (i image : ℕ) (op : DiskOp) (mailboxes : ℕ → ℕ → Message) (rank k : ℕ) → (image == k) ≡ false
    → mailboxes_on i image op mailboxes rank k ≡ mailboxes rank k
mailboxes_other i image disk.WriteClear mailboxes rank k apart = put_on_other mailboxes i image _ rank k (i == rank) refl apart
mailboxes_other i image (disk.WriteReset other) mailboxes rank k apart = put_on_other mailboxes other.0 image _ rank k (other.0 == rank) refl apart
mailboxes_other i image disk.ReadHeader mailboxes rank k apart = refl
mailboxes_other i image (disk.ReadSlot other) mailboxes rank k apart = refl
mailboxes_other i image disk.CheckMail mailboxes rank k apart = refl
mailboxes_other i image (disk.WriteClaim number) mailboxes rank k apart = refl
mailboxes_other i image disk.ReadMail mailboxes rank k apart = refl
mailboxes_other i image (disk.WriteClose number) mailboxes rank k apart = refl
