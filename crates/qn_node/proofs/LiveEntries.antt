-- The entries of a node that takes part.
use Rattle.std.proofs.Common.{◌≡◌, ℕ, Bool, false, List, Option, None, Some, refl, sym, ap, ◌∙◌}
use Rattle.std.specs.Option.{option_or}
use Rattle.qn_base.specs.declared.ids.Rank.{Rank}
use Rattle.qn_base.specs.declared.ids.View.{View}
use Rattle.qn_model.specs.declared.seen.SlotSeen.{SlotSeen}
use Rattle.qn_model.specs.declared.configuration.Settings.{Settings}
use Rattle.qn_model.specs.declared.packets.Tell.{Tell}
use Rattle.qn_model.specs.declared.entries.What.{What}
use Rattle.qn_model.specs.declared.entries.What.TheVariants as what
use Rattle.qn_model.specs.declared.outputs.DiskOp.{DiskOp}
use Rattle.qn_model.specs.declared.outputs.DiskOp.TheVariants as disk
use Rattle.qn_model.specs.Log.{Line, claim_of, claimed, disk_of, op_out}
use Rattle.qn_model.specs.NodeOutputs.{outs_at, taken_in, with_read}
use Rattle.qn_fence.specs.Fence.{bears_on_fencing}
use Rattle.qn_heard.specs.Heard.{bears_on_hearing}
use Rattle.qn_node.specs.Live.{is_boot_entry}

-- an entry that is no step of a boot, no View and no Tell bears on no hearing
pub no_hearing : (w : What) → is_boot_entry w ≡ false → ((view : View) → w ≡ what.View view → ⊥) → ((tell : Tell) → w ≡ what.Tell tell → ⊥)
    → bears_on_hearing w ≡ false
no_hearing what.Begin plain view tell = refl
no_hearing what.BeginClean plain view tell = refl
no_hearing (what.Header seen) plain view tell = absurd (cc)
no_hearing (what.SlotRead rank seen) plain view tell = refl
no_hearing (what.MailChecked seen) plain view tell = refl
no_hearing (what.Claimed ok) plain view tell = refl
no_hearing (what.Cleared ok) plain view tell = absurd (cc)
no_hearing (what.MailRead seen) plain view tell = refl
no_hearing (what.MailWritten rank ok) plain view tell = refl
no_hearing (what.View installed) plain view tell = absurd (view installed refl)
no_hearing (what.Ask ask) plain view tell = refl
no_hearing (what.Tell said) plain view tell = absurd (tell said refl)
no_hearing (what.Device agrees) plain view tell = refl
no_hearing what.Tick plain view tell = refl
no_hearing (what.Stopped ok) plain view tell = refl
no_hearing what.Leave plain view tell = refl
no_hearing (what.Closed ok) plain view tell = refl

-- an entry that is no step of a boot, no View and no answer of the fencing bears on no fencing
pub no_fencing : (w : What) → is_boot_entry w ≡ false → ((view : View) → w ≡ what.View view → ⊥)
    → ((rank : Rank) (seen : SlotSeen) → w ≡ what.SlotRead rank seen → ⊥) → ((rank : Rank) (ok : Bool) → w ≡ what.MailWritten rank ok → ⊥)
    → bears_on_fencing w ≡ false
no_fencing what.Begin plain view slot written = refl
no_fencing what.BeginClean plain view slot written = refl
no_fencing (what.Header seen) plain view slot written = absurd (cc)
no_fencing (what.SlotRead other seen) plain view slot written = absurd (slot other seen refl)
no_fencing (what.MailChecked seen) plain view slot written = refl
no_fencing (what.Claimed ok) plain view slot written = refl
no_fencing (what.Cleared ok) plain view slot written = absurd (cc)
no_fencing (what.MailRead seen) plain view slot written = refl
no_fencing (what.MailWritten other ok) plain view slot written = absurd (written other ok refl)
no_fencing (what.View installed) plain view slot written = absurd (view installed refl)
no_fencing (what.Ask ask) plain view slot written = refl
no_fencing (what.Tell tell) plain view slot written = refl
no_fencing (what.Device agrees) plain view slot written = refl
no_fencing what.Tick plain view slot written = refl
no_fencing (what.Stopped ok) plain view slot written = refl
no_fencing what.Leave plain view slot written = refl
no_fencing (what.Closed ok) plain view slot written = refl

some_of : {A : Type 0} (o : Option A) (a : A) → option_or o None ≡ Some a → o ≡ Some a
some_of None a e = absurd (cc)
some_of (Some b) a e = e

-- the operation that is out after the end of a boot was asked for by that entry
pub asked_at_end : (s : Settings) (me : ℕ) (log : List Line) (tick : ℕ) (ok : Bool) (op : DiskOp)
    → op_out (with_read s me log tick (what.Cleared ok)) ≡ Some op
    → disk_of (outs_at s me log tick (what.Cleared ok) (taken_in log tick (what.Cleared ok))) ≡ Some op
unfolding op_out
asked_at_end s me log tick ok op out = some_of _ op out

-- what was claimed by then was claimed before the end of the boot
pub claimed_before : (s : Settings) (me : ℕ) (log : List Line) (tick : ℕ) (ok : Bool) (number : ℕ)
    → disk_of (outs_at s me log tick (what.Cleared ok) (taken_in log tick (what.Cleared ok))) ≡ Some disk.ReadMail
    → claimed (with_read s me log tick (what.Cleared ok)) ≡ Some number
    → claimed log ≡ Some number
unfolding claimed
claimed_before s me log tick ok number asked is = ap (λ op. option_or (claim_of op) (claimed log)) (sym asked) ∙ is
