-- Outputs that ask nothing of the disk.
use Rattle.std.proofs.Common.{◌≡◌, ℕ, Bool, true, false, List, [], ◌∷◌, ◌++◌, Option, Some, None, map, refl, ap, ◌∙◌}
use Rattle.std.specs.Option.{option_or}
use Rattle.qn_base.specs.declared.ids.View.{View}
use Rattle.qn_model.specs.declared.configuration.Settings.{Settings}
use Rattle.qn_model.specs.declared.entries.What.{What}
use Rattle.qn_model.specs.declared.entries.What.TheVariants as what
use Rattle.qn_model.specs.declared.outputs.Out.{Out}
use Rattle.qn_model.specs.declared.outputs.Out.TheVariants as out
use Rattle.qn_model.specs.Log.{Line, disk_of}
use Rattle.qn_model.specs.NodeOutputs.{ask_to, replies, when}

pub disk_of-append : (front back : List Out) → disk_of (front ++ back) ≡ option_or (disk_of front) (disk_of back)
disk_of-append [] back = refl
disk_of-append (out.Stop ∷ front) back = disk_of-append front back
disk_of-append (out.Start ∷ front) back = disk_of-append front back
disk_of-append (out.Feed ∷ front) back = disk_of-append front back
disk_of-append (out.Send to sent ∷ front) back = disk_of-append front back
disk_of-append (out.Disk op ∷ front) back = refl
disk_of-append (out.Disarm ∷ front) back = disk_of-append front back
disk_of-append (out.Halt kind ∷ front) back = disk_of-append front back

pub none_joined : (front back : List Out) → disk_of front ≡ None → disk_of back ≡ None → disk_of (front ++ back) ≡ None
none_joined front back first second =
    disk_of-append front back ∙ (ap (λ op. option_or op (disk_of back)) first ∙ second)

pub none_when : (b : Bool) (output : Out) → disk_of (output ∷ []) ≡ None → disk_of (when b output) ≡ None
none_when true output none = none
none_when false output none = refl

pub none_of_replies : (s : Settings) (me : ℕ) (held : Bool) (log : List Line) (entry : What)
    → disk_of (replies s me held log entry) ≡ None
none_of_replies s me held log (what.Ask ask) = none_when _ _ refl
none_of_replies s me held log what.Begin = refl
none_of_replies s me held log what.BeginClean = refl
none_of_replies s me held log (what.Header seen) = refl
none_of_replies s me held log (what.SlotRead rank seen) = refl
none_of_replies s me held log (what.MailChecked seen) = refl
none_of_replies s me held log (what.Claimed ok) = refl
none_of_replies s me held log (what.Cleared ok) = refl
none_of_replies s me held log (what.MailRead seen) = refl
none_of_replies s me held log (what.MailWritten rank ok) = refl
none_of_replies s me held log (what.View installed) = refl
none_of_replies s me held log (what.Tell tell) = refl
none_of_replies s me held log (what.Device agrees) = refl
none_of_replies s me held log what.Tick = refl
none_of_replies s me held log (what.Stopped ok) = refl
none_of_replies s me held log what.Leave = refl
none_of_replies s me held log (what.Closed ok) = refl

pub none_of_asks : (me : ℕ) (log : List Line) (present : View) (ranks : List ℕ)
    → disk_of (map (ask_to me log present) ranks) ≡ None
none_of_asks me log present [] = refl
none_of_asks me log present (rank ∷ ranks) = none_of_asks me log present ranks
