-- What the call of a disk operation tells is what its answer is made of.
use Rattle.std.proofs.Common.{◌≡◌, ℕ, Bool, true, false, not, List, if◌then◌else◌, refl, sym, ap, ◌∙◌}
use Rattle.qn_base.specs.declared.calls.Call.{Call}
use Rattle.qn_base.specs.declared.calls.Call.TheVariants as call
use Rattle.qn_base.specs.Calls.{blank, is_failed}
use Rattle.qn_io.specs.Answered.{bytes_read, is_read}
use Rattle.qn_model.specs.declared.configuration.Settings.{Settings}
use Rattle.qn_model.specs.declared.outputs.DiskOp.{DiskOp}
use Rattle.qn_model.specs.declared.outputs.DiskOp.TheVariants as disk
use Rattle.qn_model.specs.World.{failed}
use Rattle.qn_live.specs.declared.asked.Given.{Given}
use Rattle.qn_live.specs.declared.asked.Room.{Room}
use Rattle.qn_live.specs.Asking.{Tells}
use Rattle.qn_live.specs.Performing.{disk_answer, disk_call, done}

-- the question of a call is a read where the call is one
is_read-blank : (made : Call) → is_read (blank made) ≡ is_read made
is_read-blank (call.OpenImage path ok) = refl
is_read-blank (call.OpenNode images image watchdog resource port rank ok) = refl
is_read-blank (call.Now tick) = refl
is_read-blank (call.Receive got) = refl
is_read-blank (call.Read sector bytes ok) = refl
is_read-blank (call.Write sector bytes ok) = refl
is_read-blank (call.Feed ok) = refl
is_read-blank (call.Start ok) = refl
is_read-blank (call.Stop ok) = refl
is_read-blank (call.Send to bytes ok) = refl
is_read-blank (call.Disarm ok) = refl
is_read-blank (call.Halt code) = refl

-- the call of an operation was done, and read the sector where it reads one
done_with : (s : Settings) (me number : ℕ) (op : DiskOp) (made : Call) (sector : List ℕ) → is_read (disk_call s me number op) ≡ is_read made → (is_read made ≡ true → bytes_read made ≡ sector) → done s op (bytes_read made) ≡ done s op sector
unfolding disk_call done
done_with s me number disk.ReadHeader made sector reads same = ap (λ bytes. done s disk.ReadHeader bytes) (same (sym reads))
done_with s me number (disk.ReadSlot rank) made sector reads same = ap (λ bytes. done s (disk.ReadSlot rank) bytes) (same (sym reads))
done_with s me number disk.CheckMail made sector reads same = ap (λ bytes. done s disk.CheckMail bytes) (same (sym reads))
done_with s me number disk.ReadMail made sector reads same = ap (λ bytes. done s disk.ReadMail bytes) (same (sym reads))
done_with s me number (disk.WriteClaim next) made sector reads same = refl
done_with s me number (disk.WriteClose own) made sector reads same = refl
done_with s me number disk.WriteClear made sector reads same = refl
done_with s me number (disk.WriteReset rank) made sector reads same = refl

-- the answer by what was given, and that by the call
by_success : (s : Settings) (op : DiskOp) (made : Call) (sector : List ℕ) (ok : Bool) → is_failed made ≡ not ok → (is_failed made ≡ false → done s op (bytes_read made) ≡ done s op sector) → (if ok then done s op sector else failed op) ≡ disk_answer s op made
by_success s op made sector true fails same = rw fails (sym (same fails))
by_success s op made sector false fails same = rw fails refl

pub disk_answer-told : (s : Settings) (me number : ℕ) (op : DiskOp) (made : Call) (given : Given) (room : Room) → Tells made given room → blank made ≡ disk_call s me number op → (if given.ok then done s op room.sector else failed op) ≡ disk_answer s op made
disk_answer-told s me number op made given room tells asked =
    by_success s op made room.sector given.ok tells.ok
    (λ good. done_with s me number op made room.sector (ap is_read (sym asked) ∙ is_read-blank made) (λ reads. tells.bytes reads good))
