use Rattle.std.specs.Prelude.{◌≡◌, ◌≤◌, ℕ, zero, suc, ◌+◌, ◌==◌, true, false, List, [], ◌∷◌, ◌++◌, length, Result, Ok, Err, if◌then◌else◌}
use Rattle.qn_base.specs.declared.calls.Call.{Call}
use Rattle.qn_base.specs.declared.calls.Call.TheVariants.{Write}
use Rattle.qn_base.specs.Plans.{Plan, Ends, ◌>>=◌}
use Rattle.qn_model.specs.declared.disk.Message.{Message}
use Rattle.qn_model.specs.declared.disk.Message.TheVariants.{Empty}
use Rattle.qn_model.specs.declared.disk.Slot.{Slot}
use Rattle.qn_model.specs.declared.nodelist.NodeEntry.{NodeEntry}
use Rattle.qn_model.specs.declared.times.Timing.{Timing}
use Rattle.qn_model.specs.Sectors.{anonymous, slot_place, mail_place, header_bytes, slot_bytes, mail_bytes, zeros}
use Rattle.qn_model.specs.Timing.{is_safe}
use Rattle.qn_image.specs.declared.fault.ImageFault.{ImageFault}
use Rattle.qn_image.specs.declared.fault.ImageFault.TheVariants.{Disk, UnsafeTiming}
use Rattle.qn_image.specs.Plans.{or_fault, put_plan}

-- a write of a sector
pub record SectorWrite : Type 0 where
  pub sector : ℕ
  pub bytes : List ℕ

-- a slot of a node that was never started
abbrev pub fresh_slot : Slot
fresh_slot = record { incarnation = 0; clean = true }

-- a mailbox with a message of nobody
abbrev pub mail_write : ℕ → Message → SectorWrite
mail_write rank message = record { sector = mail_place rank; bytes = mail_bytes (anonymous message) }

-- the slot and the mailbox of a node that was never started
abbrev pub node_pair : ℕ → ℕ → List SectorWrite
node_pair rank id =
    record { sector = slot_place rank; bytes = slot_bytes id fresh_slot } ∷ mail_write rank Empty ∷ []

-- the same for each node, the first of which has this rank
unfoldable pub node_writes : ℕ → List NodeEntry → List SectorWrite
node_writes rank [] = []
node_writes rank (node ∷ nodes) = node_pair rank node.id.0 ++ node_writes (rank + 1) nodes

-- sector 0 with the header, and without
abbrev pub header_write : ℕ → Timing → SectorWrite
header_write nodes timing = record { sector = 0; bytes = header_bytes nodes timing }

abbrev pub erasing_write : SectorWrite
erasing_write = record { sector = 0; bytes = zeros 512 }

-- sbd(8), `create`: the header is erased first and written last
unfoldable pub create_writes : List NodeEntry → Timing → List SectorWrite
create_writes nodes timing = erasing_write ∷ node_writes 0 nodes ++ header_write (length nodes) timing ∷ []

-- the writes in order, up to the first that fails
unfoldable pub writes_plan : List SectorWrite → Plan (Result (Unit {0}) ImageFault)
writes_plan [] = Ends (Ok tt)
writes_plan (write ∷ writes) = put_plan write.sector write.bytes >>= or_fault (λ done. writes_plan writes)

-- sbd(8), `create`; that unsafe times are refused is this project's profile
unfoldable pub create_plan : List NodeEntry → Timing → Plan (Result (Unit {0}) ImageFault)
create_plan nodes timing =
    if is_safe timing then writes_plan (create_writes nodes timing) else Ends (Err UnsafeTiming)

-- the sectors of an image after the writes
abbrev pub written : List SectorWrite → (ℕ → List ℕ) → ℕ → List ℕ
written [] image sector = image sector
written (write ∷ writes) image sector =
    written writes (λ s. if s == write.sector then write.bytes else image s) sector

-- the calls of so many writes that were done, and of the next one, if any, which failed
abbrev pub tried : ℕ → List SectorWrite → List Call
tried done [] = []
tried zero (write ∷ writes) = Write write.sector write.bytes false ∷ []
tried (suc done) (write ∷ writes) = Write write.sector write.bytes true ∷ tried done writes

-- so many of the writes were done; where one is left, it is the next call, and it failed
pub record IsTried (writes : List SectorWrite) (calls : List Call) (result : Result (Unit {0}) ImageFault) : Type 0 where
  pub done : ℕ
  pub few : done ≤ length writes
  pub made : calls ≡ tried done writes
  pub answer : result ≡ (if done == length writes then Ok tt else Err Disk)
