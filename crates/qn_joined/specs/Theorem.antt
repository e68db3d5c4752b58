-- What is said of running nodes that share one outside: this project's profile.
use Rattle.std.specs.Prelude.{◌≡◌, ◌<◌, ℕ, Bool, true, List, ◌++◌, IfSome, IsTrue, Some, length, Option}
use Rattle.qn_base.specs.declared.calls.Call.{Call}
use Rattle.qn_base.specs.Plans.{Follows}
use Rattle.qn_model.specs.declared.configuration.Settings.{Settings}
use Rattle.qn_model.specs.declared.times.Timing.{Timing}
use Rattle.qn_model.specs.declared.outputs.DiskOp.{DiskOp}
use Rattle.qn_model.specs.declared.outputs.DiskOp.TheVariants as disk
use Rattle.qn_model.specs.declared.mailbox.Mail.{Mail}
use Rattle.qn_model.specs.declared.packets.Packet.{Packet}
use Rattle.qn_model.specs.Sectors.{IsSender, mail_bytes, mail_place, slot_place}
use Rattle.qn_model.specs.Settings.{IsValid}
use Rattle.qn_model.specs.Timing.{is_safe}
use Rattle.qn_model.specs.World.{World, taken}
use Rattle.qn_sector.specs.Reading.{mail_of}
use Rattle.qn_wire.specs.Packets.{is_well_formed, packet_bytes}
use Rattle.qn_wire.specs.Reading.{packet_of}
use Rattle.qn_live.specs.Performing.{done}
use Rattle.qn_live.specs.Running.{Ran}
use Rattle.qn_live.specs.Runs.{live_plan}
use Rattle.qn_joined.specs.Joints.{AllMayHappen, FitsImage, Happening, Host, IsJoined, calls_of, is_deadly_mail, joint_after, runs_at}
use Rattle.qn_joined.specs.Owning.{Owns}
use Rattle.qn_joined.specs.Stands.{plan_at}
use Rattle.qn_joined.specs.WorldOf.{IsImage}
use Rattle.qn_safety.specs.NodeLogs.{IsOperation}

-- at most one resource runs at any moment
abbrev pub AtMostOneRuns : Settings → Timing → Type 0
AtMostOneRuns s t =
    (image : ℕ → List ℕ) (happenings : List Happening) (i j : ℕ)
    → IsJoined s t image happenings
    → IsTrue (runs_at s image happenings i)
    → IsTrue (runs_at s image happenings j)
    → i ≡ j

-- the sector that an operation of a rank reads or writes
abbrev pub place_of : ℕ → DiskOp → ℕ
place_of rank disk.ReadHeader = 0
place_of rank (disk.ReadSlot other) = slot_place other.0
place_of rank disk.CheckMail = mail_place rank
place_of rank disk.ReadMail = mail_place rank
place_of rank (disk.WriteClaim number) = slot_place rank
place_of rank (disk.WriteClose number) = slot_place rank
place_of rank disk.WriteClear = mail_place rank
place_of rank (disk.WriteReset other) = mail_place other.0

-- what the bytes of a sector of the image give a node is what its operation takes in the world
abbrev pub TakesAlike : Settings → Timing → Type 0
TakesAlike s t =
    (image : ℕ → List ℕ) (w : World) (rank : ℕ) (op : DiskOp)
    → FitsImage s t
    → IsImage s t image w
    → rank < length s.nodes
    → IsOperation s op
    → done s op (image (place_of rank op)) ≡ taken s t rank op w

-- The calls of a process that runs are the beginning of a run of its node, and what is left of that run is what is left where
-- the process stands.
pub record IsRunSoFar (s : Settings) (rank : ℕ) (calls : List Call) (host : Host) : Type 0 where
  pub clean : Bool
  pub polls : Option ℕ
  pub turns : ℕ
  pub goes_on : (more : List Call) (value : Ran)
      → Follows (plan_at s rank host.leave host.stand) more value
      → Follows (live_plan s rank clean host.leave polls turns) (calls ++ more) value

abbrev pub RunsAreRuns : Settings → Timing → Type 0
RunsAreRuns s t =
    (image : ℕ → List ℕ) (happenings : List Happening) (rank : ℕ)
    → AllMayHappen s t image happenings
    → ((joint_after s image happenings).hosts rank).on ≡ true
    → IsRunSoFar s rank (calls_of rank happenings) ((joint_after s image happenings).hosts rank)

-- a resource that runs at a host that is on is held by the log of its node
abbrev pub HostOwns : Host → Type 0
HostOwns host = host.on ≡ true → Owns host.stand.spot host.runs

abbrev pub AlwaysOwns : Settings → Timing → Type 0
AlwaysOwns s t =
    (image : ℕ → List ℕ) (happenings : List Happening) (rank : ℕ)
    → AllMayHappen s t image happenings
    → HostOwns ((joint_after s image happenings).hosts rank)

-- the premises are met: a joined run in which the resources of two nodes run, one after the other, and a deadly message stands
-- in the mailbox of the first
pub record OneAfterAnother : Type 0 where
  pub settings : Settings
  pub timing : Timing
  pub image : ℕ → List ℕ
  pub earlier : List Happening
  pub later : List Happening
  pub first : ℕ
  pub second : ℕ
  pub safe : is_safe timing ≡ true
  pub joined : IsJoined settings timing image (later ++ earlier)
  pub first_runs : runs_at settings image earlier first ≡ true
  pub second_runs : runs_at settings image (later ++ earlier) second ≡ true
  pub reset : is_deadly_mail ((joint_after settings image (later ++ earlier)).image (mail_place first)) ≡ true
  pub differ : ¬ (first ≡ second)

-- The premises are met by a richer run too: both machines run, the resource of one of them runs, and it still runs when a deadly message
-- stands in its mailbox; then the resource of the other one runs.
pub record OwnerIsReset : Type 0 where
  pub settings : Settings
  pub timing : Timing
  pub image : ℕ → List ℕ
  pub started : List Happening
  pub between : List Happening
  pub after : List Happening
  pub owner : ℕ
  pub next : ℕ
  pub valid : IsValid settings
  pub safe : is_safe timing ≡ true
  pub joined : IsJoined settings timing image (after ++ (between ++ started))
  pub owner_runs : runs_at settings image started owner ≡ true
  pub beside : ((joint_after settings image started).hosts next).on ≡ true
  pub still_runs : runs_at settings image (between ++ started) owner ≡ true
  pub reset_stands : is_deadly_mail ((joint_after settings image (between ++ started)).image (mail_place owner)) ≡ true
  pub next_runs : runs_at settings image (after ++ (between ++ started)) next ≡ true
  pub differ : ¬ (owner ≡ next)

-- what is put is read back: a packet whose numbers fit their bytes, and a mailbox
abbrev pub PacketsReadBack : Type 0
PacketsReadBack = (p : Packet) → IsTrue (is_well_formed p) → packet_of (packet_bytes p) ≡ Some p

abbrev pub MailsReadBack : Type 0
MailsReadBack = (m : Mail) → IfSome m.by IsSender → mail_of (mail_bytes m) ≡ Some m
