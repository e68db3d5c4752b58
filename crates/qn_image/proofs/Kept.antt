-- What the mailbox held where a message ended with a fault that is not the disk's.
use Rattle.std.proofs.Common.{◌≡◌, ◌≢◌, ◌↔◌, ℕ, Bool, true, false, Option, None, Some, ok_or, Result, Ok, Err, List, [], ◌∷◌, if◌then◌else◌, refl, sym, ap}
use Rattle.qn_base.specs.declared.calls.Call.{Call}
use Rattle.qn_base.specs.declared.calls.Call.TheVariants.{OpenImage, OpenNode, Now, Receive, Read, Write, Feed, Start, Stop, Send, Disarm, Halt}
use Rattle.qn_base.specs.Calls.{blank, is_failed}
use Rattle.qn_base.specs.Plans.{Ends, ◌>>=◌, Follows}
use Rattle.qn_model.specs.declared.disk.Message.{Message}
use Rattle.qn_model.specs.declared.mailbox.Mail.{Mail}
use Rattle.qn_model.specs.declared.mailbox.Sender.{Sender}
use Rattle.qn_model.specs.Sectors.{anonymous, mail_place, mail_bytes, is_deadly}
use Rattle.qn_sector.specs.Reading.{mail_of}
use Rattle.qn_image.specs.declared.fault.ImageFault.{ImageFault}
use Rattle.qn_image.specs.declared.fault.ImageFault.TheVariants.{Disk, DeadlyThere, DamagedSector}
use Rattle.qn_image.specs.Causes.{FoundDeadly, FoundNoMailbox}
use Rattle.qn_io.specs.Answered.{bytes_read}
use Rattle.qn_image.specs.Plans.{put_plan, or_fault, mail_plan, reads_first, write_plan, replace_plan, send_plan}

-- a call that asks for a read, and did not fail, read the bytes that it tells
pub asked_read : (call : Call) (sector : ℕ) → blank call ≡ Read sector [] true → is_failed call ≡ false → call ≡ Read sector (bytes_read call) true
asked_read (OpenImage path ok) sector asked done = cc
asked_read (OpenNode images image watchdog resource port rank ok) sector asked done = cc
asked_read (Now tick) sector asked done = cc
asked_read (Receive got) sector asked done = cc
asked_read (Read place found true) sector asked done = cc
asked_read (Read place found false) sector asked done = cc
asked_read (Write place given ok) sector asked done = cc
asked_read (Feed ok) sector asked done = cc
asked_read (Start ok) sector asked done = cc
asked_read (Stop ok) sector asked done = cc
asked_read (Send to given ok) sector asked done = cc
asked_read (Disarm ok) sector asked done = cc
asked_read (Halt code) sector asked done = cc

-- a write ends with no fault but the disk's
written_fault : (sector : ℕ) (bytes : List ℕ) (calls : List Call) (fault : ImageFault) → Follows (put_plan sector bytes) calls (Err fault) → fault ≡ Disk
written_fault sector bytes [] fault did = absurd did
written_fault sector bytes (call ∷ calls) fault did = by_answer (is_failed call) did.1.1
  where
    by_answer : (failed : Bool) → ◌≡◌ {A = Result (Unit {0}) ImageFault} (Err fault) (if failed then Err Disk else Ok tt) → fault ≡ Disk
    by_answer true is = cc
    by_answer false is = cc

-- what was read of a mailbox stops a message with this fault
abbrev pub Stops : ℕ → ImageFault → Option Mail → Type 0
Stops rank fault None = fault ≡ DamagedSector (mail_place rank)
Stops rank fault (Some held) = (is_deadly held.message ≡ true) × (fault ≡ DeadlyThere held.message)

-- the mailbox was read before the message, and stopped it
pub record Stopped (rank : ℕ) (message : Message) (fault : ImageFault) (calls : List Call) : Type 0 where
  pub mail : List ℕ
  pub reads : reads_first message ≡ true
  pub made : calls ≡ Read (mail_place rank) mail true ∷ []
  pub stops : Stops rank fault (mail_of mail)

module _ (rank : ℕ) (message : Message) (fault : ImageFault) (other : fault ≢ Disk) where
  by_deadly : (deadly : Bool) (held : Mail) (calls : List Call) → deadly ≡ is_deadly held.message → Follows (if deadly then Ends (Err (DeadlyThere held.message)) else write_plan rank message) calls (Err fault) → (calls ≡ []) × Stops rank fault (Some held)
  by_deadly true held calls same did = (did.0, (sym same, cc))
  by_deadly false held calls same did =
      absurd (other (written_fault (mail_place rank) (mail_bytes (anonymous message)) calls fault did))

  by_mail : (mail : Option Mail) (calls : List Call) → Follows (or_fault (replace_plan rank message) (ok_or mail (DamagedSector (mail_place rank)))) calls (Err fault) → (calls ≡ []) × Stops rank fault mail
  by_mail None calls did = (did.0, cc)
  by_mail (Some held) calls did = by_deadly (is_deadly held.message) held calls refl did

  by_answer : (failed : Bool) (call : Call) (calls : List Call) → failed ≡ is_failed call → reads_first message ≡ true → blank call ≡ Read (mail_place rank) [] true → Follows (Ends (if failed then Err Disk else Ok (bytes_read call)) >>= or_fault (λ bytes. Ends (ok_or (mail_of bytes) (DamagedSector (mail_place rank)))) >>= or_fault (replace_plan rank message)) calls (Err fault) → Stopped rank message fault (call ∷ calls)
  by_answer true call calls same reads asked did = absurd (other cc)
  by_answer false call calls same reads asked did =
      let met = by_mail (mail_of (bytes_read call)) calls did in
      record {
        mail = bytes_read call;
        reads = reads;
        made = rw met.0 (ap (λ c. c ∷ []) (asked_read call (mail_place rank) asked (sym same)));
        stops = met.1;
      }

  by_message : (first : Bool) (calls : List Call) → first ≡ reads_first message → Follows (if first then mail_plan 2 rank >>= or_fault (replace_plan rank message) else write_plan rank message) calls (Err fault) → Stopped rank message fault calls
  unfolding mail_plan
  by_message true [] same did = absurd did
  by_message true (call ∷ calls) same did = by_answer (is_failed call) call calls refl (sym same) did.0 did.1
  by_message false calls same did =
      absurd (other (written_fault (mail_place rank) (mail_bytes (anonymous message)) calls fault did))

  pub stopped : (calls : List Call) → Follows (send_plan rank message) calls (Err fault) → Stopped rank message fault calls
  unfolding send_plan
  stopped calls did = by_message (reads_first message) calls refl did

module _ (rank : ℕ) (message : Message) where
  -- a deadly message was found, whoever wrote it
  abbrev IsHeld : Message → Option Mail → Type 0
  IsHeld held mail =
      (by : Option Sender) × ((mail ≡ Some (record { message = held; by = by })) × (is_deadly held ≡ true))

  held_deadly : (held : Message) (mail : Option Mail) → Stops rank (DeadlyThere held) mail → IsHeld held mail
  held_deadly held None stops = cc
  held_deadly held (Some found) stops = let same : held ≡ found.message = cc in (found.by, (rw same refl, rw same stops.0))

  held_none : (mail : Option Mail) → Stops rank (DamagedSector (mail_place rank)) mail → mail ≡ None
  held_none None stops = refl
  held_none (Some found) stops = cc

  pub deadly_there : (held : Message) (calls : List Call) → Follows (send_plan rank message) calls (Err (DeadlyThere held)) ↔ FoundDeadly rank message held calls
  unfolding send_plan mail_plan
  deadly_there held calls = (
    λ did.
        let met = stopped rank message (DeadlyThere held) (λ is. cc) calls did in
        let found = held_deadly held (mail_of met.mail) met.stops in
        record { mail = met.mail; by = found.0; reads = met.reads; made = met.made; holds = found.1.0; deadly = found.1.1 },
    λ found. rw (found.made, found.reads) (refl, rw (found.holds, found.deadly) (refl, refl)),
  )

  pub no_mailbox : (calls : List Call) → Follows (send_plan rank message) calls (Err (DamagedSector (mail_place rank))) ↔ FoundNoMailbox rank message calls
  unfolding send_plan mail_plan
  no_mailbox calls = (
    λ did.
        let met = stopped rank message (DamagedSector (mail_place rank)) (λ is. cc) calls did in
        record { mail = met.mail; reads = met.reads; made = met.made; none = held_none (mail_of met.mail) met.stops },
    λ found. rw (found.made, found.reads) (refl, rw found.none (refl, refl)),
  )
