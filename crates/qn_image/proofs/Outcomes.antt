-- Which faults a plan can end with: Disk exactly where a call failed, and none but those allowed.
use Rattle.std.proofs.Common.{◌≡◌, ℕ, zero, suc, ◌+◌, ◌==◌, Bool, true, false, ◌||◌, Option, None, Some, ok_or, Result, Ok, Err, IfErr, List, [], ◌∷◌, ◌++◌, length, if◌then◌else◌, refl, sym, inl, inr}
use Rattle.std.proofs.Math.Bool.{or_assoc}
use Rattle.qn_base.specs.declared.calls.Call.{Call}
use Rattle.qn_base.specs.declared.ids.NodeId.{NodeId}
use Rattle.qn_base.specs.Calls.{is_failed, some_failed}
use Rattle.qn_base.specs.Faults.{HasRisen}
use Rattle.qn_base.specs.Plans.{Plan, Ends, Asks, ◌>>=◌, Follows, Did}
use Rattle.qn_model.specs.declared.disk.Message.{Message}
use Rattle.qn_model.specs.declared.disk.Slot.{Slot}
use Rattle.qn_model.specs.declared.mailbox.Mail.{Mail}
use Rattle.qn_model.specs.declared.times.Timing.{Timing}
use Rattle.qn_model.specs.Sectors.{anonymous, slot_place, mail_place, mail_place_1, mail_bytes, is_deadly}
use Rattle.qn_sector.specs.Reading.{slot_of}
use Rattle.qn_image.specs.declared.fault.ImageFault.{ImageFault}
use Rattle.qn_image.specs.declared.fault.ImageFault.TheVariants.{Disk, NotImage, UnsafeTiming, DeadlyThere, DamagedSector, UnknownNode}
use Rattle.qn_image.specs.Causes.{IsLineFault, IsMessageFault, IsCreateFault, IsMigrateFault}
use Rattle.qn_image.specs.Migration.{mailboxes_plan, migrate_writes, convert_plan, migrate_plan}
use Rattle.qn_io.specs.Answered.{bytes_read}
use Rattle.qn_image.specs.Plans.{read_plan, put_plan, or_fault, header_plan, slot_plan, mail_plan, line_plan, reads_first, send_plan, search_plan, message_plan}
use Rattle.qn_image.specs.Versions.{any_header_of, mailbox_of, mailbox_place}
use Rattle.qn_image.specs.Writes.{SectorWrite, writes_plan}

-- at each end of the plan P holds of whether a call failed on the way to it, and of its value
abbrev AtEnds : {A : Type 0} → (Bool → A → Type 0) → Bool → Plan A → Type 0
AtEnds P failed (Ends end) = P failed end
AtEnds P failed (Asks question left) = (call : Call) → AtEnds P (failed || is_failed call) (left call)

at_ends_then : {A B : Type 0} (P : Bool → B → Type 0) (failed : Bool) (plan : Plan A) (next : A → Plan B) → AtEnds (λ met value. AtEnds P met (next value)) failed plan → AtEnds P failed (plan >>= next)
at_ends_then P failed (Ends end) next holds = holds
at_ends_then P failed (Asks question left) next holds =
    λ call. at_ends_then P (failed || is_failed call) (left call) next (holds call)

at_ends_map : {A : Type 0} (P Q : Bool → A → Type 0) → ((failed : Bool) (value : A) → P failed value → Q failed value) → (failed : Bool) (plan : Plan A) → AtEnds P failed plan → AtEnds Q failed plan
at_ends_map P Q change failed (Ends end) holds = change failed end holds
at_ends_map P Q change failed (Asks question left) holds =
    λ call. at_ends_map P Q change (failed || is_failed call) (left call) (holds call)

at_ends_follow : {A : Type 0} (P : Bool → A → Type 0) (failed : Bool) (plan : Plan A) (calls : List Call) (value : A) → AtEnds P failed plan → Follows plan calls value → P (failed || some_failed calls) value
at_ends_follow P failed (Ends end) calls value holds did = rw (did.0, did.1) (no_more P failed end holds)
  where
    no_more : {A : Type 0} (P : Bool → A → Type 0) (failed : Bool) (end : A) → P failed end → P (failed || false) end
    no_more P true end holds = holds
    no_more P false end holds = holds
at_ends_follow P failed (Asks question left) [] value holds did = absurd did
at_ends_follow P failed (Asks question left) (call ∷ calls) value holds did =
    rw (← or_assoc failed (is_failed call) (some_failed calls)) (at_ends_follow P (failed || is_failed call) (left call) calls value (holds call) did.1)

abbrev is_disk_fault : ImageFault → Bool
is_disk_fault Disk = true
is_disk_fault _ = false

abbrev is_disk : {A : Type 0} → Result A ImageFault → Bool
is_disk (Ok value) = false
is_disk (Err fault) = is_disk_fault fault

-- Disk is the answer exactly where a call failed, and every fault is an allowed one
pub record IsOutcome {A : Type 0} (allowed : ImageFault → Type 0) (failed : Bool) (result : Result A ImageFault) : Type 0 where
  pub disk : failed ≡ is_disk result
  pub fault : IfErr result allowed

abbrev pub Outcomes : {A : Type 0} → (ImageFault → Type 0) → Plan (Result A ImageFault) → Type 0
Outcomes allowed plan = AtEnds (λ failed result. IsOutcome allowed failed result) false plan

module _ {A B : Type 0} (allowed : ImageFault → Type 0) (next : A → Plan (Result B ImageFault)) (goes_on : (value : A) → Outcomes allowed (next value)) where
  on_answer : (failed : Bool) (answer : Result A ImageFault) → IsOutcome allowed failed answer → AtEnds (λ met result. IsOutcome allowed met result) failed (or_fault next answer)
  on_answer true (Ok value) is = cc
  on_answer false (Ok value) is = goes_on value
  on_answer failed (Err fault) is = record { disk = is.disk; fault = is.fault }

  -- a plan goes on after a part of which the same holds
  pub outcomes_then : (plan : Plan (Result A ImageFault)) → Outcomes allowed plan → Outcomes allowed (plan >>= or_fault next)
  outcomes_then plan holds =
      at_ends_then (λ met result. IsOutcome allowed met result) false plan (or_fault next) (at_ends_map _ _ on_answer false plan holds)

-- a single call
call_outcome : {A : Type 0} (allowed : ImageFault → Type 0) (failed : Bool) (value : A) → allowed Disk → IsOutcome allowed failed (if failed then Err Disk else Ok value)
call_outcome allowed true value disk = record { disk = refl; fault = disk }
call_outcome allowed false value disk = record { disk = refl; fault = tt }

-- what was read is a spelling, or ends the plan with that fault
spelling_outcome : {A : Type 0} (allowed : ImageFault → Type 0) (found : Option A) (fault : ImageFault) → is_disk_fault fault ≡ false → allowed fault → IsOutcome allowed false (ok_or found fault)
spelling_outcome allowed None fault other may = record { disk = sym other; fault = may }
spelling_outcome allowed (Some value) fault other may = record { disk = refl; fault = tt }

module _ (allowed : ImageFault → Type 0) (disk : allowed Disk) where
  read_outcomes : (sector : ℕ) → Outcomes allowed (read_plan sector)
  read_outcomes sector = λ call. call_outcome allowed (is_failed call) (bytes_read call) disk

  put_outcomes : (sector : ℕ) (bytes : List ℕ) → Outcomes allowed (put_plan sector bytes)
  put_outcomes sector bytes = λ call. call_outcome allowed (is_failed call) tt disk

  pub header_outcomes : allowed NotImage → Outcomes allowed header_plan
  unfolding header_plan
  header_outcomes no_image =
      outcomes_then allowed _ (λ bytes. spelling_outcome allowed (any_header_of bytes) NotImage refl no_image) (read_plan 0) (read_outcomes 0)

  slot_outcomes : (rank : ℕ) → allowed (DamagedSector (slot_place rank)) → Outcomes allowed (slot_plan rank)
  unfolding slot_plan
  slot_outcomes rank damaged =
      outcomes_then allowed _ (λ bytes. spelling_outcome allowed (slot_of bytes) (DamagedSector (slot_place rank)) refl damaged) (read_plan (slot_place rank)) (read_outcomes (slot_place rank))

  mail_outcomes : (version rank : ℕ) → allowed (DamagedSector (mailbox_place version rank)) → Outcomes allowed (mail_plan version rank)
  unfolding mail_plan
  mail_outcomes version rank damaged =
      outcomes_then allowed _ (λ bytes. spelling_outcome allowed (mailbox_of version bytes) (DamagedSector (mailbox_place version rank)) refl damaged) (read_plan (mailbox_place version rank)) (read_outcomes (mailbox_place version rank))

  pub line_outcomes : (version rank : ℕ) → allowed (DamagedSector (slot_place rank)) → allowed (DamagedSector (mailbox_place version rank)) → Outcomes allowed (line_plan version rank)
  unfolding line_plan
  line_outcomes version rank slot mail =
      outcomes_then allowed _ (λ found. outcomes_then allowed _ (λ message. record { disk = refl; fault = tt }) (mail_plan version rank) (mail_outcomes version rank mail)) (slot_plan rank) (slot_outcomes rank slot)

  -- one of two plans
  choice_outcomes : {A : Type 0} (first : Bool) (one other : Plan (Result A ImageFault)) → Outcomes allowed one → Outcomes allowed other → Outcomes allowed (if first then one else other)
  choice_outcomes true one other holds also = holds
  choice_outcomes false one other holds also = also

  module _ (damaged : (sector : ℕ) → allowed (DamagedSector sector)) (deadly : (held : Message) → allowed (DeadlyThere held)) (unknown : allowed UnknownNode) where
    send_outcomes : (rank : ℕ) (message : Message) → Outcomes allowed (send_plan rank message)
    unfolding send_plan
    send_outcomes rank message =
        choice_outcomes (reads_first message) _ _
        (outcomes_then allowed _
        (λ held. choice_outcomes (is_deadly held.message) _ _ (record { disk = refl; fault = deadly held.message }) (put_outcomes (mail_place rank) (mail_bytes (anonymous message))))
        (mail_plan 2 rank) (mail_outcomes 2 rank (damaged (mail_place rank))))
        (put_outcomes (mail_place rank) (mail_bytes (anonymous message)))

    search_outcomes : (id : NodeId) (message : Message) (rank left : ℕ) → Outcomes allowed (search_plan id message rank left)
    unfolding search_plan
    search_outcomes id message rank zero = record { disk = refl; fault = unknown }
    search_outcomes id message rank (suc left) =
        outcomes_then allowed _
        (λ found. choice_outcomes (found.0.0 == id.0) _ _ (send_outcomes rank message) (search_outcomes id message (rank + 1) left))
        (slot_plan rank) (slot_outcomes rank (damaged (slot_place rank)))

    pub message_outcomes : (id : NodeId) (message : Message) → allowed NotImage → Outcomes allowed (message_plan id message)
    unfolding message_plan
    message_outcomes id message no_image =
        outcomes_then allowed _
        (λ header. choice_outcomes (header.0 == 2) _ _ (search_outcomes id message 0 header.1) (record { disk = refl; fault = no_image }))
        header_plan (header_outcomes no_image)

  pub writes_outcomes : (writes : List SectorWrite) → Outcomes allowed (writes_plan writes)
  unfolding writes_plan
  writes_outcomes [] = record { disk = refl; fault = tt }
  writes_outcomes (write ∷ writes) =
      outcomes_then allowed _ (λ done. writes_outcomes writes) (put_plan write.sector write.bytes) (put_outcomes write.sector write.bytes)

  module _ (damaged : (rank : ℕ) → allowed (DamagedSector (mail_place_1 rank))) where
    mailboxes_outcomes : (found : List Message) (left : ℕ) → Outcomes allowed (mailboxes_plan found left)
    unfolding mailboxes_plan
    mailboxes_outcomes found zero = record { disk = refl; fault = tt }
    mailboxes_outcomes found (suc left) =
        outcomes_then allowed _ (λ mail. mailboxes_outcomes (found ++ mail.message ∷ []) left) (mail_plan 1 (length found)) (mail_outcomes 1 (length found) (damaged (length found)))

    convert_outcomes : (nodes : ℕ) (timing : Timing) → Outcomes allowed (convert_plan nodes timing)
    convert_outcomes nodes timing =
        outcomes_then allowed _ (λ messages. writes_outcomes (migrate_writes nodes timing messages)) (mailboxes_plan [] nodes) (mailboxes_outcomes [] nodes)

    pub migrate_outcomes : allowed NotImage → Outcomes allowed migrate_plan
    unfolding migrate_plan
    migrate_outcomes no_image =
        outcomes_then allowed _
        (λ header. choice_outcomes (header.0 == 2) _ _ (record { disk = refl; fault = tt }) (outcomes_then allowed _ (λ done. record { disk = refl; fault = tt }) (convert_plan header.1 header.2) (convert_outcomes header.1 header.2)))
        header_plan (header_outcomes no_image)

-- what a call did, where that holds of its plan
module _ {A : Type 0} {f g : ℕ} {a b : Option (List Call)} (allowed : ImageFault → Type 0) (plan : Plan (Result A ImageFault)) (holds : Outcomes allowed plan) (result : Result A ImageFault) (did : Did f g a b plan result) where
  outcome : IsOutcome allowed (some_failed did.calls) result
  outcome = at_ends_follow (λ met end. IsOutcome allowed met end) false plan did.calls result holds did.follows

  -- Disk comes only where the count of faults rose, and no fault but those allowed
  causes : (result ≡ Err Disk → HasRisen f g) × IfErr result allowed
  causes = (λ is. did.made.cause (rw is at outcome.disk), outcome.fault)

module _ {f g : ℕ} {a b : Option (List Call)} where
  pub line_causes : (version rank : ℕ) (result : Result (NodeId × Slot × Mail) ImageFault) → Did f g a b (line_plan version rank) result → (result ≡ Err Disk → HasRisen f g) × IfErr result (IsLineFault version rank)
  line_causes version rank result did =
      causes (IsLineFault version rank) (line_plan version rank) (line_outcomes (IsLineFault version rank) (inl refl) version rank (inr (inl refl)) (inr (inr refl))) result did

  pub migrate_causes : (result : Result ℕ ImageFault) → Did f g a b migrate_plan result → (result ≡ Err Disk → HasRisen f g) × IfErr result IsMigrateFault
  migrate_causes result did =
      causes IsMigrateFault migrate_plan (migrate_outcomes IsMigrateFault (inl refl) (λ rank. inr (inr (rank, refl))) (inr (inl refl))) result did

  pub message_causes : (id : NodeId) (message : Message) (result : Result (Unit {0}) ImageFault) → Did f g a b (message_plan id message) result → (result ≡ Err Disk → HasRisen f g) × IfErr result IsMessageFault
  message_causes id message result did =
      causes IsMessageFault (message_plan id message) (message_outcomes IsMessageFault (λ is. cc) (λ sector is. cc) (λ held is. cc) (λ is. cc) id message (λ is. cc)) result did

  pub writes_causes : (writes : List SectorWrite) (result : Result (Unit {0}) ImageFault) → Did f g a b (writes_plan writes) result → (result ≡ Err Disk → HasRisen f g) × IfErr result (λ fault. fault ≡ Disk)
  writes_causes writes result did =
      causes (λ fault. fault ≡ Disk) (writes_plan writes) (writes_outcomes (λ fault. fault ≡ Disk) refl writes) result did

-- the writes of a creation fail by the disk alone
pub create_faults : (result : Result (Unit {0}) ImageFault) → IfErr result (λ fault. fault ≡ Disk) → IfErr result IsCreateFault
create_faults (Ok done) only = tt
create_faults (Err fault) only = inl only

-- and so never for the times, which are safe there
pub safe_creation : (safe : Bool) (result : Result (Unit {0}) ImageFault) → safe ≡ true → IfErr result (λ fault. fault ≡ Disk) → (result ≡ Err UnsafeTiming → safe ≡ false) × (safe ≡ false → result ≡ Err UnsafeTiming)
safe_creation safe (Ok done) is only = (λ unsafe. cc, λ not_safe. cc)
safe_creation safe (Err fault) is only = (λ unsafe. cc, λ not_safe. cc)
