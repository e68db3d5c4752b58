-- What was read where a call on an image ended with a fault of the image.
use Rattle.std.proofs.Common.{◌≡◌, ◌↔◌, ◌==◌, ◌+◌, ℕ, zero, suc, Bool, true, false, Option, None, Some, ok_or, Result, Ok, Err, List, [], ◌∷◌, length, All, if◌then◌else◌, refl, sym, ap, ◌∙◌}
use Rattle.std.proofs.lemmas.Bool.{ne_eqb, eqb-false, eqb-true}
use Rattle.std.proofs.lemmas.List.Elements.{All-nil, All-cons, All-head, All-tail}
use Rattle.qn_base.specs.declared.calls.Call.{Call}
use Rattle.qn_base.specs.declared.calls.Call.TheVariants.{Read}
use Rattle.qn_base.specs.declared.ids.NodeId.{NodeId}
use Rattle.qn_base.specs.Calls.{blank, is_failed}
use Rattle.qn_base.specs.Plans.{Plan, Ends, ◌>>=◌, Follows}
use Rattle.qn_model.specs.declared.disk.Message.{Message}
use Rattle.qn_model.specs.declared.disk.Slot.{Slot}
use Rattle.qn_model.specs.declared.mailbox.Mail.{Mail}
use Rattle.qn_model.specs.declared.times.Timing.{Timing}
use Rattle.qn_model.specs.Sectors.{slot_place}
use Rattle.qn_sector.specs.Reading.{slot_of, mail_of}
use Rattle.qn_image.specs.declared.fault.ImageFault.{ImageFault}
use Rattle.qn_image.specs.declared.fault.ImageFault.TheVariants.{Disk, NotImage, DamagedSector, UnknownNode}
use Rattle.qn_image.specs.Causes.{IsOthersSlot, slot_reads, FoundNone}
use Rattle.qn_io.specs.Answered.{bytes_read}
use Rattle.qn_image.specs.Plans.{or_fault, header_plan, slot_plan, mail_plan, line_plan, send_plan, search_plan, message_plan}
use Rattle.qn_image.specs.Versions.{any_header_of, mailbox_of, mailbox_place}
use Rattle.qn_image.proofs.Kept.{asked_read, Stops, stopped}

-- nothing that is there is a fault
none_of_fault : {A : Type 0} (found : Option A) (fault : ImageFault) → Err fault ≡ ok_or found fault → found ≡ None
none_of_fault None fault is = refl
none_of_fault (Some value) fault is = cc

pub not_image : (bytes : List ℕ) → Follows header_plan (Read 0 bytes true ∷ []) (Err NotImage) ↔ (any_header_of bytes ≡ None)
unfolding header_plan
not_image bytes = (
  λ did. none_of_fault (any_header_of bytes) NotImage did.1.1,
  λ is. (refl, (refl, rw is refl)),
)

-- what follows the slot of a line, and its mailbox
abbrev with_mail : NodeId × Slot → Mail → Plan (Result (NodeId × Slot × Mail) ImageFault)
with_mail found mail = Ends (Ok (found.0, found.1, mail))

abbrev with_slot : ℕ → ℕ → NodeId × Slot → Plan (Result (NodeId × Slot × Mail) ImageFault)
with_slot version rank found = mail_plan version rank >>= or_fault (with_mail found)

none_of_slot : (version rank : ℕ) (found : Option (NodeId × Slot)) → Follows (or_fault (with_slot version rank) (ok_or found (DamagedSector (slot_place rank)))) [] (Err (DamagedSector (slot_place rank))) → found ≡ None
unfolding mail_plan
none_of_slot version rank None did = refl
none_of_slot version rank (Some found) did = absurd did

none_of_mail : (place : ℕ) (found : NodeId × Slot) (mail : Option Mail) → Follows (or_fault (with_mail found) (ok_or mail (DamagedSector place))) [] (Err (DamagedSector place)) → mail ≡ None
none_of_mail place found None did = refl
none_of_mail place found (Some mail) did = cc

pub damaged_slot : (version rank : ℕ) (bytes : List ℕ) → Follows (line_plan version rank) (Read (slot_place rank) bytes true ∷ []) (Err (DamagedSector (slot_place rank))) ↔ (slot_of bytes ≡ None)
unfolding line_plan slot_plan
damaged_slot version rank bytes = (λ did. none_of_slot version rank (slot_of bytes) did.1, λ none. (refl, rw none (refl, refl)))

pub damaged_mailbox : (version rank : ℕ) (slot mail : List ℕ) (found : NodeId × Slot) → slot_of slot ≡ Some found → Follows (line_plan version rank) (Read (slot_place rank) slot true ∷ Read (mailbox_place version rank) mail true ∷ []) (Err (DamagedSector (mailbox_place version rank))) ↔ (mailbox_of version mail ≡ None)
unfolding line_plan slot_plan mail_plan
damaged_mailbox version rank slot mail found is = (
  λ did. none_of_mail (mailbox_place version rank) found (mailbox_of version mail) (rw is at did.1).1,
  λ none. (refl, rw is (refl, rw none (refl, refl))),
)

-- a message that reached its mailbox never ends with an unknown node
sent_is_known : (rank : ℕ) (message : Message) (calls : List Call) → Follows (send_plan rank message) calls (Err UnknownNode) → ⊥
sent_is_known rank message calls did =
    let met = stopped rank message UnknownNode (λ is. cc) calls did in by_mail (mail_of met.mail) met.stops
  where
    by_mail : (mail : Option Mail) → Stops rank UnknownNode mail → ⊥
    by_mail None stops = cc
    by_mail (Some held) stops = cc

-- the slots that were read, each of another node
abbrev Searched : NodeId → ℕ → ℕ → List Call → Type 0
Searched id rank left calls =
    (slots : List (List ℕ)) × ((calls ≡ slot_reads rank slots) × ((length slots ≡ left) × All (IsOthersSlot id) slots))

module _ (id : NodeId) (message : Message) (rank left : ℕ) where
  abbrev judge : NodeId × Slot → Plan (Result (Unit {0}) ImageFault)
  judge found =
      if found.0.0 == id.0 then send_plan rank message else search_plan id message (rank + 1) left

  module _ (search : (calls : List Call) → Follows (search_plan id message (rank + 1) left) calls (Err UnknownNode) → Searched id (rank + 1) left calls) where
    -- one slot more was read
    one_more : (call : Call) (calls : List Call) (found : NodeId × Slot) → call ≡ Read (slot_place rank) (bytes_read call) true → slot_of (bytes_read call) ≡ Some found → (found.0.0 == id.0) ≡ false → Searched id (rank + 1) left calls → Searched id rank (suc left) (call ∷ calls)
    one_more call calls found is read differs rest = (
      bytes_read call ∷ rest.0,
      (
        rw (← rest.1.0) (ap (λ c. c ∷ calls) is),
        (ap suc rest.1.1.0, All-cons (IsOthersSlot id) (bytes_read call) rest.0 (found, (read, eqb-false found.0.0 id.0 differs)) rest.1.1.1),
      ),
    )

    by_id : (test : Bool) (call : Call) (calls : List Call) (found : NodeId × Slot) → test ≡ (found.0.0 == id.0) → call ≡ Read (slot_place rank) (bytes_read call) true → slot_of (bytes_read call) ≡ Some found → Follows (if test then send_plan rank message else search_plan id message (rank + 1) left) calls (Err UnknownNode) → Searched id rank (suc left) (call ∷ calls)
    by_id true call calls found same is read did =
        absurd (sent_is_known rank message calls did)
    by_id false call calls found same is read did = one_more call calls found is read (sym same) (search calls did)

    by_slot : (slot : Option (NodeId × Slot)) (call : Call) (calls : List Call) → slot ≡ slot_of (bytes_read call) → call ≡ Read (slot_place rank) (bytes_read call) true → Follows (Ends (ok_or slot (DamagedSector (slot_place rank))) >>= or_fault judge) calls (Err UnknownNode) → Searched id rank (suc left) (call ∷ calls)
    by_slot None call calls same is did = cc
    by_slot (Some found) call calls same is did =
        by_id (found.0.0 == id.0) call calls found refl is (sym same) did

    by_answer : (failed : Bool) (call : Call) (calls : List Call) → failed ≡ is_failed call → blank call ≡ Read (slot_place rank) [] true → Follows (Ends (if failed then Err Disk else Ok (bytes_read call)) >>= or_fault (λ bytes. Ends (ok_or (slot_of bytes) (DamagedSector (slot_place rank)))) >>= or_fault judge) calls (Err UnknownNode) → Searched id rank (suc left) (call ∷ calls)
    by_answer true call calls same asked did = cc
    by_answer false call calls same asked did =
        by_slot (slot_of (bytes_read call)) call calls refl (asked_read call (slot_place rank) asked (sym same)) did

-- a search that found nothing read every slot
searched_all : (id : NodeId) (message : Message) (rank left : ℕ) (calls : List Call) → Follows (search_plan id message rank left) calls (Err UnknownNode) → Searched id rank left calls
unfolding search_plan slot_plan
searched_all id message rank zero calls did = ([], (did.0, (refl, All-nil (IsOthersSlot id))))
searched_all id message rank (suc left) [] did = absurd did
searched_all id message rank (suc left) (call ∷ calls) did =
    by_answer id message rank left (searched_all id message (rank + 1) left) (is_failed call) call calls refl did.0 did.1

-- and a search that reads every slot finds nothing
all_searched : (id : NodeId) (message : Message) (rank : ℕ) (slots : List (List ℕ)) → All (IsOthersSlot id) slots → Follows (search_plan id message rank (length slots)) (slot_reads rank slots) (Err UnknownNode)
unfolding search_plan slot_plan
all_searched id message rank [] others = (refl, refl)
all_searched id message rank (slot ∷ slots) others =
    let other = All-head (IsOthersSlot id) slot slots others in
    let rest = all_searched id message (rank + 1) slots (All-tail (IsOthersSlot id) slot slots others) in
    (refl, rw other.1.0 (rw (ne_eqb other.0.0.0 id.0 other.1.1) rest))

module _ (id : NodeId) (message : Message) where
  abbrev after_header : ℕ × ℕ × Timing → Plan (Result (Unit {0}) ImageFault)
  after_header header = if header.0 == 2 then search_plan id message 0 header.1 else Ends (Err NotImage)

  by_version : (known : Bool) (version nodes : ℕ) (timing : Timing) (call : Call) (calls : List Call) → known ≡ (version == 2) → any_header_of (bytes_read call) ≡ Some (version, nodes, timing) → call ≡ Read 0 (bytes_read call) true → Follows (if known then search_plan id message 0 nodes else Ends (Err NotImage)) calls (Err UnknownNode) → FoundNone id (call ∷ calls)
  by_version true version nodes timing call calls same read is did =
      let slots = searched_all id message 0 nodes calls did in
      let second : version ≡ 2 = eqb-true version 2 (sym same) in
      record {
        header = bytes_read call;
        timing = timing;
        slots = slots.0;
        made = rw (← slots.1.0) (ap (λ c. c ∷ calls) is);
        counted = read ∙ ap (λ v. Some (v, nodes, timing)) second ∙ ap (λ n. Some (2, n, timing)) (sym slots.1.1.0);
        others = slots.1.1.1;
      }
  by_version false version nodes timing call calls same read is did = cc

  by_header : (header : Option (ℕ × ℕ × Timing)) (call : Call) (calls : List Call) → header ≡ any_header_of (bytes_read call) → call ≡ Read 0 (bytes_read call) true → Follows (or_fault after_header (ok_or header NotImage)) calls (Err UnknownNode) → FoundNone id (call ∷ calls)
  by_header None call calls same is did = cc
  by_header (Some header) call calls same is did =
      by_version (header.0 == 2) header.0 header.1 header.2 call calls refl (sym same) is did

  by_read : (failed : Bool) (call : Call) (calls : List Call) → failed ≡ is_failed call → blank call ≡ Read 0 [] true → Follows (Ends (if failed then Err Disk else Ok (bytes_read call)) >>= or_fault (λ bytes. Ends (ok_or (any_header_of bytes) NotImage)) >>= or_fault after_header) calls (Err UnknownNode) → FoundNone id (call ∷ calls)
  by_read true call calls same asked did = cc
  by_read false call calls same asked did =
      by_header (any_header_of (bytes_read call)) call calls refl (asked_read call 0 asked (sym same)) did

  unknown : (calls : List Call) → Follows (message_plan id message) calls (Err UnknownNode) → FoundNone id calls
  unfolding message_plan header_plan
  unknown [] did = absurd did
  unknown (call ∷ calls) did = by_read (is_failed call) call calls refl did.0 did.1

  known : (header : List ℕ) (timing : Timing) (slots : List (List ℕ)) → any_header_of header ≡ Some (2, length slots, timing) → All (IsOthersSlot id) slots → Follows (message_plan id message) (Read 0 header true ∷ slot_reads 0 slots) (Err UnknownNode)
  unfolding message_plan header_plan
  known header timing slots counted others = (refl, rw counted (all_searched id message 0 slots others))

  pub unknown_node : (calls : List Call) → Follows (message_plan id message) calls (Err UnknownNode) ↔ FoundNone id calls
  unknown_node calls = (
    unknown calls,
    λ none. rw none.made (known none.header none.timing none.slots none.counted none.others),
  )
