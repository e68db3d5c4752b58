-- How the search for a node's slot goes on, rank by rank.
use Rattle.std.proofs.Common.{◌≡◌, ◌<◌, ◌≤◌, ◌+◌, ◌-◌, ◌==◌, ℕ, suc, true, false, Result, Ok, Err, Option, List, if◌then◌else◌, ap, arith}
use Rattle.qn_base.specs.declared.calls.Call.{Call}
use Rattle.qn_base.specs.declared.ids.NodeId.{NodeId}
use Rattle.qn_base.specs.Plans.{Plan, Ends, ◌>>=◌, Did, At}
use Rattle.qn_base.specs.PlanSteps.{did_none, at_then, at_end}
use Rattle.qn_model.specs.declared.disk.Message.{Message}
use Rattle.qn_model.specs.declared.disk.Slot.{Slot}
use Rattle.qn_image.specs.declared.fault.ImageFault.{ImageFault}
use Rattle.qn_image.specs.declared.fault.ImageFault.TheVariants.{UnknownNode}
use Rattle.qn_image.specs.Plans.{or_fault, slot_plan, send_plan, search_plan}
use Rattle.qn_image.specs.Joining.{faulted}

module _ (id : NodeId) (message : Message) (rank nodes : ℕ) where
  -- what follows the slot of this rank
  abbrev judge : NodeId × Slot → Plan (Result (Unit {0}) ImageFault)
  judge found =
      if found.0.0 == id.0 then send_plan rank message
      else search_plan id message (rank + 1) (nodes - (rank + 1))

  search_plan-more : rank < nodes → search_plan id message rank (nodes - rank) ≡ slot_plan rank >>= or_fault judge
  unfolding search_plan
  search_plan-more more =
      let left : nodes - rank ≡ suc (nodes - (rank + 1)) = omega arith in ap (λ n. search_plan id message rank n) left

  search_plan-over : nodes ≤ rank → search_plan id message rank (nodes - rank) ≡ Ends (Err UnknownNode)
  unfolding search_plan
  search_plan-over over = let left : nodes - rank ≡ 0 = omega arith in ap (λ n. search_plan id message rank n) left

  module _ {f g : ℕ} {a b : Option (List Call)} {whole : Plan (Result (Unit {0}) ImageFault)} (so_far : At f g a b whole (search_plan id message rank (nodes - rank))) where
    -- the slot of this rank is left
    at_slot : rank < nodes → At f g a b whole (slot_plan rank >>= or_fault judge)
    at_slot more = rw (search_plan-more more) at so_far

    module _ {h : ℕ} {c : Option (List Call)} (more : rank < nodes) where
      -- the slot has another id
      pub another : (found : NodeId × Slot) → Did g h b c (slot_plan rank) (Ok found) → (found.0.0 == id.0) ≡ false → At f h a c whole (search_plan id message (rank + 1) (nodes - (rank + 1)))
      another found read differs = rw differs at (at_then (or_fault judge) (at_slot more) read)

      -- the slot has the id, and the message was left in its mailbox
      pub reached : {i : ℕ} {d : Option (List Call)} {result : Result (Unit {0}) ImageFault} (found : NodeId × Slot) → Did g h b c (slot_plan rank) (Ok found) → (found.0.0 == id.0) ≡ true → Did h i c d (send_plan rank message) result → Did f i a d whole result
      reached found read same sent = at_end (rw same at (at_then (or_fault judge) (at_slot more) read)) sent

      -- the slot could not be read
      pub unread : (fault : ImageFault) → Did g h b c (slot_plan rank) (Err fault) → Did f h a c whole (Err fault)
      unread fault read = at_end (at_slot more) (faulted (slot_plan rank) judge read)

    -- no slot is left
    pub searched : nodes ≤ rank → Did f g a b whole (Err UnknownNode)
    searched over = at_end (rw (search_plan-over over) at so_far) (did_none _ _ _)
