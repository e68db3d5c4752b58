-- How an audit takes its input step by step, up to its end.
use Rattle.std.proofs.Common.{◌≡◌, ℕ, List, [], ◌∷◌, ◌++◌, Option, sym, ap, ◌∙◌, subst, append_assoc}
use Rattle.std.specs.Io.KnownBytes.{prepend_known}
use Rattle.qn_io.specs.Outside.{prepend_known-append, prepend_known-nil}
use Rattle.qn_model.specs.Inputs.{Tells, Anyway, AtEnd, AtFailure}
use Rattle.qn_model.specs.Lines.{Ended, ReadFailed}
use Rattle.qn_audit.specs.declared.audit_end.AuditEnd.{AuditEnd}
use Rattle.qn_audit.specs.declared.audit_end.AuditEnd.TheVariants.{ReadFault}
use Rattle.qn_audit.specs.Deciding.{Input, IsNeeded, IsOpen, LastDecides, Leads, StillOpen, Stops, input_of}

-- nothing was taken yet
pub leads_nowhere : (ends : AuditEnd → Input → Type 0) (to_come : Option (List ℕ)) → IsOpen ends [] → Leads ends ends to_come to_come
leads_nowhere ends to_come still = record {
  taken = [];
  takes = sym (prepend_known-nil to_come);
  needed = StillOpen still;
  rest = λ end ending more ends_so. ends_so;
}

module _ {before between : AuditEnd → Input → Type 0} {a b : Option (List ℕ)} (first : Leads before between a b) where
  open_after : (front : List ℕ) → IsOpen between front → IsOpen before (first.taken ++ front)
  open_after front still = first.rest ReadFault ReadFailed front still

  pub needed_after : {taken : List ℕ} → IsNeeded between taken → IsNeeded before (first.taken ++ taken)
  needed_after {taken} (StillOpen still) = StillOpen (open_after taken still)
  needed_after {taken} (LastDecides front byte parts still) =
      LastDecides (first.taken ++ front) byte
      (ap (λ t. first.taken ++ t) parts ∙ sym (append_assoc first.taken front (byte ∷ [])))
      (open_after front still)

  pub takes_after : (taken : List ℕ) (c : Option (List ℕ)) → b ≡ prepend_known taken c → a ≡ prepend_known (first.taken ++ taken) c
  takes_after taken c takes = first.takes ∙ ap (prepend_known first.taken) takes ∙ sym (prepend_known-append first.taken taken c)

  -- one step, and then another
  pub leads_then : {after : AuditEnd → Input → Type 0} {c : Option (List ℕ)} → Leads between after b c → Leads before after a c
  leads_then {after} {c} second = record {
    taken = first.taken ++ second.taken;
    takes = takes_after second.taken c second.takes;
    needed = needed_after second.needed;
    rest = λ end ending more ends_so.
        subst (λ (bytes : List ℕ). before end (input_of ending bytes)) (sym (append_assoc first.taken second.taken more))
        (first.rest end ending (second.taken ++ more) (second.rest end ending more ends_so));
  }

  pub tells_after : {taken : List ℕ} {at_end failed : Type 0} (end : AuditEnd) → Tells input_of taken at_end failed (between end)
      → Tells input_of (first.taken ++ taken) at_end failed (before end)
  tells_after {taken} end (Anyway always) =
      Anyway (λ ending more.
      subst (λ (bytes : List ℕ). before end (input_of ending bytes)) (sym (append_assoc first.taken taken more))
      (first.rest end ending (taken ++ more) (always ending more)))
  tells_after {taken} end (AtEnd ended ends_so) = AtEnd ended (first.rest end Ended taken ends_so)
  tells_after {taken} end (AtFailure fails ends_so) = AtFailure fails (first.rest end ReadFailed taken ends_so)

  -- a step, and then the end
  pub stops_then : {c : Option (List ℕ)} {at_end failed : Type 0} {end : AuditEnd} → Stops between b c at_end failed end → Stops before a c at_end failed end
  stops_then {c} {at_end} {failed} {end} second = record {
    taken = first.taken ++ second.taken;
    takes = takes_after second.taken c second.takes;
    needed = needed_after second.needed;
    tells = tells_after end second.tells;
  }

tells_wider : {ends : Input → Type 0} {taken : List ℕ} {at_end failed wider : Type 0} → (failed → wider) → Tells input_of taken at_end failed ends → Tells input_of taken at_end wider ends
tells_wider widen (Anyway always) = Anyway always
tells_wider widen (AtEnd ended ends_so) = AtEnd ended ends_so
tells_wider widen (AtFailure fails ends_so) = AtFailure (widen fails) ends_so

-- a count of faults that rose in a part of the call
pub stops_wider : {ends : AuditEnd → Input → Type 0} {a b : Option (List ℕ)} {at_end failed wider : Type 0} {end : AuditEnd} → (failed → wider)
    → Stops ends a b at_end failed end → Stops ends a b at_end wider end
stops_wider widen stop = record { taken = stop.taken; takes = stop.takes; needed = stop.needed; tells = tells_wider widen stop.tells }
