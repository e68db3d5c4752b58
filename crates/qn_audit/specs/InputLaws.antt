-- Laws of inputs that were judged: what the end says of how the input ended. This project's profile.
use Rattle.std.proofs.Common.{◌≡◌, ◌≢◌, ℕ, List, [], ◌++◌, Option, None, Some, IfSome, refl, sym, ap, ◌∙◌, subst, append_assoc, append-nil}
use Rattle.std.specs.Io.KnownBytes.{IsAtEnd, prepend_known}
use Rattle.qn_io.specs.Outside.{HasRisen}
use Rattle.qn_model.specs.Inputs.{Anyway, AtEnd, AtFailure}
use Rattle.qn_model.specs.Lines.{Ended, ReadFailed}
use Rattle.qn_audit.specs.declared.audit_end.AuditEnd.{AuditEnd}
use Rattle.qn_audit.specs.declared.audit_end.AuditEnd.TheVariants as ended
use Rattle.qn_audit.specs.AuditLaws.{audit_fits}
use Rattle.qn_audit.specs.Deciding.{input_of}
use Rattle.qn_audit.specs.Inputs.{AuditEnds, AuditedRun, EndsBy, InputAt, JudgesInput, Told, Wanted}

-- the log is a whole run or the beginning of one
abbrev pub IsGood : AuditEnd → Type 0
IsGood (ended.Whole turns) = Unit {0}
IsGood (ended.Prefix turns) = Unit {0}
IsGood (ended.NotARun line) = ⊥
IsGood ended.UnknownNode = ⊥
IsGood (ended.BadConf fault) = ⊥
IsGood (ended.BadSettings fault) = ⊥
IsGood (ended.BadSchedule line fault) = ⊥
IsGood ended.ReadFault = ⊥
IsGood ended.NoMemory = ⊥

-- the input was read to its end, and its bytes end the audit so
pub record ReadsAll (run : AuditedRun) (old new : InputAt) (end : AuditEnd) : Type 0 where
  pub read : List ℕ
  pub takes : old.left ≡ prepend_known read new.left
  pub at_end : IsAtEnd new.left
  pub ends : AuditEnds run end (input_of Ended read)

module _ (run : AuditedRun) where
  never_unread : (end : AuditEnd) (bytes : List ℕ) → IsGood end → AuditEnds run end (input_of ReadFailed bytes) → ⊥
  never_unread (ended.Whole turns) bytes good ends = audit_fits run (input_of ReadFailed bytes) (ended.Whole turns) ends
  never_unread (ended.Prefix turns) bytes good ends = audit_fits run (input_of ReadFailed bytes) (ended.Prefix turns) ends
  never_unread (ended.NotARun line) bytes good ends = good
  never_unread ended.UnknownNode bytes good ends = good
  never_unread (ended.BadConf fault) bytes good ends = good
  never_unread (ended.BadSettings fault) bytes good ends = good
  never_unread (ended.BadSchedule line fault) bytes good ends = good
  never_unread ended.ReadFault bytes good ends = good
  never_unread ended.NoMemory bytes good ends = good

  module _ {old new : InputAt} {end : AuditEnd} (judged : JudgesInput run old new end) where
    taken_all : judged.waiting ≡ [] → old.left ≡ prepend_known judged.taken new.left
    taken_all none = judged.takes ∙ ap (λ w. prepend_known (judged.taken ++ w) new.left) none ∙ ap (λ t. prepend_known t new.left) (append-nil judged.taken)

    -- at a whole run and at the beginning of one the input was read to its end
    pub good_read : IsGood end → ReadsAll run old new end
    good_read good = of_ends judged.ends
      where
        of_ends : EndsBy run judged.taken ((judged.waiting ≡ []) × IsAtEnd new.left) ((judged.waiting ≡ []) × HasRisen old.faults new.faults) end → ReadsAll run old new end
        of_ends (Told (Anyway always)) = absurd (never_unread end (judged.taken ++ []) good (always ReadFailed []))
        of_ends (Told (AtEnd ended ends)) = record { read = judged.taken; takes = taken_all ended.0; at_end = ended.1; ends = ends }
        of_ends (Told (AtFailure fails ends)) = absurd (never_unread end judged.taken good ends)
        of_ends (Wanted memory needed) = absurd (subst IsGood memory good)

    -- ReadFault comes only where a read failed
    pub unread : end ≡ ended.ReadFault → HasRisen old.faults new.faults
    unread is = of_ends judged.ends
      where
        read_ends : (bytes : List ℕ) → AuditEnds run end (input_of Ended bytes) → ⊥
        read_ends bytes ends = audit_fits run (input_of Ended bytes) ended.ReadFault (subst (λ (e : AuditEnd). AuditEnds run e (input_of Ended bytes)) is ends)

        of_ends : EndsBy run judged.taken ((judged.waiting ≡ []) × IsAtEnd new.left) ((judged.waiting ≡ []) × HasRisen old.faults new.faults) end → HasRisen old.faults new.faults
        of_ends (Told (Anyway always)) = absurd (read_ends (judged.taken ++ []) (always Ended []))
        of_ends (Told (AtEnd ended ends)) = absurd (read_ends judged.taken ends)
        of_ends (Told (AtFailure fails ends)) = fails.1
        of_ends (Wanted memory needed) = let never : ended.NoMemory ≡ ended.ReadFault = sym memory ∙ is in absurd cc

    module _ (read_well : ¬ HasRisen old.faults new.faults) (memory : end ≢ ended.NoMemory) where
      tells_all : (bytes rest : List ℕ) → bytes ≡ (judged.taken ++ judged.waiting) ++ rest
          → EndsBy run judged.taken ((judged.waiting ≡ []) × (rest ≡ [])) ((judged.waiting ≡ []) × HasRisen old.faults new.faults) end → AuditEnds run end (input_of Ended bytes)
      tells_all bytes rest parts (Told (Anyway always)) =
          subst (λ (b : List ℕ). AuditEnds run end (input_of Ended b)) (sym (parts ∙ append_assoc judged.taken judged.waiting rest)) (always Ended (judged.waiting ++ rest))
      tells_all bytes rest parts (Told (AtEnd ended ends)) =
          subst (λ (b : List ℕ). AuditEnds run end (input_of Ended b))
          (sym (parts ∙ ap (λ r. (judged.taken ++ judged.waiting) ++ r) ended.1 ∙ append-nil (judged.taken ++ judged.waiting) ∙ ap (λ w. judged.taken ++ w) ended.0 ∙ append-nil judged.taken)) ends
      tells_all bytes rest parts (Told (AtFailure fails ends)) = absurd (read_well fails.1)
      tells_all bytes rest parts (Wanted wants needed) = absurd (memory wants)

      -- where no read failed and memory sufficed, the end is that of all bytes that were there
      pub of_all_bytes : IfSome old.left (λ bytes. AuditEnds run end (input_of Ended bytes))
      of_all_bytes = of_left old.left new.left refl refl
        where
          of_left : (left left_new : Option (List ℕ)) → old.left ≡ left → new.left ≡ left_new → IfSome left (λ bytes. AuditEnds run end (input_of Ended bytes))
          of_left None left_new is is_new = tt
          of_left (Some bytes) None is is_new =
              let never : Some bytes ≡ None = sym is ∙ judged.takes ∙ ap (λ l. prepend_known (judged.taken ++ judged.waiting) l) is_new in absurd cc
          of_left (Some bytes) (Some rest) is is_new =
              let takes : Some bytes ≡ Some ((judged.taken ++ judged.waiting) ++ rest) = sym is ∙ judged.takes ∙ ap (λ l. prepend_known (judged.taken ++ judged.waiting) l) is_new in
              let parts : bytes ≡ (judged.taken ++ judged.waiting) ++ rest = cc in
              tells_all bytes rest parts (subst (λ (left : Option (List ℕ)). EndsBy run judged.taken ((judged.waiting ≡ []) × IsAtEnd left) ((judged.waiting ≡ []) × HasRisen old.faults new.faults) end) is_new judged.ends)
