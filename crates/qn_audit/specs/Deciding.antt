-- How the bytes that were taken of an input decide how its audit ends: this project's profile.
use Rattle.std.specs.Prelude.{◌≡◌, ℕ, List, [], ◌∷◌, ◌++◌, Option}
use Rattle.std.specs.Io.KnownBytes.{prepend_known}
use Rattle.qn_model.specs.Inputs.{Tells}
use Rattle.qn_model.specs.Lines.{Ending, ReadFailed}
use Rattle.qn_audit.specs.declared.audit_end.AuditEnd.{AuditEnd}
use Rattle.qn_audit.specs.declared.audit_end.AuditEnd.TheVariants.{ReadFault}

-- an input as it was read: the way in which it ended, and its bytes
pub record Input : Type 0 where
  pub ending : Ending
  pub bytes : List ℕ

abbrev pub input_of : Ending → List ℕ → Input
input_of ending bytes = record { ending = ending; bytes = bytes }

-- the bytes leave the end open: a failing read would end it
abbrev pub IsOpen : (AuditEnd → Input → Type 0) → List ℕ → Type 0
IsOpen ends taken = ends ReadFault (input_of ReadFailed taken)

-- no byte was taken that the end does not need: without the last one it is open
pub data IsNeeded (ends : AuditEnd → Input → Type 0) (taken : List ℕ) : Type 0 where
  StillOpen : IsOpen ends taken → IsNeeded ends taken
  LastDecides : (front : List ℕ) (byte : ℕ) → taken ≡ front ++ byte ∷ [] → IsOpen ends front → IsNeeded ends taken

-- bytes were taken, and what follows them ends the whole input as it ends what comes after them
pub record Leads (before after : AuditEnd → Input → Type 0) (to_come_old to_come_new : Option (List ℕ)) : Type 0 where
  pub taken : List ℕ
  pub takes : to_come_old ≡ prepend_known taken to_come_new
  pub needed : IsNeeded before taken
  pub rest : (end : AuditEnd) (ending : Ending) (more : List ℕ) → after end (input_of ending more) → before end (input_of ending (taken ++ more))

-- bytes were taken, none more than the end needs, and the end is the one that they tell of
pub record Stops (ends : AuditEnd → Input → Type 0) (to_come_old to_come_new : Option (List ℕ)) (at_end failed : Type 0) (end : AuditEnd) : Type 0 where
  pub taken : List ℕ
  pub takes : to_come_old ≡ prepend_known taken to_come_new
  pub needed : IsNeeded ends taken
  pub tells : Tells input_of taken at_end failed (ends end)
