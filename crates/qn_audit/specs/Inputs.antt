-- The audit of an input: a settings text, a line `----`, and a log. This project's profile.
use Rattle.std.specs.Prelude.{◌≡◌, ◌≤◌, ℕ, Bool, List, [], ◌++◌, ◌==◌, length, position, Option, None, Some, Ok, Err}
use Rattle.std.specs.Io.KnownBytes.{IsAtEnd, prepend_known}
use Rattle.qn_base.specs.declared.ids.NodeId.{NodeId}
use Rattle.qn_base.specs.Plans.{Plan}
use Rattle.qn_playback.specs.declared.head_fault.HeadFault.{HeadFault}
use Rattle.qn_playback.specs.declared.head_fault.HeadFault.TheVariants as head
use Rattle.qn_playback.specs.declared.settings_head.SettingsHead.{SettingsHead}
use Rattle.qn_playback.specs.Faults.{end_of}
use Rattle.qn_playback.specs.Heads.{settings_part}
use Rattle.qn_playback.specs.Parts.{Given}
use Rattle.qn_playback.specs.Parts as part
use Rattle.qn_io.specs.declared.buffered.TheConstants.{PIECE}
use Rattle.qn_io.specs.Outside.{HasRisen}
use Rattle.qn_live.specs.Running.{Ran}
use Rattle.qn_live.specs.declared.node_images.NodeImages.{NodeImages}
use Rattle.qn_live.specs.Images.{plan_on}
use Rattle.qn_model.specs.declared.configuration.Settings.{Settings}
use Rattle.qn_model.specs.Inputs.{Tells}
use Rattle.qn_model.specs.Lines.{Ending}
use Rattle.qn_audit.specs.declared.audit_end.AuditEnd.{AuditEnd}
use Rattle.qn_audit.specs.declared.audit_end.AuditEnd.TheVariants as ended
use Rattle.qn_audit.specs.Auditing.{LinesEnd, at_first}
use Rattle.qn_audit.specs.Deciding.{Input, IsNeeded, input_of}

-- the run that a log is audited as: the images of its node, its id, whether its boot was a clean start, the turn from which on it was to
-- leave, the limit within which it took a reply of its arbiter, where it polled one, and how many turns it was to run
pub record AuditedRun : Type 0 where
  pub images : NodeImages
  pub id : NodeId
  pub clean : Bool
  pub leave : Option ℕ
  pub polls : Option ℕ
  pub turns : ℕ

-- the rank of its node, where the settings have one
abbrev pub rank_in : AuditedRun → Settings → Option ℕ
rank_in run settings = position (λ node. node.id.0 == run.id.0) settings.nodes

-- its plan, of the node of that rank
abbrev pub plan_of : AuditedRun → Settings → ℕ → Plan Ran
plan_of run settings rank = plan_on run.images settings rank run.clean run.leave run.polls run.turns

-- the end of that name
abbrev pub end_in_head : HeadFault → AuditEnd
end_in_head (head.BadConf fault) = ended.BadConf fault
end_in_head (head.BadSettings fault) = ended.BadSettings fault
end_in_head (head.BadSchedule line fault) = ended.BadSchedule line fault
end_in_head head.ReadFault = ended.ReadFault
end_in_head head.NoMemory = ended.NoMemory

-- the lines after a head end the audit so, of the node of that rank, where the settings have one
abbrev pub NodeEnds : AuditEnd → AuditedRun → SettingsHead → Option ℕ → Ending → List (List ℕ) → Type 0
NodeEnds end run head None ending lines = end ≡ ended.UnknownNode
NodeEnds end run head (Some rank) ending lines = LinesEnd end (at_first (plan_of run head.settings rank) head.lines) ending lines

-- what the settings text and the line `----` gave, and the lines after them, end the audit so
abbrev pub HeadEnds : AuditEnd → AuditedRun → Ending → Given SettingsHead → Type 0
HeadEnds end run ending (Ok given) = NodeEnds end run given.0 (rank_in run given.0.settings) ending given.1
HeadEnds end run ending (Err early) = (fault : HeadFault) × (early ≡ end_of fault) × (end ≡ end_in_head fault)

-- the whole input ends the audit so
abbrev pub AuditEnds : AuditedRun → AuditEnd → Input → Type 0
AuditEnds run end input = HeadEnds end run input.ending (settings_part input.ending input.bytes)

-- an input at a moment: the bytes that are to come, where they are told, and the count of its faults
pub record InputAt : Type 0 where
  pub left : Option (List ℕ)
  pub faults : ℕ

abbrev pub input_at : {I : Type 0} → (I → Option (List ℕ)) → (I → ℕ) → I → InputAt
input_at left faults input = record { left = left input; faults = faults input }

-- the end is the one that the taken bytes tell of; or it ran out of memory, which is wanted for the settings text and the line
-- `----` alone
pub data EndsBy (run : AuditedRun) (taken : List ℕ) (at_end failed : Type 0) (end : AuditEnd) : Type 0 where
  Told : Tells input_of taken at_end failed (AuditEnds run end) → EndsBy run taken at_end failed end
  Wanted : end ≡ ended.NoMemory → part.IsNeeded settings_part taken → EndsBy run taken at_end failed end

-- Bytes were taken, none more than the end needs. What was read after them is of one piece, waits, and was not looked at.
pub record JudgesInput (run : AuditedRun) (old new : InputAt) (end : AuditEnd) : Type 0 where
  pub taken : List ℕ
  pub waiting : List ℕ
  pub takes : old.left ≡ prepend_known (taken ++ waiting) new.left
  pub needed : IsNeeded (AuditEnds run) taken
  pub within : length waiting ≤ PIECE
  pub ends : EndsBy run taken ((waiting ≡ []) × IsAtEnd new.left) ((waiting ≡ []) × HasRisen old.faults new.faults) end
