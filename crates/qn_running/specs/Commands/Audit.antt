-- `audit`: whether a log is a run of a node; this project's profile.
use Rattle.std.specs.Prelude.{◌≡◌, ◌≢◌, ℕ, List, [], ◌∷◌, ◌++◌, IfSome, codes, decimal}
use Rattle.std.specs.Io.KnownBytes.{IsAtEnd, append_known, prepend_known}
use Rattle.qn_audit.specs.declared.audit_end.AuditEnd.{AuditEnd}
use Rattle.qn_audit.specs.declared.audit_end.AuditEnd.TheVariants as end
use Rattle.qn_audit.specs.Deciding.{input_of}
use Rattle.qn_audit.specs.Inputs.{AuditEnds, AuditedRun, InputAt, JudgesInput}
use Rattle.qn_base.specs.declared.ids.NodeId.{NodeId}
use Rattle.qn_model.specs.Lines.{Ended, Outcome}
use Rattle.qn_running.specs.declared.commands.audit.AuditWords.{AuditWords}
use Rattle.qn_commands.specs.declared.fault.Fault.TheVariants as fault
use Rattle.qn_commands.specs.declared.status.Status.TheVariants.{Done, BadConf, BadSchedule, ReadFault, WriteFault, NoMemory, UnknownNode, NotARun}
use Rattle.qn_commands.specs.Endings.{Says, refused}
use Rattle.qn_commands.specs.Seen.{Input, Output, ReadFails, Seen, WriteFails}
use Rattle.qn_commands.specs.Statuses.{HasCauses, IsOneOf}

-- the run that the log is audited as
abbrev pub audited_run : AuditWords → AuditedRun
audited_run words =
    record { images = words.images; id = words.id; clean = words.clean; leave = words.leave; polls = words.polls; turns = words.turns }

-- the last line, and the status
abbrev pub audit_outcome : NodeId → AuditEnd → Outcome
audit_outcome id (end.Whole turns) =
    record { text = codes "run whole turns " ++ decimal turns ++ codes "\n"; status = 0 }
audit_outcome id (end.Prefix turns) =
    record { text = codes "run prefix turns " ++ decimal turns ++ codes "\n"; status = 0 }
audit_outcome id (end.NotARun line) = refused (fault.NotARun line)
audit_outcome id end.UnknownNode = refused (fault.UnknownNode id)
audit_outcome id (end.BadConf why) = refused (fault.BadConf why)
audit_outcome id (end.BadSettings why) = refused (fault.BadSettings why)
audit_outcome id (end.BadSchedule line why) = refused (fault.BadSchedule line why)
audit_outcome id end.ReadFault = refused fault.ReadFault
audit_outcome id end.NoMemory = refused fault.NoMemory

-- what the source shows
abbrev pub shown : Input → InputAt
shown input = record { left = input.left; faults = input.faults }

-- the input was judged, and the line of how that ended was written, or a prefix of it where the sink failed
pub record AuditsLog (words : AuditWords) (before after : Seen) (code : ℕ) : Type 0 where
  pub end : AuditEnd
  pub judges : JudgesInput (audited_run words) (shown before.input) (shown after.input) end
  pub says : Says (audit_outcome words.id end).text (audit_outcome words.id end).status
      before.output after.output code

-- the input was read to its end, and all its bytes end the audit so
pub record ReadsLog (words : AuditWords) (before after : Input) (code : ℕ) : Type 0 where
  pub read : List ℕ
  pub takes : before.left ≡ prepend_known read after.left
  pub at_end : IsAtEnd after.left
  pub end : AuditEnd
  pub ends : AuditEnds (audited_run words) end (input_of Ended read)
  pub is : code ≡ (audit_outcome words.id end).status

-- all bytes that were there end the audit so, and its whole line was written
pub record AnswersAll (words : AuditWords) (bytes : List ℕ) (before after : Output) (code : ℕ) : Type 0 where
  pub end : AuditEnd
  pub ends : AuditEnds (audited_run words) end (input_of Ended bytes)
  pub is : code ≡ (audit_outcome words.id end).status
  pub writes : after.written ≡ append_known before.written (audit_outcome words.id end).text

-- The settings are read and judged, then the id, and then each line of the log before the next one. Nothing is written before
-- the last line. At status 0 the input was read to its end; where nothing failed and memory sufficed, the answer is that of all
-- bytes that were there.
pub record Audits (words : AuditWords) (before after : Seen) (code : ℕ) : Type 0 where
  pub ran : AuditsLog words before after code
  pub read : code ≡ 0 → ReadsLog words before.input after.input code
  pub answers : code ≢ 11 → ¬ ReadFails before.input after.input
      → ¬ WriteFails before.output after.output
      → IfSome before.input.left (λ bytes. AnswersAll words bytes before.output after.output code)
  pub complete : code ≢ 11 → ¬ ReadFails before.input after.input
      → ¬ WriteFails before.output after.output
      → IsOneOf (Done ∷ BadConf ∷ BadSchedule ∷ UnknownNode ∷ NotARun ∷ []) code
  pub statuses : IsOneOf (Done ∷ BadConf ∷ BadSchedule ∷ ReadFault ∷ WriteFault ∷ NoMemory
      ∷ UnknownNode ∷ NotARun ∷ []) code
  pub causes : HasCauses before after code
