-- `list`: a line for each node of an image, sbd(8); this project's profile for its words. A line is written before the next
-- rank is read.
use Rattle.std.specs.Prelude.{◌≡◌, ℕ, zero, suc, ◌+◌, List, [], ◌∷◌, Result, Ok, Err}
use Rattle.std.specs.Io.KnownBytes.{append_known}
use Rattle.qn_base.specs.declared.ids.NodeId.{NodeId}
use Rattle.qn_image.specs.declared.fault.ImageFault.{ImageFault}
use Rattle.qn_image.specs.Plans.{header_plan, line_plan}
use Rattle.qn_model.specs.declared.disk.Slot.{Slot}
use Rattle.qn_model.specs.declared.mailbox.Mail.{Mail}
use Rattle.qn_model.specs.declared.times.Timing.{Timing}
use Rattle.qn_commands.specs.declared.status.Status.TheVariants.{Done, WriteFault, EnvFault, BadImage}
use Rattle.qn_commands.specs.Faults.{disk_fault}
use Rattle.qn_commands.specs.Images.{opened_plan}
use Rattle.qn_commands.specs.ImageTexts.{list_line}
use Rattle.qn_commands.specs.Seen.{CallFails, Seen, WriteFails}
use Rattle.qn_commands.specs.Statuses.{HasCauses, IsOneOf}
use Rattle.qn_commands.specs.Works.{Carries, Last, Work, Works, Writes, after_plan, refusal}

-- the line of a rank, and then the others
abbrev pub after_line : Work → Result (NodeId × Slot × Mail) ImageFault → Work
after_line others (Ok line) = Writes (list_line line) others
after_line others (Err fault) = refusal (disk_fault fault)

-- so many ranks of an image of that version, from this one on
unfoldable pub ranks_work : ℕ → ℕ → ℕ → Work
ranks_work version rank zero = Last [] 0
ranks_work version rank (suc left) =
    after_plan (line_plan version rank) (after_line (ranks_work version (rank + 1) left))

abbrev pub list_end : Result (ℕ × ℕ × Timing) ImageFault → Work
list_end (Ok header) = ranks_work header.0 0 header.1
list_end (Err fault) = refusal (disk_fault fault)

unfoldable pub list_work : List ℕ → Work
list_work path = after_plan (opened_plan path header_plan) list_end

-- Exactly the calls, the texts and the status of this work. Where nothing failed the command did its whole work, or it ended
-- at a sector that is no spelling. No memory is taken.
pub record Lists (image : List ℕ) (before after : Seen) (status : ℕ) : Type 0 where
  pub works : Works (list_work image) before after status
  pub complete : ¬ WriteFails before.output after.output → ¬ CallFails before.env after.env
      → IsOneOf (Done ∷ BadImage ∷ []) status
  pub statuses : IsOneOf (Done ∷ BadImage ∷ WriteFault ∷ EnvFault ∷ []) status
  pub causes : HasCauses before after status

-- the line of a rank was read and written
pub record ListsRank (version rank : ℕ) (before after : Seen) : Type 0 where
  pub line : NodeId × Slot × Mail
  pub carries : Carries (line_plan version rank) before.env after.env (Ok line)
  pub wrote : after.output.written ≡ append_known before.output.written (list_line line)

-- the work ended at the line of a rank, whatever was to follow
pub record StopsAtRank (version rank : ℕ) (before after : Seen) (status : ℕ) : Type 0 where
  pub stops : (others : Work)
      → Works (after_plan (line_plan version rank) (after_line others)) before after status
