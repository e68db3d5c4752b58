-- `dump`: the header of an image, sbd(8); this project's profile for its words.
use Rattle.std.specs.Prelude.{ℕ, List, [], ◌∷◌, Result, Ok, Err}
use Rattle.qn_image.specs.declared.fault.ImageFault.{ImageFault}
use Rattle.qn_image.specs.Plans.{header_plan}
use Rattle.qn_model.specs.declared.times.Timing.{Timing}
use Rattle.qn_commands.specs.declared.status.Status.TheVariants.{Done, WriteFault, EnvFault, BadImage}
use Rattle.qn_commands.specs.Faults.{disk_fault}
use Rattle.qn_commands.specs.Images.{opened_plan}
use Rattle.qn_commands.specs.ImageTexts.{dump_text}
use Rattle.qn_commands.specs.Seen.{CallFails, Seen, WriteFails}
use Rattle.qn_commands.specs.Statuses.{HasCauses, IsOneOf}
use Rattle.qn_commands.specs.Works.{Last, Work, Works, after_plan, refusal}

abbrev pub dump_end : Result (ℕ × ℕ × Timing) ImageFault → Work
dump_end (Ok header) = Last (dump_text header.0 header.1 header.2) 0
dump_end (Err fault) = refusal (disk_fault fault)

unfoldable pub dump_work : List ℕ → Work
dump_work path = after_plan (opened_plan path header_plan) dump_end

-- Exactly the calls, the text and the status of this work. Where nothing failed the command did its whole work, or it ended
-- at a sector that is no spelling. No memory is taken.
pub record Dumps (image : List ℕ) (before after : Seen) (status : ℕ) : Type 0 where
  pub works : Works (dump_work image) before after status
  pub complete : ¬ WriteFails before.output after.output → ¬ CallFails before.env after.env
      → IsOneOf (Done ∷ BadImage ∷ []) status
  pub statuses : IsOneOf (Done ∷ BadImage ∷ WriteFault ∷ EnvFault ∷ []) status
  pub causes : HasCauses before after status
