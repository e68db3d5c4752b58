-- `migrate`: an image of version 1 becomes one of version 2; this project's profile.
use Rattle.std.specs.Prelude.{ℕ, List, [], ◌∷◌, Result, Ok, Err}
use Rattle.qn_image.specs.declared.fault.ImageFault.{ImageFault}
use Rattle.qn_image.specs.Migration.{migrate_plan}
use Rattle.qn_commands.specs.declared.status.Status.TheVariants.{Done, WriteFault, EnvFault, BadImage}
use Rattle.qn_commands.specs.Faults.{disk_fault}
use Rattle.qn_commands.specs.Images.{opened_plan}
use Rattle.qn_commands.specs.ImageTexts.{migrated_text}
use Rattle.qn_commands.specs.Seen.{CallFails, Seen, WriteFails}
use Rattle.qn_commands.specs.Statuses.{HasCauses, IsOneOf}
use Rattle.qn_commands.specs.Works.{Last, Work, Works, after_plan, refusal}

abbrev pub migrate_end : Result ℕ ImageFault → Work
migrate_end (Ok nodes) = Last (migrated_text nodes) 0
migrate_end (Err fault) = refusal (disk_fault fault)

unfoldable pub migrate_work : List ℕ → Work
migrate_work path = after_plan (opened_plan path migrate_plan) migrate_end

-- Exactly the calls, the text and the status of this work. Where nothing failed the command did its whole work, or it ended
-- at a sector that is no spelling. No memory is taken.
pub record Migrates (image : List ℕ) (before after : Seen) (status : ℕ) : Type 0 where
  pub works : Works (migrate_work image) before after status
  pub complete : ¬ WriteFails before.output after.output → ¬ CallFails before.env after.env
      → IsOneOf (Done ∷ BadImage ∷ []) status
  pub statuses : IsOneOf (Done ∷ BadImage ∷ WriteFault ∷ EnvFault ∷ []) status
  pub causes : HasCauses before after status
