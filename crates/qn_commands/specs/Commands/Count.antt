-- `count`: the votes of views, by plain majority. This project's profile.
use Rattle.std.specs.Prelude.{◌≡◌, ℕ, [], ◌∷◌, IfSome}
use Rattle.qn_model.specs.CountText.{count_of}
use Rattle.qn_model.specs.Lines.{Ended}
use Rattle.qn_commands.specs.declared.status.Status.TheVariants.{Done, BadSchedule, ReadFault, WriteFault}
use Rattle.qn_commands.specs.Endings.{AnswersWhole}
use Rattle.qn_commands.specs.Reads.{Completes, Runs}
use Rattle.qn_commands.specs.Seen.{ReadFails, Seen, WriteFails}
use Rattle.qn_commands.specs.Statuses.{HasCauses, IsOneOf}

-- What was written is the defined text of the bytes that were taken, or a prefix of it where the sink failed: of the
-- whole input where nothing failed, and at status 0. No memory is taken.
pub record Counts (before after : Seen) (status : ℕ) : Type 0 where
  pub ran : Runs count_of before after status
  pub complete : ¬ ReadFails before.input after.input → ¬ WriteFails before.output after.output
      → IfSome before.input.left
      (λ bytes. AnswersWhole (count_of Ended bytes) before.output after.output status)
  pub done : status ≡ 0 → Completes count_of before after
  pub statuses : IsOneOf (Done ∷ BadSchedule ∷ ReadFault ∷ WriteFault ∷ []) status
  pub causes : HasCauses before after status
