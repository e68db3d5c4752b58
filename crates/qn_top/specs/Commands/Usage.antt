-- Words that are no command; this project's profile.
use Rattle.std.specs.Prelude.{ℕ, [], ◌∷◌}
use Rattle.qn_commands.specs.declared.fault.Fault.TheVariants as fault
use Rattle.qn_commands.specs.declared.status.Status.TheVariants.{Usage, WriteFault}
use Rattle.qn_commands.specs.Endings.{Refuses}
use Rattle.qn_commands.specs.Seen.{Seen}
use Rattle.qn_commands.specs.Statuses.{HasCauses, IsOneOf}

-- the line of the fault was written, or a prefix of it where the sink failed; no memory is taken
pub record RefusesWords (before after : Seen) (status : ℕ) : Type 0 where
  pub refuses : Refuses fault.Usage before.output after.output status
  pub statuses : IsOneOf (Usage ∷ WriteFault ∷ []) status
  pub causes : HasCauses before after status
