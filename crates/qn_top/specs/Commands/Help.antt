-- `help`: the commands; this project's profile.
use Rattle.std.specs.Prelude.{◌≡◌, ℕ, List, [], ◌∷◌, codes}
use Rattle.qn_commands.specs.declared.status.Status.TheVariants.{Done, WriteFault}
use Rattle.qn_commands.specs.Endings.{Says}
use Rattle.qn_commands.specs.Seen.{Seen, WriteFails}
use Rattle.qn_commands.specs.Statuses.{HasCauses, IsOneOf}

abbrev pub help_text : List ℕ
help_text = codes "commands count replay status soak create dump list message node migrate replay3 node3 replay-arbiter node-logged audit node3-logged arbiter help\n"

-- the commands were written, or a prefix of them where the sink failed; no memory is taken
pub record Helps (before after : Seen) (status : ℕ) : Type 0 where
  pub says : Says help_text 0 before.output after.output status
  pub complete : ¬ WriteFails before.output after.output → status ≡ 0
  pub statuses : IsOneOf (Done ∷ WriteFault ∷ []) status
  pub causes : HasCauses before after status
