-- The first words of the lines that a supervisor writes: this project's profile.
use Rattle.std.specs.Prelude.{ℕ, List, [], ◌∷◌, Option, codes, find}
use Rattle.std.specs.Str.{bytes_eq}
use Rattle.qn_supervisor.specs.declared.name.LineName.{LineName}
use Rattle.qn_supervisor.specs.declared.name.LineName.TheVariants as name

abbrev pub name_word : LineName → List ℕ
name_word name.Resource = codes "resource"
name_word name.Loop = codes "loop"
name_word name.Begin = codes "begin"
name_word name.Failed = codes "failed"
name_word name.Tick = codes "tick"
name_word name.Start = codes "start"
name_word name.Stop = codes "stop"
name_word name.Move = codes "move"
name_word name.Maintenance = codes "maintenance"
name_word name.Ended = codes "ended"

abbrev pub line_names : List LineName
line_names =
    name.Resource ∷ name.Loop ∷ name.Begin ∷ name.Failed ∷ name.Tick ∷ name.Start ∷ name.Stop ∷ name.Move ∷ name.Maintenance ∷ name.Ended ∷ []

-- what a first word says
unfoldable pub line_name : List ℕ → Option LineName
line_name word = find (λ one. bytes_eq (name_word one) word) line_names
