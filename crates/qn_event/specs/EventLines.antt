-- What a line of a running node's journal begins with (this project's profile).
use Rattle.std.specs.Prelude.{ℕ, ◌/◌, ◌%◌, List, ◌++◌, codes, decimal}
use Rattle.qn_event.specs.EventTexts.{three_digits}
use Rattle.qn_event.specs.declared.level.Level.{Level}
use Rattle.qn_event.specs.declared.level.Level.TheVariants.{Error, Warning, Notice, Information}
use Rattle.qn_event.specs.declared.moment.Moment.{Moment}

-- the number of a level (syslog(3))
abbrev pub level_number : Level → ℕ
level_number Error = 3
level_number Warning = 4
level_number Notice = 5
level_number Information = 6

-- what a line begins with, up to the name of its event
unfoldable pub head_of : Moment → Level → List ℕ
head_of at level =
    codes "quorumd: node=" ++ decimal at.node ++ codes " tick=" ++ decimal at.tick
    ++ codes " time=" ++ decimal (at.time / 1000) ++ codes "." ++ three_digits (at.time % 1000)
    ++ codes " level=" ++ decimal (level_number level) ++ codes " event="
