-- The text of a status file (docs/STATUS.md). This project's profile.
use Rattle.std.specs.Prelude.{ℕ, List, ◌++◌, codes}
use Rattle.qn_shown.specs.declared.shown.Shown.{Shown}
use Rattle.qn_shown.specs.Spelling.{shown_text}

-- what the node shows, and the end of the line
abbrev pub status_text : Shown → List ℕ
status_text shown = shown_text shown ++ codes "\n"
