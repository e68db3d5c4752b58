-- Whether a node holds the resource, and whether a Stop of it is due: this project's profile.
use Rattle.std.specs.Prelude.{ℕ, Bool, true, false, List, [], ◌∷◌, ◌||◌, ◌&&◌, ◌+◌, not, nat_le, if◌then◌else◌}
use Rattle.qn_model.specs.declared.entries.What.{What}
use Rattle.qn_model.specs.declared.entries.What.TheVariants as what
use Rattle.qn_model.specs.Log.{Line, has_start, has_stop}

-- an entry is a stop that succeeded
abbrev pub is_stopped : What → Bool
is_stopped (what.Stopped ok) = ok
is_stopped entry = false

-- an entry answers a Stop
abbrev pub answers_stop : What → Bool
answers_stop (what.Stopped ok) = true
answers_stop entry = false

-- whether the node holds: it starts, or it held before and this is no stop that succeeded
unfoldable pub holds : List Line → Bool
holds [] = false
holds (line ∷ past) = has_start line.outs || (holds past && not (is_stopped line.what))

-- whether a Stop is unanswered
unfoldable pub stop_due : List Line → Bool
stop_due [] = false
stop_due (line ∷ past) = has_stop line.outs || (stop_due past && not (answers_stop line.what))

-- whether a Stop may be given at a tick: none came since the Start, or the last one was answered
-- unsuccessful at least `wait` ticks ago
unfoldable pub may_stop : ℕ → ℕ → List Line → Bool
may_stop wait tick [] = true
may_stop wait tick (line ∷ past) =
    if has_start line.outs then true
    else (if has_stop line.outs then false
    else (if answers_stop line.what then nat_le (line.tick + wait) tick else may_stop wait tick past))
