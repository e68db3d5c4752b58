-- What other nodes said of the resource since the last View: this project's profile.
use Rattle.std.specs.Prelude.{ℕ, Bool, true, false, List, [], ◌∷◌, Option, None, Some, ◌||◌, ◌&&◌, ◌==◌, not}
use Rattle.std.specs.Option.{option_map_or}
use Rattle.qn_model.specs.declared.packets.Tell.{Tell}
use Rattle.qn_model.specs.declared.entries.What.{What}
use Rattle.qn_model.specs.declared.entries.What.TheVariants as what
use Rattle.qn_model.specs.Log.{Line, is_view}
use Rattle.qn_model.specs.NodeVotes.{answers}

-- the Tell of an entry
abbrev pub tell_of : What → Option Tell
tell_of (what.Tell tell) = Some tell
tell_of entry = None

-- whether an entry is a Tell from that rank that answers the entries before it and passes a test
abbrev pub tells : (Tell → Bool) → ℕ → List Line → What → Bool
tells test rank past entry =
    option_map_or (λ tell. tell.from.0 == rank && answers past tell && test tell) (tell_of entry) false

-- whether a Tell since the last View did so
unfoldable pub told : (Tell → Bool) → ℕ → List Line → Bool
told test rank [] = false
told test rank (line ∷ past) = tells test rank past line.what || (not (is_view line.what) && told test rank past)

-- a Tell from that rank says not holding
abbrev pub is_free : List Line → ℕ → Bool
is_free log rank = told (λ tell. not tell.holds) rank log

-- Tells came from that rank, and none says not holding
abbrev pub is_held : List Line → ℕ → Bool
is_held log rank = told (λ tell. true) rank log && not (is_free log rank)
