-- The options of a command, two words each: this project's profile.
use Rattle.std.specs.Prelude.{ℕ, Bool, true, false, not, ◌&&◌, List, [], ◌∷◌, Option, None, Some, codes, is_some, if◌then◌else◌}
use Rattle.std.specs.List.{list_any}
use Rattle.std.specs.Str.{bytes_eq}
use Rattle.qn_top.specs.declared.options.OptionName.{OptionName}
use Rattle.qn_top.specs.declared.options.OptionName.TheVariants.{Image, Timing, Id, Kind, Form, Watchdog, Resource, Port, Turns, Leave, StartMode, Images, Polls}

-- the name of an option as a word
abbrev pub option_text : OptionName → List ℕ
option_text Image = codes "--image"
option_text Timing = codes "--timing"
option_text Id = codes "--id"
option_text Kind = codes "--kind"
option_text Form = codes "--form"
option_text Watchdog = codes "--watchdog"
option_text Resource = codes "--resource"
option_text Port = codes "--port"
option_text Turns = codes "--turns"
option_text Leave = codes "--leave"
option_text StartMode = codes "--start-mode"
option_text Images = codes "--images"
option_text Polls = codes "--polls"

-- the value of the option of this name, the first where it stands several times
abbrev pub value_of : List ℕ → List (List ℕ) → Option (List ℕ)
value_of option [] = None
value_of option (name ∷ []) = None
value_of option (name ∷ value ∷ words) = if bytes_eq name option then Some value else value_of option words

abbrev pub has_option : List ℕ → List (List ℕ) → Bool
has_option option words = is_some (value_of option words)

-- an option is one of these names, and stands once
unfoldable pub may_stand : List OptionName → List ℕ → List (List ℕ) → Bool
may_stand known option others = list_any (λ name. bytes_eq (option_text name) option) known && not (has_option option others)

-- the words are options of these names, each with a value and none of them twice
abbrev pub are_options : List OptionName → List (List ℕ) → Bool
are_options known [] = true
are_options known (option ∷ []) = false
are_options known (option ∷ value ∷ words) = if may_stand known option words then are_options known words else false
