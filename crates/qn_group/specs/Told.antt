-- What is told of a group, and when it is as it should be: this project's profile.
use Rattle.std.specs.Prelude.{◌≡◌, ℕ, Bool, true, false, not, List, Option, None, Some, if◌then◌else◌}
use Rattle.std.specs.List.{list_all}
use Rattle.qn_group.specs.declared.phase.Phase.{Phase}
use Rattle.qn_group.specs.declared.phase.Phase.TheVariants as phase
use Rattle.qn_group.specs.declared.phase.Word.{Word}
use Rattle.qn_group.specs.declared.phase.Word.TheVariants as word
use Rattle.qn_group.specs.Phases.{is_down, is_up}
use Rattle.qn_group.specs.Places.{phase_of}

-- of one that runs: whether its monitor knows
abbrev pub word_of_up : {T : Type 0} → Option T → Word
word_of_up None = word.Runs
word_of_up (Some since) = word.Unsure

-- what is told for a resource in that phase
abbrev pub word_of : Phase → Word
word_of phase.New = word.Looking
word_of phase.Probing = word.Looking
word_of phase.Down = word.Down
word_of (phase.Starting killed) = word.Starting
word_of (phase.Checking since stopped asked killed) = word.Starting
word_of (phase.Up since unsure) = word_of_up unsure
word_of (phase.Looking unsure killed) = word_of_up unsure
word_of phase.Failed = word.Failed
word_of phase.Stopping = word.Stopping
word_of (phase.Verifying since asked) = word.Stopping
word_of phase.Stuck = word.Stuck

-- a group is as it should be where it runs, or where it is down and the node does not hold
abbrev pub is_as_wanted : Bool → List Phase → Bool
is_as_wanted held phases = if list_all is_down phases then not held else list_all is_up phases

-- what is told of a group is told for a resource in a phase of that word; of one that is down and is to run: that it starts
abbrev pub is_told_by : Word → Word → Bool
is_told_by word.Starting word.Down = true
is_told_by word.Stuck word.Stuck = true
is_told_by word.Stopping word.Stopping = true
is_told_by word.Failed word.Failed = true
is_told_by word.Starting word.Starting = true
is_told_by word.Looking word.Looking = true
is_told_by word.Unsure word.Unsure = true
is_told_by some other = false

-- that word is told of the resource at that place
abbrev pub IsToldOf : Word → List Phase → ℕ → Type 0
IsToldOf said phases at = is_told_by said (word_of (phase_of phases at)) ≡ true
