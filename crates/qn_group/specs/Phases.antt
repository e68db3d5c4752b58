-- What is known of a resource, and which phases say that nothing of it runs: this project's profile.
use Rattle.std.specs.Prelude.{Bool, true, false}
use Rattle.qn_group.specs.declared.phase.Outcome.{Outcome}
use Rattle.qn_group.specs.declared.phase.Outcome.TheVariants as outcome
use Rattle.qn_group.specs.declared.phase.Verb.{Verb}
use Rattle.qn_group.specs.declared.phase.Verb.TheVariants as verb
use Rattle.qn_group.specs.declared.phase.Phase.{Phase}
use Rattle.qn_group.specs.declared.phase.Phase.TheVariants as phase

-- nothing of it runs, by a monitor's word
abbrev pub is_down : Phase → Bool
is_down phase.Down = true
is_down other = false

-- it runs, or is only looked at
abbrev pub is_up : Phase → Bool
is_up (phase.Up since unsure) = true
is_up (phase.Looking unsure killed) = true
is_up other = false

-- What is under way on a resource: nothing, and it may run; nothing, and a monitor said that it does not run, and nothing was begun since; a start; a stop;
-- a monitor of one that may run; or a monitor whose "not running" says that it is down
pub data Stage : Type 0 where
  Idle : Stage
  Down : Stage
  Starting : Stage
  Stopping : Stage
  Watched : Stage
  Asked : Stage

abbrev pub one_of : Bool → Stage → Stage → Stage
one_of true first second = first
one_of false first second = second

abbrev pub stage_of : Phase → Stage
stage_of phase.New = Idle
stage_of phase.Probing = Asked
stage_of phase.Down = Down
stage_of (phase.Starting killed) = Starting
stage_of (phase.Checking since stopped asked killed) = one_of asked Watched Idle
stage_of (phase.Up since unsure) = Idle
stage_of (phase.Looking unsure killed) = Watched
stage_of phase.Failed = Idle
stage_of phase.Stopping = Stopping
stage_of (phase.Verifying since asked) = one_of asked Asked Idle
stage_of phase.Stuck = Idle

-- the end of a monitor whose word counts
abbrev pub stage_by_word : Outcome → Stage
stage_by_word outcome.NotRunning = Down
stage_by_word some_outcome = Idle

-- the end of an action that is under way; the end of any other changes nothing
abbrev pub stage_after_end : Verb → Outcome → Stage → Stage
stage_after_end verb.Start how Starting = Idle
stage_after_end verb.Stop how Stopping = Idle
stage_after_end verb.Monitor how Watched = Idle
stage_after_end verb.Monitor how Asked = stage_by_word how
stage_after_end some_verb how before = before
