-- What is said of what comes out of an event: this project's profile.
use Rattle.std.specs.Prelude.{ℕ, Bool, true, false, ◌&&◌, ◌==◌, Option, Some}
use Rattle.qn_group.specs.declared.phase.Outcome.{Outcome}
use Rattle.qn_group.specs.declared.phase.Outcome.TheVariants as outcome
use Rattle.qn_group.specs.declared.phase.Verb.{Verb}
use Rattle.qn_group.specs.declared.phase.Verb.TheVariants as verb
use Rattle.qn_group.specs.declared.group.Act.{Act}
use Rattle.qn_group.specs.declared.group.Act.TheVariants as act
use Rattle.qn_group.specs.declared.group.Answer.{Answer}
use Rattle.qn_group.specs.declared.group.Answer.TheVariants as answer
use Rattle.qn_group.specs.declared.group.Event.{Event}
use Rattle.qn_group.specs.declared.group.Event.TheVariants as event
use Rattle.qn_group.specs.declared.group.Given.{Given}
use Rattle.qn_group.specs.declared.group.Lowered.{Lowered}
use Rattle.qn_group.specs.declared.group.Lowered.TheVariants as lowered

-- a resource is started
abbrev pub is_start : Option Act → Bool
is_start (Some (act.Run at verb.Start)) = true
is_start other = false

-- a stop is answered as done
abbrev pub is_stopped_by : Option Answer → Bool
is_stopped_by (Some answer.Stopped) = true
is_stopped_by other = false

abbrev pub is_stopped : Given → Bool
is_stopped given = is_stopped_by given.answer

-- the node starts the group; the node asks for a stop
abbrev pub is_started_by : Event → Bool
is_started_by event.Start = true
is_started_by other = false

abbrev pub is_stop_event : Event → Bool
is_stop_event event.Stop = true
is_stop_event other = false

-- the way down starts something
abbrev pub starts_in : Lowered → Bool
starts_in lowered.Done = false
starts_in lowered.Waits = false
starts_in (lowered.Acts done) = is_start (Some done)

-- an action on the resource at that place is begun; one of that verb
abbrev pub runs_at : ℕ → Option Act → Bool
runs_at at (Some (act.Run place done)) = place == at
runs_at at other = false

abbrev pub is_verb : Verb → Verb → Bool
is_verb verb.Start verb.Start = true
is_verb verb.Stop verb.Stop = true
is_verb verb.Monitor verb.Monitor = true
is_verb some other = false

abbrev pub begins : Verb → ℕ → Option Act → Bool
begins wanted at (Some (act.Run place done)) = (place == at) && is_verb wanted done
begins wanted at other = false

-- an action of that verb on the resource at that place ended; a monitor of it said "not running"
abbrev pub ends : Verb → ℕ → Event → Bool
ends wanted at (event.Ended place done how) = (place == at) && is_verb wanted done
ends wanted at other = false

abbrev pub is_word : Verb → Outcome → Bool
is_word verb.Monitor outcome.NotRunning = true
is_word some_verb some_outcome = false

abbrev pub says_down : ℕ → Event → Bool
says_down at (event.Ended place done how) = (place == at) && is_word done how
says_down at other = false
