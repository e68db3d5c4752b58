-- What an action and an event are to the resources of a group: this project's profile.
use Rattle.std.specs.Prelude.{◌≡◌, ◌≢◌, ℕ, ◌<◌, Bool, true, false, List, length, slice_index_or, slice_set, Option, None, Some, if◌then◌else◌, ◌==◌, ◌⊎◌}
use Rattle.qn_group.specs.declared.phase.Verb.{Verb}
use Rattle.qn_group.specs.declared.phase.Verb.TheVariants as verb
use Rattle.qn_group.specs.declared.phase.Phase.{Phase}
use Rattle.qn_group.specs.declared.phase.Phase.TheVariants as phase
use Rattle.qn_group.specs.declared.group.Act.{Act}
use Rattle.qn_group.specs.declared.group.Act.TheVariants as act
use Rattle.qn_group.specs.declared.group.Event.{Event}
use Rattle.qn_group.specs.declared.group.Event.TheVariants as event
use Rattle.qn_group.specs.declared.group.Lowered.{Lowered}
use Rattle.qn_group.specs.declared.group.Lowered.TheVariants as lowered
use Rattle.qn_group.specs.Phases.{Stage, Idle, Down, Starting, Stopping, Watched, Asked, stage_after_end}

-- the phase at that place; where no resource can be it is down
abbrev pub phase_of : List Phase → ℕ → Phase
phase_of phases at = slice_index_or phases at phase.Down

-- the phases in which that is begun
abbrev pub may_begin : Verb → Phase → Bool
may_begin verb.Start phase.Down = true
may_begin verb.Stop (phase.Up since unsure) = true
may_begin verb.Stop (phase.Checking since stopped false killed) = true
may_begin verb.Stop phase.Failed = true
may_begin verb.Monitor phase.New = true
may_begin verb.Monitor (phase.Checking since stopped false killed) = true
may_begin verb.Monitor (phase.Up since unsure) = true
may_begin verb.Monitor (phase.Verifying since false) = true
may_begin some_verb some_phase = false

-- a monitor of it is begun
abbrev pub after_look : Phase → Phase
after_look phase.New = phase.Probing
after_look (phase.Checking since stopped asked killed) = phase.Checking since stopped true killed
after_look (phase.Verifying since asked) = phase.Verifying since true
after_look (phase.Up since unsure) = phase.Looking unsure false
after_look other = other

abbrev pub after_run : Verb → Phase → Phase
after_run verb.Start before = phase.Starting false
after_run verb.Stop before = phase.Stopping
after_run verb.Monitor before = after_look before

-- the action that is under way is ended by force: its end is still to come
abbrev pub after_kill : Phase → Phase
after_kill (phase.Starting killed) = phase.Starting true
after_kill (phase.Looking unsure killed) = phase.Looking unsure true
after_kill (phase.Checking since stopped asked killed) = phase.Checking since stopped asked true
after_kill other = other

-- what is done changes the phase of its place, and no other; each is begun in its phases alone
abbrev pub Acted : Option Act → List Phase → List Phase → Type 0
Acted None old new = new ≡ old
Acted (Some (act.Run at done)) old new =
    (at < length old) × (may_begin done (phase_of old at) ≡ true) × (new ≡ slice_set old at (after_run done (phase_of old at)))
Acted (Some (act.Kill at)) old new = (at < length old) × (new ≡ slice_set old at (after_kill (phase_of old at)))
Acted (Some act.Leave) old new = new ≡ old

-- a monitor of the resource at that place is begun, or nothing is done
abbrev pub monitor_of : Option ℕ → Option Act
monitor_of None = None
monitor_of (Some at) = Some (act.Run at verb.Monitor)

abbrev pub ActedBy : Lowered → List Phase → List Phase → Type 0
ActedBy lowered.Done old new = new ≡ old
ActedBy lowered.Waits old new = new ≡ old
ActedBy (lowered.Acts done) old new = Acted (Some done) old new

-- the stage of the resource at a place after an event
abbrev pub stage_after : Event → ℕ → Stage → Stage
stage_after (event.Ended place done how) at before = if place == at then stage_after_end done how before else before
stage_after other at before = before

-- what is begun: a start of one that is down, a stop or a monitor of one on which nothing is under way
abbrev pub Began : Verb → Stage → Stage → Type 0
Began verb.Start before after = (before ≡ Down) × (after ≡ Starting)
Began verb.Stop before after = (before ≡ Idle) × (after ≡ Stopping)
Began verb.Monitor before after = (before ≡ Idle) × ((after ≡ Watched) ⊎ (after ≡ Asked))

-- the stage of the resource at a place after what is done
abbrev pub Moved : Option Act → ℕ → Stage → Stage → Type 0
Moved (Some (act.Run place done)) at before after = (place ≡ at → Began done before after) × (place ≢ at → after ≡ before)
Moved other at before after = after ≡ before
