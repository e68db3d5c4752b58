-- The first words of the lines of a schedule: this project's profile.
use Rattle.std.specs.Prelude.{ℕ, List, [], ◌∷◌, Option, codes, find}
use Rattle.std.specs.Str.{bytes_eq}
use Rattle.qn_base.specs.declared.ids.Rank.{Rank}
use Rattle.qn_model.specs.declared.events.Event.{Event}
use Rattle.qn_model.specs.declared.events.Event.TheVariants as event
use Rattle.qn_sched.specs.declared.event_name.EventName.{EventName}
use Rattle.qn_sched.specs.declared.event_name.EventName.TheVariants.{Pass, Boot, BootClean, Late, View, Deliver, Device, Operator, OfNode}
use Rattle.qn_sched.specs.declared.event_name.NodeEvent.{NodeEvent}
use Rattle.qn_sched.specs.declared.event_name.NodeEvent.TheVariants.{Crash, Land, Done, Fail, Tick, Stopped, Unstopped, Leave, Feed}

-- the first word of an event of which the line says the node alone
abbrev pub node_event_word : NodeEvent → List ℕ
node_event_word Crash = codes "crash"
node_event_word Land = codes "land"
node_event_word Done = codes "done"
node_event_word Fail = codes "fail"
node_event_word Tick = codes "tick"
node_event_word Stopped = codes "stopped"
node_event_word Unstopped = codes "unstopped"
node_event_word Leave = codes "leave"
node_event_word Feed = codes "feed"

-- that event at the node of a rank
abbrev pub event_at : NodeEvent → Rank → Event
event_at Crash rank = event.Crash rank
event_at Land rank = event.Land rank
event_at Done rank = event.Done rank
event_at Fail rank = event.Fail rank
event_at Tick rank = event.Tick rank
event_at Stopped rank = event.Stopped rank
event_at Unstopped rank = event.Unstopped rank
event_at Leave rank = event.Leave rank
event_at Feed rank = event.Feed rank

-- the first word of an event
abbrev pub event_word : EventName → List ℕ
event_word Pass = codes "pass"
event_word Boot = codes "boot"
event_word BootClean = codes "boot-clean"
event_word Late = codes "late"
event_word View = codes "view"
event_word Deliver = codes "deliver"
event_word Device = codes "device"
event_word Operator = codes "operator"
event_word (OfNode event) = node_event_word event

-- the names of all events
abbrev pub event_names : List EventName
event_names =
    Pass ∷ Boot ∷ BootClean ∷ OfNode Crash ∷ OfNode Land ∷ OfNode Done ∷ OfNode Fail
    ∷ OfNode Tick ∷ OfNode Stopped ∷ OfNode Unstopped ∷ OfNode Leave ∷ OfNode Feed
    ∷ Late ∷ View ∷ Deliver ∷ Device ∷ Operator ∷ []

-- the name that a first word is
unfoldable pub event_name : List ℕ → Option EventName
event_name word = find (λ name. bytes_eq (event_word name) word) event_names
