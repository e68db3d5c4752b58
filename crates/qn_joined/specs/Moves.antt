-- What one call that returns does to the world of a joint: this project's profile.
use Rattle.std.specs.Prelude.{◌≡◌, ◌<◌, ◌≤◌, ℕ, Bool, true, false, List, [], ◌++◌, Option, None, Some, ◌==◌, ◌+◌, length, nat_le}
use Rattle.std.specs.Option.{option_map_or, option_to_list}
use Rattle.qn_base.specs.declared.calls.Call.{Call}
use Rattle.qn_base.specs.declared.calls.Call.TheVariants as call
use Rattle.qn_model.specs.declared.configuration.Settings.{Settings}
use Rattle.qn_model.specs.declared.times.Timing.{Timing}
use Rattle.qn_base.specs.declared.ids.View.{View}
use Rattle.qn_model.specs.declared.entries.What.{What}
use Rattle.qn_model.specs.declared.entries.What.TheVariants as what
use Rattle.qn_model.specs.declared.events.Event.{Event}
use Rattle.qn_model.specs.declared.events.Event.TheVariants as event
use Rattle.qn_model.specs.declared.outputs.DiskOp.{DiskOp}
use Rattle.qn_model.specs.declared.packets.Packet.{Packet}
use Rattle.qn_model.specs.declared.packets.Sent.{Sent}
use Rattle.qn_model.specs.Moments.{Before, Running, packets, tick_of, time}
use Rattle.qn_model.specs.Steps.{run}
use Rattle.qn_model.specs.Wanted.{rank_of}
use Rattle.qn_model.specs.World.{World, node_at}
use Rattle.qn_io.specs.Answered.{time_of}
use Rattle.qn_live.specs.declared.place.Choice.{Choice}
use Rattle.qn_live.specs.Polling.{answered}
use Rattle.qn_live.specs.Running.{RunState}
use Rattle.qn_live.specs.Runs.{looked_at}
use Rattle.qn_joined.specs.Joints as joints
use Rattle.qn_joined.specs.Joints.{FitsImage, Happening, Host, IsNewImage, Joint, MayHappen, began, ended, first_joint, happens, looked_first, returned}
use Rattle.qn_joined.specs.Nodes.{at}
use Rattle.qn_safety.specs.AnyNumbers.{AllMay}
use Rattle.qn_joined.specs.Stands.{Spot, Receiving, Looking, Acting, Polling, Saying, Parting, Ended}
use Rattle.qn_joined.specs.WorldOf.{HasWorld, IsNode, IsWorld, WasSentTo}

-- every packet that was sent is among those that were sent later
abbrev pub Grows : List Sent → List Sent → Type 0
Grows all all' = (rank : ℕ) (p : Packet) → WasSentTo rank all p → WasSentTo rank all' p

-- a world that changed at one rank alone, at one moment
pub record Changes (s : Settings) (rank : ℕ) (w w' : World) : Type 0 where
  pub time : time w'.moments ≡ time w.moments
  pub grows : Grows (packets s w.moments) (packets s w'.moments)
  pub node : (r : ℕ) → (rank == r) ≡ false → node_at s r w' ≡ node_at s r w
  pub took : (r : ℕ) → (rank == r) ≡ false → w'.took r ≡ w.took r
  pub left : (r : ℕ) → (rank == r) ≡ false → w'.left r ≡ w.left r

-- a host is the node of a rank in a world
abbrev pub IsNodeIn : Settings → ℕ → Host → World → Type 0
IsNodeIn s rank host w =
    IsNode s rank host (node_at s rank w) (w.took rank) (w.left rank) (packets s w.moments)

-- an event that is no pass, no boot, no view and no answer of the device
abbrev pub is_plain : Event → Bool
is_plain (event.Pass dt clocks) = false
is_plain (event.Boot rank base) = false
is_plain (event.BootClean rank base) = false
is_plain (event.View rank view) = false
is_plain (event.Device rank agrees) = false
is_plain (event.Crash rank) = true
is_plain (event.Land rank) = true
is_plain (event.Done rank) = true
is_plain (event.Fail rank) = true
is_plain (event.Late rank number) = true
is_plain (event.Deliver rank number) = true
is_plain (event.Tick rank) = true
is_plain (event.Stopped rank) = true
is_plain (event.Unstopped rank) = true
is_plain (event.Leave rank) = true
is_plain (event.Feed rank) = true
is_plain (event.Operator rank sent) = true

-- an event, if one is, that hands a rank no view and no answer of the device but this entry
pub data Hands (rank : ℕ) (entry : Option What) : Option Event → Type 0 where
  Nothing : Hands rank entry None
  Plainly : {of : Event} → is_plain of ≡ true → Hands rank entry (Some of)
  AView : (view : View) → entry ≡ Some (what.View view) → Hands rank entry (Some (event.View (rank_of rank) view))
  AnAnswer : (agrees : Bool) → entry ≡ Some (what.Device agrees) → Hands rank entry (Some (event.Device (rank_of rank) agrees))

-- the boot of a rank, clean or not
abbrev pub boot_event : ℕ → ℕ → Bool → Event
boot_event rank base false = event.Boot (rank_of rank) base
boot_event rank base true = event.BootClean (rank_of rank) base

abbrev pub IsBoot : ℕ → ℕ → Option Event → Type 0
IsBoot rank base found = (clean : Bool) × (found ≡ Some (boot_event rank base clean))

-- the entry that a call hands where a run stands, if it hands one
abbrev pub entry_handed : Spot → Call → Option What
entry_handed (Looking chosen) made = Some (looked_at (time_of made) (answered (time_of made) chosen)).1
entry_handed (Receiving st) made = None
entry_handed (Acting entry outs o rest st) made = None
entry_handed (Polling poll sents st) made = None
entry_handed (Saying sent rest st) made = None
entry_handed (Parting end sent rest st) made = None
entry_handed (Ended ran) made = None

-- which event of the world a happening is, if it is one
abbrev pub IsEventOf : Happening → Joint → Option Event → Type 0
IsEventOf (joints.Passes dt clocks) j found = found ≡ Some (event.Pass dt clocks)
IsEventOf (joints.Looks rank base) j found = IsBoot rank base found
IsEventOf (joints.Returns rank made) j found = Hands rank (entry_handed (j.hosts rank).stand.spot made) found
IsEventOf (joints.Begins rank clean leave polls turns) j found = Hands rank None found
IsEventOf (joints.Lands rank) j found = Hands rank None found
IsEventOf (joints.Feeds rank) j found = Hands rank None found
IsEventOf (joints.LandsLate rank number) j found = Hands rank None found
IsEventOf (joints.Ends rank) j found = Hands rank None found
IsEventOf (joints.Operates rank sent) j found = Hands rank None found

-- one event more at most, which is so
pub record AddsOne (P : Option Event → Type 0) (events events' : List Event) : Type 0 where
  pub event : Option Event
  pub is : P event
  pub grew : events' ≡ option_to_list event ++ events

-- further events, of that rank alone and none of the image, after which a host is the node of the rank
pub record Moved (s : Settings) (t : Timing) (P : Option Event → Type 0) (rank : ℕ) (events : List Event) (host : Host) : Type 0 where
  pub events' : List Event
  pub grew : Before events events'
  pub one : AddsOne P events events'
  pub may : AllMay s t events'
  pub changes : Changes s rank (run s t events) (run s t events')
  pub slots : (run s t events').slots ≡ (run s t events).slots
  pub mailboxes : (run s t events').mailboxes ≡ (run s t events).mailboxes
  pub node : IsNodeIn s rank host (run s t events')

-- a look at the clock is one event of the world, which hands the node what the running node is handed
abbrev pub LooksInWorld : Settings → Timing → Type 0
LooksInWorld s t =
    (rank : ℕ) (events : List Event) (host : Host) (chosen : Choice × RunState) (tick : ℕ)
    → rank < length s.nodes
    → AllMay s t events
    → IsNodeIn s rank (at host (Looking chosen)) (run s t events)
    → host.on ≡ true
    → host.asked ≡ true
    → tick ≡ tick_of host.clock
    → Moved s t (Hands rank (Some (looked_at tick (answered tick chosen)).1)) rank events
    (returned s rank (call.Now tick) (time (run s t events).moments) (at host (Looking chosen)))

-- the first look at the clock is the boot of the node
abbrev pub BootsInWorld : Settings → Timing → Type 0
BootsInWorld s t =
    (rank : ℕ) (events : List Event) (host : Host) (base : ℕ)
    → rank < length s.nodes
    → AllMay s t events
    → IsNodeIn s rank host (run s t events)
    → host.on ≡ true
    → host.asked ≡ false
    → host.fed ≤ time (run s t events).moments
    → Moved s t (IsBoot rank base) rank events
    (looked_first s rank base (time (run s t events).moments) host)

-- a process that begins is a node that is off
abbrev pub BeginsAsNode : Settings → ℕ → Type 0
BeginsAsNode s rank =
    (host : Host) (n : Running) (took : Option What) (left : List DiskOp) (all : List Sent)
    (clean : Bool) (leave polls : Option ℕ) (turns time : ℕ)
    → IsNode s rank host n took left all
    → host.on ≡ false
    → IsNode s rank (began clean leave polls turns time) n took left all

-- a feed that takes effect is one event where the node takes part in time, and else none
abbrev pub FeedsInWorld : Settings → Timing → Type 0
FeedsInWorld s t =
    (rank : ℕ) (events : List Event) (host : Host)
    → AllMay s t events
    → IsNodeIn s rank host (run s t events)
    → option_map_or (λ decided. nat_le (time (run s t events).moments) (decided + t.feed_delay)) host.decided false ≡ true
    → Moved s t (Hands rank None) rank events (record host { fed = time (run s t events).moments })

-- a machine that is off is one event where the node takes part in time, and else none
abbrev pub EndsInWorld : Settings → Timing → Type 0
EndsInWorld s t =
    (rank : ℕ) (events : List Event) (host : Host)
    → rank < length s.nodes
    → AllMay s t events
    → IsNodeIn s rank host (run s t events)
    → host.on ≡ true
    → Moved s t (Hands rank None) rank events (ended s rank host)

-- what happens leads from a joint that has a world to one whose world has one event more at most, which is so
pub record HasStepped (s : Settings) (t : Timing) (P : Option Event → Type 0) (events : List Event) (j : Joint) : Type 0 where
  pub events' : List Event
  pub grew : Before events events'
  pub one : AddsOne P events events'
  pub may : AllMay s t events'
  pub world : IsWorld s t j (run s t events')

-- each thing that happens is one event of the world at most, which is its event
abbrev pub EachIsOneEvent : Settings → Timing → Type 0
EachIsOneEvent s t =
    (j : Joint) (happening : Happening)
    → FitsImage s t
    → (has : HasWorld s t j)
    → MayHappen s t happening j
    → HasStepped s t (IsEventOf happening j) has.events (happens s happening j)

-- a new image with every machine off is the world before anything happened
abbrev pub NewImageIsWorld : Settings → Timing → Type 0
NewImageIsWorld s t = (image : ℕ → List ℕ) → IsNewImage s t image → IsWorld s t (first_joint image) (run s t [])
