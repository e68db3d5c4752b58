-- The world that a joint is an image of: the events that happened in it. This project's profile.
use Rattle.std.specs.Prelude.{◌≡◌, ◌<◌, ◌≤◌, ℕ, Bool, true, false, ◌&&◌, List, [], ◌∷◌, ◌++◌, Option, None, Some, is_some, is_none, length, Contains, IfSome, ◌^◌, ◌⊎◌, if◌then◌else◌}
use Rattle.qn_base.specs.declared.calls.Call.{Call}
use Rattle.qn_model.specs.declared.configuration.Settings.{Settings}
use Rattle.qn_model.specs.declared.times.Timing.{Timing}
use Rattle.qn_model.specs.declared.mailbox.Sender.{Sender}
use Rattle.qn_model.specs.declared.events.Event.{Event}
use Rattle.qn_model.specs.declared.packets.Packet.{Packet}
use Rattle.qn_model.specs.declared.packets.Packet.TheVariants as packet
use Rattle.qn_model.specs.declared.packets.Sent.{Sent}
use Rattle.qn_model.specs.declared.outputs.DiskOp.{DiskOp}
use Rattle.qn_model.specs.declared.outputs.Out.{Out}
use Rattle.qn_model.specs.declared.outputs.Out.TheVariants as out
use Rattle.qn_model.specs.declared.entries.What.{What}
use Rattle.qn_model.specs.declared.entries.What.TheVariants as what
use Rattle.qn_model.specs.Holding.{holds, stop_due}
use Rattle.qn_model.specs.Log.{Line, disk_of, is_answer, now, op_out}
use Rattle.qn_model.specs.Moments.{Before, Running, is_gone, packets, tick_of, time}
use Rattle.qn_model.specs.Phases.{phase}
use Rattle.qn_model.specs.Sectors.{IsSender, header_bytes, mail_bytes, mail_place, slot_bytes, slot_place}
use Rattle.qn_model.specs.Steps.{run}
use Rattle.qn_model.specs.Unmet.{id_of}
use Rattle.qn_model.specs.World.{World, failed, given_up, node_at}
use Rattle.qn_wire.specs.Reading.{packet_of}
use Rattle.qn_live.specs.declared.place.Choice.{Choice}
use Rattle.qn_live.specs.declared.place.Choice.TheVariants as choice
use Rattle.qn_live.specs.Performing.{disk_call, done, end_after}
use Rattle.qn_live.specs.Running.{RunState}
use Rattle.qn_safety.specs.AnyNumbers.{AllMay}
use Rattle.qn_safety.specs.NodeLogs.{IsOperation, is_disk_last}
use Rattle.qn_joined.specs.Owning.{is_no_stop}
use Rattle.qn_joined.specs.Stands.{Spot, Receiving, Looking, Acting, Polling, Saying, Parting, Ended, first_stand, log_at}
use Rattle.qn_joined.specs.Joints.{Host, Joint, IsJoined, Happening, counts, is_timed, joint_after}

-- The calls are those of some of the operations, in order: a process that died before it made a call has left its operation
-- over in the world alone.
pub data AreAmong (s : Settings) (rank : ℕ) : List Call → List DiskOp → Type 0 where
  NoCall : {ops : List DiskOp} → AreAmong s rank [] ops
  Skips : {calls : List Call} {ops : List DiskOp} (op : DiskOp) → AreAmong s rank calls ops → AreAmong s rank calls (op ∷ ops)
  Made : {calls : List Call} {ops : List DiskOp} (number : ℕ) (op : DiskOp) → number < 2 ^ 64 → IsOperation s op → AreAmong s rank calls ops
      → AreAmong s rank (disk_call s rank number op ∷ calls) (op ∷ ops)

-- what the disk call of an operation took where it landed, in the joint and in the world; None: it has not landed
abbrev pub TookAlike : Settings → DiskOp → Option (List ℕ) → Option What → Type 0
TookAlike s op None took = took ≡ None
TookAlike s op (Some bytes) took = took ≡ Some (done s op bytes)

-- an entry answers the operation that is out: this failed, or it landed and took that answer
pub record IsAnswer (log : List Line) (took : Option What) (answer : What) : Type 0 where
  pub answers : is_answer answer ≡ true
  pub op : DiskOp
  pub out : op_out log ≡ Some op
  pub source : (answer ≡ failed op) ⊎ (took ≡ Some answer)

-- a packet was sent to a rank
pub record WasSentTo (rank : ℕ) (all : List Sent) (p : Packet) : Type 0 where
  pub to : Sent
  pub there : Contains all to
  pub receiver : to.to.0 ≡ rank
  pub content : to.packet ≡ p

-- the world may hand a node this entry next
abbrev pub ComesIn : ℕ → List Line → Option What → List Sent → What → Type 0
ComesIn rank log took all what.Begin = ⊥
ComesIn rank log took all what.BeginClean = ⊥
ComesIn rank log took all (what.Header seen) = IsAnswer log took (what.Header seen)
ComesIn rank log took all (what.SlotRead other seen) = IsAnswer log took (what.SlotRead other seen)
ComesIn rank log took all (what.MailChecked seen) = IsAnswer log took (what.MailChecked seen)
ComesIn rank log took all (what.Claimed ok) = IsAnswer log took (what.Claimed ok)
ComesIn rank log took all (what.Cleared ok) = IsAnswer log took (what.Cleared ok)
ComesIn rank log took all (what.MailRead seen) = IsAnswer log took (what.MailRead seen)
ComesIn rank log took all (what.MailWritten other ok) = IsAnswer log took (what.MailWritten other ok)
ComesIn rank log took all (what.Closed ok) = IsAnswer log took (what.Closed ok)
ComesIn rank log took all (what.Ask ask) = WasSentTo rank all (packet.Ask ask)
ComesIn rank log took all (what.Tell tell) = WasSentTo rank all (packet.Tell tell)
ComesIn rank log took all (what.Stopped ok) = stop_due log ≡ true
ComesIn rank log took all (what.View view) = Unit {0}
ComesIn rank log took all (what.Device agrees) = Unit {0}
ComesIn rank log took all what.Tick = Unit {0}
ComesIn rank log took all what.Leave = Unit {0}

-- what was chosen may become an entry: an open choice becomes a view or a tick
abbrev pub ComesAs : ℕ → List Line → Option What → List Sent → Choice → Type 0
ComesAs rank log took all (choice.Whole entry) = ComesIn rank log took all entry
ComesAs rank log took all (choice.Open p) = Unit {0}
ComesAs rank log took all (choice.Answer reply) = Unit {0}

abbrev pub is_answer_in : Choice → Bool
is_answer_in (choice.Whole entry) = is_answer entry
is_answer_in (choice.Open p) = false
is_answer_in (choice.Answer reply) = false

-- the answers that wait in a state may be handed to its node
pub record Waiting (st : RunState) (took : Option What) : Type 0 where
  pub stopped : (ok : Bool) → st.waits.stopped ≡ Some ok → stop_due st.log ≡ true
  pub disk : (answer : What) → st.waits.disk ≡ Some answer → IsAnswer st.log took answer

-- an output that is still to be performed came out of the log
abbrev pub ComesOut : List Line → List Sent → Out → Type 0
ComesOut log all out.Stop = stop_due log ≡ true
ComesOut log all (out.Send to p) = WasSentTo to.0 all p
ComesOut log all (out.Disk op) = op_out log ≡ Some op
ComesOut log all out.Start = Unit {0}
ComesOut log all out.Feed = Unit {0}
ComesOut log all out.Disarm = Unit {0}
ComesOut log all (out.Halt kind) = Unit {0}

abbrev pub AllComeOut : List Line → List Sent → List Out → Type 0
AllComeOut log all [] = Unit {0}
AllComeOut log all (o ∷ outs) = ComesOut log all o × AllComeOut log all outs

-- what is known of the outputs that are still to be performed
pub record Performs (s : Settings) (took_call : Option (List ℕ)) (took : Option What) (all : List Sent) (st : RunState) (outs : List Out) : Type 0 where
  pub come : AllComeOut st.log all outs
  pub last : is_disk_last outs ≡ true
  pub disk : (op : DiskOp) → disk_of outs ≡ Some op → (st.waits.disk ≡ None) × TookAlike s op took_call took

-- what is known where a run stands
abbrev pub IsBacked : Settings → ℕ → Option (List ℕ) → Option What → List Sent → Spot → Type 0
IsBacked s rank took_call took all (Receiving st) = Waiting st took × (is_no_stop st.waits.stopped ≡ true)
IsBacked s rank took_call took all (Looking chosen) =
    Waiting chosen.1 took
    × (is_no_stop chosen.1.waits.stopped ≡ true)
    × ComesAs rank chosen.1.log took all chosen.0
    × (is_answer_in chosen.0 ≡ true → chosen.1.waits.disk ≡ None)
IsBacked s rank took_call took all (Acting entry outs o rest st) =
    Waiting st took × Performs s took_call took all st (o ∷ rest)
IsBacked s rank took_call took all (Polling poll sents st) = Waiting st took
IsBacked s rank took_call took all (Saying sent rest st) = Waiting st took
IsBacked s rank took_call took all (Parting end sent rest st) = Unit {0}
IsBacked s rank took_call took all (Ended ran) = Unit {0}

-- the operation that is still to be made
abbrev pub disk_ahead : Spot → Option DiskOp
disk_ahead (Receiving st) = None
disk_ahead (Looking chosen) = None
disk_ahead (Acting entry outs o rest st) = disk_of (o ∷ rest)
disk_ahead (Polling poll sents st) = None
disk_ahead (Saying sent rest st) = None
disk_ahead (Parting end sent rest st) = None
disk_ahead (Ended ran) = None

-- a greeting of the view maker, as a packet
abbrev pub is_greeting : Packet → Bool
is_greeting (packet.Hello from) = true
is_greeting (packet.Heard from said standing) = true
is_greeting (packet.Announce from view) = true
is_greeting (packet.Ask ask) = false
is_greeting (packet.Tell tell) = false
is_greeting (packet.Vote agrees) = false

abbrev pub all_greet : List Sent → Bool
all_greet [] = true
all_greet (sent ∷ rest) = is_greeting sent.packet && all_greet rest

-- beside its outputs a run sends greetings alone
abbrev pub greets_at : Spot → Bool
greets_at (Receiving st) = true
greets_at (Looking chosen) = true
greets_at (Acting entry outs o rest st) = true
greets_at (Polling poll sents st) = all_greet sents
greets_at (Saying sent rest st) = all_greet (sent ∷ rest)
greets_at (Parting end sent rest st) = all_greet (sent ∷ rest)
greets_at (Ended ran) = true

-- a run of a node that is gone only ends: it performs its last output, says farewell, or is over
abbrev pub IsEnding : Spot → Type 0
IsEnding (Receiving st) = ⊥
IsEnding (Looking chosen) = ⊥
IsEnding (Acting entry outs o rest st) = (rest ≡ []) × (outs ≡ o ∷ []) × (is_some (end_after entry o) ≡ true)
IsEnding (Polling poll sents st) = ⊥
IsEnding (Saying sent rest st) = ⊥
IsEnding (Parting end sent rest st) = Unit {0}
IsEnding (Ended ran) = Unit {0}

-- a process that has not looked at the clock
pub record IsFresh (host : Host) : Type 0 where
  pub clean : Bool
  pub polls : Option ℕ
  pub turns : ℕ
  pub stand : host.stand ≡ first_stand clean polls turns
  pub decided : host.decided ≡ None
  pub runs : host.runs ≡ false
  pub left : host.left ≡ []

-- what of the present operation of a node is left over once it is given up, where its call was made
abbrev pub still_out : Running → Spot → Option What → List DiskOp
still_out n spot took = if n.on && is_none (disk_ahead spot) then given_up (op_out n.log) took else []

-- A host and the node of the world that it is: the node is on from the first look at the clock until it is gone. Of the node
-- are given what its operation took, its leftovers, and all packets that were ever sent.
pub record IsNode (s : Settings) (rank : ℕ) (host : Host) (n : Running) (took : Option What) (left : List DiskOp) (all : List Sent) : Type 0 where
  pub on : n.on ≡ is_timed s host
  pub log : n.on ≡ true → n.log ≡ log_at host.stand.spot
  pub clock : n.on ≡ true → n.clock ≡ host.clock
  pub tick : n.on ≡ true → now n.log ≤ tick_of n.clock
  pub fed : n.on ≡ true → host.fed ≤ n.fed
  pub decided : n.on ≡ true → n.decided ≡ host.decided
  pub silent : n.on ≡ true → op_out n.log ≡ None → took ≡ None
  pub backed : n.on ≡ true → IsBacked s rank host.took took all host.stand.spot
  pub idle : host.on ≡ true → disk_ahead host.stand.spot ≡ None → host.took ≡ None
  pub among : AreAmong s rank host.left (left ++ still_out n host.stand.spot took)
  pub fresh : host.on ≡ true → host.asked ≡ false → IsFresh host
  pub ending : host.on ≡ true → is_gone (phase s (log_at host.stand.spot)) ≡ true → IsEnding host.stand.spot
  pub greets : greets_at host.stand.spot ≡ true
  pub rests : host.on ≡ true → is_gone (phase s (log_at host.stand.spot)) ≡ true → holds (log_at host.stand.spot) ≡ false

-- the image spells the slots and mailboxes of the world, whoever wrote them
pub record IsImage (s : Settings) (t : Timing) (image : ℕ → List ℕ) (w : World) : Type 0 where
  pub header : image 0 ≡ header_bytes (length s.nodes) t
  pub slots : (rank : ℕ) → rank < length s.nodes → image (slot_place rank) ≡ slot_bytes (id_of s rank).0 (w.slots rank)
  pub fit : (rank : ℕ) → rank < length s.nodes → (w.slots rank).incarnation < 2 ^ 64
  pub mails : (rank : ℕ) → rank < length s.nodes
      → (by : Option Sender) × IfSome by IsSender × (image (mail_place rank) ≡ mail_bytes (record { message = w.mailboxes rank; by = by }))

-- the joint is this world
pub record IsWorld (s : Settings) (t : Timing) (j : Joint) (w : World) : Type 0 where
  pub time : time w.moments ≡ j.time
  pub nodes : (rank : ℕ) → rank < length s.nodes
      → IsNode s rank (j.hosts rank) (node_at s rank w) (w.took rank) (w.left rank) (packets s w.moments)
  pub off : (rank : ℕ) → length s.nodes ≤ rank → (j.hosts rank).on ≡ false
  pub fed : (rank : ℕ) → (j.hosts rank).fed ≤ j.time
  pub bare : (rank : ℕ) → length s.nodes ≤ rank → (j.hosts rank).left ≡ []
  pub image : IsImage s t j.image w
  pub sent : (to : ℕ) (bytes : List ℕ) (p : Packet) → Contains j.sent (to, bytes) → packet_of bytes ≡ Some p → counts (Some p) ≡ true
      → WasSentTo to (packets s w.moments) p

-- events that may happen led to a world that the joint is
pub record HasWorld (s : Settings) (t : Timing) (j : Joint) : Type 0 where
  pub events : List Event
  pub may : AllMay s t events
  pub world : IsWorld s t j (run s t events)

-- further events led to such a world
pub record HasGrown (s : Settings) (t : Timing) (events : List Event) (j : Joint) : Type 0 where
  pub events' : List Event
  pub grew : Before events events'
  pub may : AllMay s t events'
  pub world : IsWorld s t j (run s t events')

-- a joint to which further happenings led has a world to which further events led
abbrev pub WorldsGrow : Settings → Timing → Type 0
WorldsGrow s t =
    (image : ℕ → List ℕ) (newer older : List Happening)
    → IsJoined s t image (newer ++ older)
    → (has : HasWorld s t (joint_after s image older))
    → HasGrown s t has.events (joint_after s image (newer ++ older))

-- every joint has a world
abbrev pub EveryJointHasAWorld : Settings → Timing → Type 0
EveryJointHasAWorld s t =
    (image : ℕ → List ℕ) (happenings : List Happening) → IsJoined s t image happenings → HasWorld s t (joint_after s image happenings)
