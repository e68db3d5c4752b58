-- Running nodes that share one outside: one image, one network, true time, and a watchdog each. What the outside may do, and
-- what every call answers. This project's profile.
use Rattle.std.specs.Prelude.{◌≡◌, ◌<◌, ◌≤◌, ℕ, Bool, true, false, not, ◌&&◌, ◌||◌, ◌==◌, ◌+◌, nat_le, List, [], ◌∷◌, ◌++◌, Option, None, Some, is_some, length, Contains, IsTrue, ◌^◌, if◌then◌else◌}
use Rattle.std.specs.Option.{option_map_or}
use Rattle.std.specs.List.{list_all}
use Rattle.qn_base.specs.declared.calls.Call.{Call}
use Rattle.qn_base.specs.declared.calls.Call.TheVariants as call
use Rattle.qn_base.specs.declared.calls.Received.{Received}
use Rattle.qn_base.specs.declared.calls.Received.TheVariants as received
use Rattle.qn_base.specs.declared.ids.Rank.{Rank}
use Rattle.qn_base.specs.Calls.{blank}
use Rattle.qn_base.specs.Plans.{question}
use Rattle.qn_model.specs.declared.configuration.Settings.{Settings}
use Rattle.qn_model.specs.declared.disk.Message.{Message}
use Rattle.qn_model.specs.declared.disk.Message.TheVariants as message
use Rattle.qn_model.specs.declared.times.Timing.{Timing}
use Rattle.qn_model.specs.declared.packets.Packet.{Packet}
use Rattle.qn_model.specs.declared.packets.Packet.TheVariants as packet
use Rattle.qn_model.specs.declared.outputs.Out.{Out}
use Rattle.qn_model.specs.declared.outputs.Out.TheVariants as out
use Rattle.qn_model.specs.Log.{has_start}
use Rattle.qn_model.specs.Moments.{advance_of, has_feed, is_gone, tick_of}
use Rattle.qn_model.specs.NodeOutputs.{newest_outs}
use Rattle.qn_model.specs.Phases.{phase}
use Rattle.qn_model.specs.Rules.{is_within_bounds, outlives}
use Rattle.qn_model.specs.Sectors.{anonymous, header_bytes, is_deadly, mail_bytes, mail_place, slot_bytes, slot_place}
use Rattle.qn_model.specs.Timing.{has_periods}
use Rattle.qn_model.specs.Unmet.{id_of}
use Rattle.qn_model.specs.World.{numbered, put, without}
use Rattle.qn_sector.specs.Reading.{mail_of}
use Rattle.qn_wire.specs.Packets.{is_well_formed}
use Rattle.qn_wire.specs.Reading.{packet_of}
use Rattle.qn_joined.specs.Stands.{Spot, Receiving, Looking, Acting, Polling, Saying, Parting, Ended, Stand, after_call, first_stand, log_at, plan_at}

-- One host. `on` says that its machine runs, from the arming of its watchdog on; `asked` that its process has looked at the
-- clock; `fed` is the true time of the arming or of the last feed that took effect, `decided` that of the last look at the
-- clock of which a feed came; `took` is what the disk call that it waits for took where it landed, the bytes of a read and
-- none of a write; `left` are the writes that were given up before they landed, oldest first; `runs` says that its resource
-- runs, or may: from the look at the clock of which a start came until a stop succeeded or the machine is off.
pub record Host : Type 0 where
  pub on : Bool
  pub asked : Bool
  pub leave : Option ℕ
  pub stand : Stand
  pub clock : ℕ
  pub fed : ℕ
  pub decided : Option ℕ
  pub took : Option (List ℕ)
  pub left : List Call
  pub runs : Bool

-- all hosts and what they share: the sectors of the image, and each packet that was ever sent, with its receiver
pub record Joint : Type 0 where
  pub time : ℕ
  pub hosts : ℕ → Host
  pub image : ℕ → List ℕ
  pub sent : List (ℕ × List ℕ)

-- What happens at one moment.
pub data Happening : Type 0 where
  -- so many milliseconds pass, and these clocks advance so far
  Passes : ℕ → List (Rank × ℕ) → Happening
  -- the machine of a rank is on, its watchdog armed, and its process begins: a clean start or not, and when it is to leave. The machine was
  -- off, or its process before was over.
  Begins : ℕ → Bool → Option ℕ → Option ℕ → ℕ → Happening
  -- the process of a rank looks at its clock for the first time, which stands at this base
  Looks : ℕ → ℕ → Happening
  -- the disk call that a rank waits for lands
  Lands : ℕ → Happening
  -- the call that a rank waits for returns, with its answer
  Returns : ℕ → Call → Happening
  -- a feed of a rank takes effect
  Feeds : ℕ → Happening
  -- the write of that number that a rank gave up lands after all
  LandsLate : ℕ → ℕ → Happening
  -- the machine of a rank is off
  Ends : ℕ → Happening
  -- an operator writes a message to the mailbox of a rank
  Operates : ℕ → Message → Happening

-- a host before its first process
abbrev pub never_on : Host
never_on =
    record { on = false; asked = false; leave = None; stand = first_stand false None 1; clock = 0; fed = 0; decided = None; took = None; left = []; runs = false }

-- a new image, as `create` makes it
abbrev pub new_slot : Settings → ℕ → List ℕ
new_slot s rank = slot_bytes (id_of s rank).0 (record { incarnation = 0; clean = true })

-- the call that a host waits for, with its answer wiped
abbrev pub waits_for : Settings → ℕ → Host → Option Call
waits_for s rank host = question (plan_at s rank host.leave host.stand)

abbrev pub is_disk : Call → Bool
is_disk (call.Read sector bytes ok) = true
is_disk (call.Write sector bytes ok) = true
is_disk other = false

abbrev pub is_write_call : Call → Bool
is_write_call (call.Write sector bytes ok) = true
is_write_call other = false

-- the image after a call landed, and what the call took
abbrev pub landed_image : Call → (ℕ → List ℕ) → ℕ → List ℕ
landed_image (call.Write sector bytes ok) image = put image sector bytes
landed_image other image = image

abbrev pub takes : Call → (ℕ → List ℕ) → List ℕ
takes (call.Read sector bytes ok) image = image sector
takes other image = []

-- a packet that counts was sent by a node of the cluster: an Ask, a Tell. What else comes may come from anybody.
abbrev pub counts : Option Packet → Bool
counts (Some (packet.Ask ask)) = true
counts (Some (packet.Tell tell)) = true
counts other = false

abbrev pub MayReceive : ℕ → Received → List (ℕ × List ℕ) → Type 0
MayReceive rank (received.Packet bytes) sent = counts (packet_of bytes) ≡ true → Contains sent (rank, bytes)
MayReceive rank received.Nothing sent = Unit {0}
MayReceive rank received.Failed sent = Unit {0}

-- a call may answer so: the clock tells its time, a read what it took, a disk call succeeds only where it landed; all other
-- calls may succeed or fail
abbrev pub MayAnswer : ℕ → Host → List (ℕ × List ℕ) → Call → Type 0
MayAnswer rank host sent (call.Now tick) = tick ≡ tick_of host.clock
MayAnswer rank host sent (call.Receive got) = MayReceive rank got sent
MayAnswer rank host sent (call.Read sector bytes ok) = ok ≡ true → host.took ≡ Some bytes
MayAnswer rank host sent (call.Write sector bytes ok) = ok ≡ true → is_some host.took ≡ true
MayAnswer rank host sent other = Unit {0}

-- The node of a host takes part in time: its process has looked at the clock, and it is not gone. Of a machine whose node
-- left or halted its boot nothing is asked.
abbrev pub is_timed : Settings → Host → Bool
is_timed s host = host.on && host.asked && not (is_gone (phase s (log_at host.stand.spot)))

-- its clock keeps its bounds, and its machine does not outlive its watchdog
abbrev pub host_passes : Settings → Timing → ℕ → ℕ → ℕ → Host → Bool
host_passes s t dt advance now host = if is_timed s host then is_within_bounds dt advance && outlives t (now + dt) host.fed else true

-- the process is over
abbrev pub is_over : Spot → Bool
is_over (Ended ran) = true
is_over (Receiving st) = false
is_over (Looking chosen) = false
is_over (Acting entry outs o rest st) = false
is_over (Polling poll sents st) = false
is_over (Saying sent rest st) = false
is_over (Parting end sent rest st) = false

abbrev pub is_none_left : List Call → Bool
is_none_left [] = true
is_none_left (write ∷ more) = false

-- A process may begin where the machine is off, or where the one before it on the machine is over and has left or halted its boot, its
-- resource does not run, and no write of it is left over: one that is, as the close of a node that left dirty may be, lands too late.
abbrev pub may_begin : Settings → Host → Bool
may_begin s host =
    not host.on || (is_gone (phase s (log_at host.stand.spot)) && is_over host.stand.spot && not host.runs && is_none_left host.left)

-- the message that a mailbox of the image holds is deadly
abbrev pub is_deadly_mail : List ℕ → Bool
is_deadly_mail bytes = option_map_or (λ found. is_deadly found.message) (mail_of bytes) false

abbrev pub packet_in_out : Out → Option Packet
packet_in_out (out.Send to p) = Some p
packet_in_out out.Stop = None
packet_in_out out.Start = None
packet_in_out out.Feed = None
packet_in_out (out.Disk op) = None
packet_in_out out.Disarm = None
packet_in_out (out.Halt kind) = None

-- the packet that is sent, where an output sends one
abbrev pub packet_said : Spot → Option Packet
packet_said (Receiving st) = None
packet_said (Looking chosen) = None
packet_said (Acting entry outs o rest st) = packet_in_out o
packet_said (Polling poll sents st) = None
packet_said (Saying sent rest st) = None
packet_said (Parting end sent rest st) = None
packet_said (Ended ran) = None

pub record MayReturn (s : Settings) (rank : ℕ) (made : Call) (j : Joint) : Type 0 where
  pub on : (j.hosts rank).on ≡ true
  pub asked : (j.hosts rank).asked ≡ true
  pub waits : waits_for s rank (j.hosts rank) ≡ Some (blank made)
  pub answer : MayAnswer rank (j.hosts rank) j.sent made
  -- a packet is sent only while its numbers fit their bytes: no boot has had 2 ^ 64 entries, and no view such an id
  pub spells : option_map_or is_well_formed (packet_said (j.hosts rank).stand.spot) true ≡ true

-- What may happen: the premises of the theorem, one rule each.
abbrev pub MayHappen : Settings → Timing → Happening → Joint → Type 0
MayHappen s t (Passes dt clocks) j =
    ((rank : ℕ) → rank < length s.nodes → host_passes s t dt (advance_of dt clocks rank) j.time (j.hosts rank) ≡ true)
    × (list_all (λ clock. is_timed s (j.hosts clock.0.0)) clocks ≡ true)
MayHappen s t (Begins rank clean leave polls turns) j = (rank < length s.nodes) × (1 ≤ turns) × (may_begin s (j.hosts rank) ≡ true)
MayHappen s t (Looks rank base) j =
    ((j.hosts rank).on ≡ true)
    × ((j.hosts rank).asked ≡ false)
    × (waits_for s rank (j.hosts rank) ≡ Some (call.Now 0))
MayHappen s t (Lands rank) j =
    ((j.hosts rank).on ≡ true) × (option_map_or is_disk (waits_for s rank (j.hosts rank)) false ≡ true) × ((j.hosts rank).took ≡ None)
MayHappen s t (Returns rank made) j = MayReturn s rank made j
MayHappen s t (Feeds rank) j =
    ((j.hosts rank).on ≡ true) × (option_map_or (λ decided. nat_le j.time (decided + t.feed_delay)) (j.hosts rank).decided false ≡ true)
MayHappen s t (LandsLate rank number) j = is_some (numbered (j.hosts rank).left number) ≡ true
MayHappen s t (Ends rank) j = (j.hosts rank).on ≡ true
MayHappen s t (Operates rank sent) j =
    (rank < length s.nodes)
    × ((is_deadly sent || not (is_deadly_mail (j.image (mail_place rank))) || not (j.hosts rank).on) ≡ true)

-- what a call does to its host beside its stand: a look at the clock decides, a stop that succeeded ends the resource, a
-- write that failed before it landed is left over
abbrev pub after_now : List Out → ℕ → Host → Host
after_now outs time host =
    record host { decided = (if has_feed outs then Some time else host.decided); runs = has_start outs || host.runs }

abbrev pub left_over : Call → Option (List ℕ) → List Call
left_over (call.Write sector bytes ok) None = call.Write sector bytes true ∷ []
left_over other took = []

abbrev pub after_effect : Call → List Out → ℕ → Host → Host
after_effect (call.Now tick) outs time host = after_now outs time host
after_effect (call.Stop ok) outs time host = record host { runs = not ok && host.runs }
after_effect (call.Write sector bytes ok) outs time host =
    record host { took = None; left = host.left ++ left_over (call.Write sector bytes ok) host.took }
after_effect (call.Read sector bytes ok) outs time host = record host { took = None }
after_effect other outs time host = host

unfoldable pub returned : Settings → ℕ → Call → ℕ → Host → Host
returned s rank made time host =
    let stand = after_call s rank host.leave host.stand made in
    record (after_effect made (newest_outs (log_at stand.spot)) time host) { stand = stand }

-- the first look at the clock, which begins at this base
unfoldable pub looked_first : Settings → ℕ → ℕ → ℕ → Host → Host
looked_first s rank base time host =
    record (returned s rank (call.Now (tick_of base)) time host) { asked = true; clock = base }

-- the packet that a call sent
abbrev pub sent_by : Call → List (ℕ × List ℕ)
sent_by (call.Send to bytes ok) = (to.0, bytes) ∷ []
sent_by other = []

-- what a host that is off leaves over
abbrev pub given_up_by : Option Call → Option (List ℕ) → List Call
given_up_by None took = []
given_up_by (Some waiting) took = left_over waiting took

abbrev pub ended : Settings → ℕ → Host → Host
ended s rank host =
    record host { on = false; runs = false; took = None; left = host.left ++ given_up_by (waits_for s rank host) host.took }

abbrev pub began : Bool → Option ℕ → Option ℕ → ℕ → ℕ → Host
began clean leave polls turns time =
    record never_on { on = true; leave = leave; stand = first_stand clean polls turns; fed = time }

abbrev pub with_host : ℕ → Host → Joint → Joint
with_host rank host j = record j { hosts = put j.hosts rank host }

-- the joint after what happened
unfoldable pub happens : Settings → Happening → Joint → Joint
happens s (Passes dt clocks) j =
    record j {
      time = j.time + dt;
      hosts = λ rank. record (j.hosts rank) { clock = (if (j.hosts rank).asked then (j.hosts rank).clock + advance_of dt clocks rank else (j.hosts rank).clock) };
    }
happens s (Begins rank clean leave polls turns) j = with_host rank (began clean leave polls turns j.time) j
happens s (Looks rank base) j = with_host rank (looked_first s rank base j.time (j.hosts rank)) j
happens s (Lands rank) j =
    option_map_or
    (λ waiting. record (with_host rank (record (j.hosts rank) { took = Some (takes waiting j.image) }) j) { image = landed_image waiting j.image })
    (waits_for s rank (j.hosts rank))
    j
happens s (Returns rank made) j =
    record (with_host rank (returned s rank made j.time (j.hosts rank)) j) { sent = j.sent ++ sent_by made }
happens s (Feeds rank) j = with_host rank (record (j.hosts rank) { fed = j.time }) j
happens s (LandsLate rank number) j =
    option_map_or
    (λ write. record (with_host rank (record (j.hosts rank) { left = without (j.hosts rank).left number }) j) { image = landed_image write j.image })
    (numbered (j.hosts rank).left number)
    j
happens s (Ends rank) j = with_host rank (ended s rank (j.hosts rank)) j
happens s (Operates rank sent) j = record j { image = put j.image (mail_place rank) (mail_bytes (anonymous sent)) }

-- the settings and the times fit an image
pub record FitsImage (s : Settings) (t : Timing) : Type 0 where
  pub some : 1 ≤ length s.nodes
  pub few : length s.nodes ≤ 32
  pub times : IsTrue (has_periods t)
  pub ids : (rank : ℕ) → rank < length s.nodes → (1 ≤ (id_of s rank).0) × ((id_of s rank).0 < 2 ^ 32)

-- An image as `create` made it: a header of these times, clean slots, empty mailboxes. Other sectors hold anything.
pub record IsNewImage (s : Settings) (t : Timing) (image : ℕ → List ℕ) : Type 0 where
  pub header : image 0 ≡ header_bytes (length s.nodes) t
  pub slots : (rank : ℕ) → rank < length s.nodes → image (slot_place rank) ≡ new_slot s rank
  pub mails : (rank : ℕ) → rank < length s.nodes → image (mail_place rank) ≡ mail_bytes (anonymous message.Empty)

abbrev pub first_joint : (ℕ → List ℕ) → Joint
first_joint image = record { time = 0; hosts = λ rank. never_on; image = image; sent = [] }

-- the joint after happenings, of which the newest stands first
unfoldable pub joint_after : Settings → (ℕ → List ℕ) → List Happening → Joint
joint_after s image [] = first_joint image
joint_after s image (newest ∷ earlier) = happens s newest (joint_after s image earlier)

-- each of the happenings may happen in its turn
unfoldable pub AllMayHappen : Settings → Timing → (ℕ → List ℕ) → List Happening → Type 0
AllMayHappen s t image [] = Unit {0}
AllMayHappen s t image (newest ∷ earlier) =
    MayHappen s t newest (joint_after s image earlier) × AllMayHappen s t image earlier

-- running nodes over one outside, that began on a new image
pub record IsJoined (s : Settings) (t : Timing) (image : ℕ → List ℕ) (happenings : List Happening) : Type 0 where
  pub fits : FitsImage s t
  pub created : IsNewImage s t image
  pub may : AllMayHappen s t image happenings

-- the resource of a rank runs, or may
abbrev pub runs_at : Settings → (ℕ → List ℕ) → List Happening → ℕ → Bool
runs_at s image happenings rank = ((joint_after s image happenings).hosts rank).on && ((joint_after s image happenings).hosts rank).runs

-- the calls of the present process of a rank, oldest first
unfoldable pub calls_of : ℕ → List Happening → List Call
calls_of rank [] = []
calls_of rank (Returns other made ∷ earlier) = if other == rank then calls_of rank earlier ++ made ∷ [] else calls_of rank earlier
calls_of rank (Begins other clean leave polls turns ∷ earlier) = if other == rank then [] else calls_of rank earlier
calls_of rank (Passes dt clocks ∷ earlier) = calls_of rank earlier
calls_of rank (Looks other base ∷ earlier) =
    if other == rank then calls_of rank earlier ++ call.Now (tick_of base) ∷ [] else calls_of rank earlier
calls_of rank (Lands other ∷ earlier) = calls_of rank earlier
calls_of rank (Feeds other ∷ earlier) = calls_of rank earlier
calls_of rank (LandsLate other number ∷ earlier) = calls_of rank earlier
calls_of rank (Ends other ∷ earlier) = calls_of rank earlier
calls_of rank (Operates other sent ∷ earlier) = calls_of rank earlier
