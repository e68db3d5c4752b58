-- A host whose run is on three images, and the node of the world that it is: this project's profile.
use Rattle.std.specs.Prelude.{◌≡◌, ◌<◌, ◌≤◌, ℕ, zero, suc, Bool, true, false, List, [], ◌∷◌, Option, None, Some, is_some, length, Contains, ◌⊎◌}
use Rattle.qn_base.specs.declared.calls.Call.{Call}
use Rattle.qn_base.specs.Calls.{blank}
use Rattle.qn_base.specs.Plans as plans
use Rattle.qn_base.specs.Plans.{Plan}
use Rattle.qn_model.specs.declared.configuration.Settings.{Settings}
use Rattle.qn_model.specs.declared.times.Timing.{Timing}
use Rattle.qn_model.specs.declared.entries.What.{What}
use Rattle.qn_model.specs.declared.outputs.DiskOp.{DiskOp}
use Rattle.qn_model.specs.declared.outputs.DiskOp.TheVariants as disk
use Rattle.qn_model.specs.declared.packets.Packet.{Packet}
use Rattle.qn_model.specs.declared.packets.Sent.{Sent}
use Rattle.qn_model.specs.Log.{op_out}
use Rattle.qn_model.specs.Moments.{Running, node, packets, time}
use Rattle.qn_wire.specs.Reading.{packet_of}
use Rattle.qn_parts.specs.Parts.{is_good_on}
use Rattle.qn_safety.specs.declared.part.Part.{Part}
use Rattle.qn_safety.specs.declared.part.Part.TheVariants.{Pending, Landed}
use Rattle.qn_safety.specs.declared.triple_event.TripleEvent.{TripleEvent}
use Rattle.qn_safety.specs.TripleNumbers.{AllMayTriple}
use Rattle.qn_safety.specs.TripleRules.{is_image, none_pending}
use Rattle.qn_safety.specs.TripleSteps.{run_triple}
use Rattle.qn_safety.specs.TripleWorld.{TripleWorld, answer_of, good_after, image_of, is_pending}
use Rattle.qn_live.specs.Performing.{disk_call, done}
use Rattle.qn_live.specs.TripleDisk.{Told, part_of}
use Rattle.qn_live.specs.TripleRuns.{all_good}
use Rattle.qn_joined.specs.Joints.{FitsImage, counts, is_disk, waits_for}
use Rattle.qn_joined.specs.Nodes.{is_looking}
use Rattle.qn_joined.specs.TripleJoints as joints
use Rattle.qn_joined.specs.TripleJoints.{MayHappenTriple, TripleHappening, TripleHost, TripleJoint, call_on_three, happens_triple}
use Rattle.qn_joined.specs.TripleWorldOf.{IsHeld, IsHonest, IsLeft, ToldBy, image_before, none_told, on_image, told_also}
use Rattle.qn_joined.specs.WorldOf.{AreAmong, IsImage, IsNode, WasSentTo, disk_ahead}

-- the parts of an operation in the world are what each image told
abbrev pub AllAre : ToldBy → (ℕ → Part) → Type 0
AllAre by parts = (parts 1 ≡ by.one) × (parts 2 ≡ by.two) × (parts 3 ≡ by.three)

-- the part on the image that is asked: the call took this where it landed
abbrev pub PartHere : Settings → Timing → DiskOp → Option (List ℕ) → Part → Type 0
PartHere s t op None part = part ≡ Pending
PartHere s t op (Some bytes) part = (part ≡ Landed (done s op bytes)) × IsHeld s t op (done s op bytes)

-- the same, with those on the other images, by how many images follow
abbrev pub PartsAre : Settings → Timing → DiskOp → ℕ → Option (List ℕ) → ToldBy → (ℕ → Part) → Type 0
PartsAre s t op zero took by parts = PartHere s t op took (parts 3) × (parts 1 ≡ by.one) × (parts 2 ≡ by.two)
PartsAre s t op (suc zero) took by parts = PartHere s t op took (parts 2) × (parts 1 ≡ by.one) × (parts 3 ≡ by.three)
PartsAre s t op (suc (suc more)) took by parts = PartHere s t op took (parts 1) × (parts 2 ≡ by.two) × (parts 3 ≡ by.three)

-- the last so many images told nothing so far
abbrev pub AreSilent : ℕ → ToldBy → Type 0
AreSilent zero by = Unit {0}
AreSilent (suc zero) by = by.three ≡ Pending
AreSilent (suc (suc zero)) by = (by.three ≡ Pending) × (by.two ≡ Pending)
AreSilent (suc (suc (suc more))) by = (by.three ≡ Pending) × (by.two ≡ Pending) × (by.one ≡ Pending)

-- an operation is asked of an image, after which so many follow
pub record IsAsking (s : Settings) (t : Timing) (rank : ℕ) (op : DiskOp) (good : List Bool) (took : Option (List ℕ)) (parts : ℕ → Part) (call : Plan Told) : Type 0 where
  pub number : ℕ
  pub images : ℕ
  pub few : images < 3
  pub by : ToldBy
  pub more : Call → Plan Told
  pub asks : call ≡ plans.Asks (on_image (image_before images) (disk_call s rank number op)) more
  pub next : (made : Call)
      → blank made ≡ on_image (image_before images) (disk_call s rank number op)
      → IsHonest s t op made
      → IsLeft s t rank number op good images (told_also images (part_of s op made) by) (more made)
  pub are : PartsAre s t op images took by parts
  pub silent : AreSilent (suc images) by

-- what an operation that is ahead of a host told so far: nothing, or it is under way
abbrev pub IsAhead : Settings → Timing → ℕ → TripleHost → DiskOp → (ℕ → Part) → Type 0
IsAhead s t rank host op parts =
    (AllAre none_told parts × (host.took ≡ None) × (host.call ≡ call_on_three s rank host.good host.one))
    ⊎ ((asking : IsAsking s t rank op host.good host.took parts host.call)
    × (waits_for s rank host.one ≡ Some (disk_call s rank asking.number op)))

-- the images told this together of the operation that is out
pub record WasTold (n : Running) (parts : ℕ → Part) (good : ℕ → Bool) (answer : What) : Type 0 where
  pub op : DiskOp
  pub out : op_out n.log ≡ Some op
  pub over : none_pending (λ image. is_pending (parts image)) ≡ true
  pub same : answer ≡ answer_of op parts good

-- the good images of the run: those that the world has once the operation that was told is answered
abbrev pub good_told : Option DiskOp → Option What → (ℕ → Part) → (ℕ → Bool) → ℕ → Bool
good_told None took parts good image = good image
good_told (Some op) None parts good image = good image
good_told (Some op) (Some answer) parts good image = good_after op parts good image

-- A host and the node of the world that it is. A clear that failed ends the boot, and its good images no longer count. Of the node are given its parts, leftovers and good images
pub record IsNodeOnThree (s : Settings) (t : Timing) (rank : ℕ) (host : TripleHost) (n : Running) (parts : ℕ → Part) (left : ℕ → List DiskOp) (good : ℕ → Bool) (all : List Sent) : Type 0 where
  pub took : Option What
  pub one : IsNode s rank host.one n took [] all
  pub told : (answer : What) → took ≡ Some answer → WasTold n parts good answer
  pub plain : (host.one.took ≡ None) × (host.one.left ≡ [])
  pub three : host.good ≡ is_good_on host.good 1 ∷ is_good_on host.good 2 ∷ is_good_on host.good 3 ∷ []
  pub goods : n.on ≡ true
      → (op_out n.log ≡ Some disk.WriteClear → disk_ahead host.one.stand.spot ≡ None → is_some took ≡ true)
      → (image : ℕ)
      → is_image image ≡ true
      → is_good_on host.good image ≡ good_told (op_out n.log) took parts good image
  pub silent : n.on ≡ true → op_out n.log ≡ None → AllAre none_told parts
  pub ahead : n.on ≡ true → (op : DiskOp) → disk_ahead host.one.stand.spot ≡ Some op → IsAhead s t rank host op parts
  pub idle : host.one.on ≡ true → disk_ahead host.one.stand.spot ≡ None
      → (host.took ≡ None) × (host.call ≡ call_on_three s rank host.good host.one)
  pub among : (image : ℕ) → AreAmong s rank (host.left image) (left image)
  pub fresh : host.one.on ≡ true → host.one.asked ≡ false → (host.good ≡ all_good) × ((image : ℕ) → host.left image ≡ [])

-- the joint is this world
pub record IsTripleWorld (s : Settings) (t : Timing) (j : TripleJoint) (w : TripleWorld) : Type 0 where
  pub time : time w.moments ≡ j.time
  pub nodes : (rank : ℕ) → rank < length s.nodes
      → IsNodeOnThree s t rank (j.hosts rank) (node s rank w.moments) (w.parts rank) (w.left rank) (w.good rank) (packets s w.moments)
  pub off : (rank : ℕ) → length s.nodes ≤ rank → (j.hosts rank).one.on ≡ false
  pub fed : (rank : ℕ) → (j.hosts rank).one.fed ≤ j.time
  pub bare : (rank : ℕ) → length s.nodes ≤ rank → (image : ℕ) → (j.hosts rank).left image ≡ []
  pub images : (image : ℕ) → is_image image ≡ true → IsImage s t (j.images image) (image_of image w)
  pub sent : (to : ℕ) (bytes : List ℕ) (p : Packet) → Contains j.sent (to, bytes) → packet_of bytes ≡ Some p → counts (Some p) ≡ true
      → WasSentTo to (packets s w.moments) p

-- events that may happen led to a world that the joint is
pub record HasTripleWorld (s : Settings) (t : Timing) (j : TripleJoint) : Type 0 where
  pub events : List TripleEvent
  pub may : AllMayTriple s t events
  pub world : IsTripleWorld s t j (run_triple s t events)

-- where a joint has a world, it has one after what happened
abbrev pub KeepsAWorld : Settings → Timing → TripleHappening → Type 0
KeepsAWorld s t happening =
    (j : TripleJoint)
    → FitsImage s t
    → HasTripleWorld s t j
    → MayHappenTriple s t happening j
    → HasTripleWorld s t (happens_triple s happening j)

-- the same after a call returned that is none of the disk, of a host that does not look at its clock
abbrev pub ReturnsPlainly : Settings → Timing → ℕ → Call → Type 0
ReturnsPlainly s t rank made =
    (j : TripleJoint)
    → FitsImage s t
    → HasTripleWorld s t j
    → MayHappenTriple s t (joints.Returns rank made) j
    → is_disk made ≡ false
    → is_looking (j.hosts rank).one.stand.spot ≡ false
    → HasTripleWorld s t (happens_triple s (joints.Returns rank made) j)

-- the same after a look at the clock returned, of a process that has looked before
abbrev pub ReturnsALook : Settings → Timing → ℕ → Call → Type 0
ReturnsALook s t rank made =
    (j : TripleJoint)
    → FitsImage s t
    → HasTripleWorld s t j
    → MayHappenTriple s t (joints.Returns rank made) j
    → is_looking (j.hosts rank).one.stand.spot ≡ true
    → HasTripleWorld s t (happens_triple s (joints.Returns rank made) j)
