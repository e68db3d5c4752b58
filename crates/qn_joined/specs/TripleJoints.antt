-- Running nodes on three images that share one outside: three images, one network, true time, and a watchdog each. What is said
-- of one image in Joints holds of each of the three; each call of a run on one image is made on the three. This project's profile.
use Rattle.std.specs.Prelude.{◌≡◌, ◌<◌, ◌≤◌, ℕ, Bool, true, false, not, ◌&&◌, ◌||◌, ◌+◌, nat_le, nat_lt, List, [], ◌∷◌, ◌++◌, Option, None, Some, is_some, length, if◌then◌else◌}
use Rattle.std.specs.Option.{option_map_or}
use Rattle.std.specs.List.{list_all}
use Rattle.qn_base.specs.declared.calls.Call.{Call}
use Rattle.qn_base.specs.declared.calls.Call.TheVariants as call
use Rattle.qn_base.specs.declared.ids.Rank.{Rank}
use Rattle.qn_base.specs.Calls.{blank}
use Rattle.qn_base.specs.Plans as plans
use Rattle.qn_base.specs.Plans.{Plan, ◌>>=◌, question}
use Rattle.qn_model.specs.declared.configuration.Settings.{Settings}
use Rattle.qn_model.specs.declared.disk.Message.{Message}
use Rattle.qn_model.specs.declared.times.Timing.{Timing}
use Rattle.qn_model.specs.Moments.{advance_of}
use Rattle.qn_model.specs.Sectors.{anonymous, is_deadly, mail_bytes, mail_place}
use Rattle.qn_model.specs.World.{numbered, put, without}
use Rattle.qn_wire.specs.Packets.{is_well_formed}
use Rattle.qn_safety.specs.TripleRules.{is_image}
use Rattle.qn_live.specs.Running.{Ran}
use Rattle.qn_live.specs.TripleDisk.{Told, call_plan}
use Rattle.qn_live.specs.TripleMachine.{goes_on}
use Rattle.qn_live.specs.TripleRuns.{all_good, on_three}
use Rattle.qn_joined.specs.Joints.{FitsImage, Host, IsNewImage, MayAnswer, began, given_up_by, host_passes, is_deadly_mail, is_disk, is_timed, landed_image, looked_first, never_on, packet_said, returned, sent_by, takes, waits_for}
use Rattle.qn_joined.specs.Stands.{plan_at}

-- One host. `one` is the host of the run on one image, each call of which is made on three: it took nothing and left nothing
-- over, which stands here by image. `good` are the good images; `call` is what is left of the call on three; `took` is what
-- the disk call took where it landed, on the image that it is made on; `left` are by image the writes that were given up
-- before they landed there, oldest first, each as the write on one image.
pub record TripleHost : Type 0 where
  pub one : Host
  pub good : List Bool
  pub call : Plan Told
  pub took : Option (List ℕ)
  pub left : ℕ → List Call

-- all hosts and what they share: by image its sectors, and each packet that was ever sent, with its receiver
pub record TripleJoint : Type 0 where
  pub time : ℕ
  pub hosts : ℕ → TripleHost
  pub images : ℕ → ℕ → List ℕ
  pub sent : List (ℕ × List ℕ)

-- What happens at one moment: as over one image, but a write that was given up, and an operator's, name their image.
pub data TripleHappening : Type 0 where
  Passes : ℕ → List (Rank × ℕ) → TripleHappening
  Begins : ℕ → Bool → Option ℕ → Option ℕ → ℕ → TripleHappening
  Looks : ℕ → ℕ → TripleHappening
  -- the disk call that a rank waits for lands, on the image that it names
  Lands : ℕ → TripleHappening
  Returns : ℕ → Call → TripleHappening
  Feeds : ℕ → TripleHappening
  LandsLate : ℕ → ℕ → ℕ → TripleHappening
  Ends : ℕ → TripleHappening
  Operates : ℕ → ℕ → Message → TripleHappening

-- the call on three images that a host makes; a run that is over makes none
abbrev pub call_on_three : Settings → ℕ → List Bool → Host → Plan Told
call_on_three s rank good host =
    option_map_or (call_plan s rank good) (waits_for s rank host) (plans.Ends (call.Now 0, good))

-- what is left of the run of a host, by what is left of its run on one image
abbrev pub plan_left : Settings → ℕ → TripleHost → Plan Ran
plan_left s rank host =
    let one = plan_at s rank host.one.leave host.one.stand in
    option_map_or (λ asked. host.call >>= goes_on s rank one) (question one) (on_three s rank host.good one)

-- the image of a sector: sector s of image K, 1 to 3, has the number 1024 * (K - 1) + s
abbrev pub image_of_sector : ℕ → ℕ
image_of_sector sector = if nat_lt sector 1024 then 1 else (if nat_lt sector 2048 then 2 else 3)

-- the image that a call is made on; 0: it is on none
abbrev pub image_named : Call → ℕ
image_named (call.Read sector bytes ok) = image_of_sector sector
image_named (call.Write sector bytes ok) = image_of_sector sector
image_named other = 0

abbrev pub image_waited : TripleHost → ℕ
image_waited host = option_map_or image_named (question host.call) 0

-- what the disk call that a host waits for leaves over where it is given up, and by image all that is left over then
abbrev pub given_up_now : Settings → ℕ → TripleHost → List Call
given_up_now s rank host =
    if option_map_or is_disk (question host.call) false then given_up_by (waits_for s rank host.one) host.took else []

abbrev pub gives_up : Settings → ℕ → TripleHost → ℕ → List Call
gives_up s rank host =
    put host.left (image_waited host) (host.left (image_waited host) ++ given_up_now s rank host)

-- a host before its first process
abbrev pub never_on_triple : TripleHost
never_on_triple =
    record { one = never_on; good = all_good; call = plans.Ends (call.Now 0, all_good); took = None; left = λ image. [] }

-- a run on one image that stands at its next call, which is made on three
abbrev pub stands_at : Settings → ℕ → List Bool → Host → TripleHost → TripleHost
stands_at s rank good one host =
    record host { one = one; good = good; call = call_on_three s rank good one; took = None }

abbrev pub began_triple : Settings → ℕ → Bool → Option ℕ → Option ℕ → ℕ → ℕ → TripleHost
began_triple s rank clean leave polls turns time = stands_at s rank all_good (began clean leave polls turns time) never_on_triple

abbrev pub looked_first_triple : Settings → ℕ → ℕ → ℕ → TripleHost → TripleHost
looked_first_triple s rank base time host =
    stands_at s rank host.good (looked_first s rank base time host.one) host

-- the call on one image returns with what three told
abbrev pub returned_one : Settings → ℕ → Call → ℕ → Host → Host
returned_one s rank made time host = record (returned s rank made time host) { took = None; left = [] }

-- a call returned, and this is left of the call on three: once nothing is, the call on one image returns
abbrev pub returned_by : Settings → ℕ → ℕ → TripleHost → Plan Told → TripleHost
returned_by s rank time host (plans.Ends told) =
    stands_at s rank told.1 (returned_one s rank told.0 time host.one) host
returned_by s rank time host (plans.Asks asked more) = record host { call = plans.Asks asked more; took = None }

unfoldable pub returned_triple : Settings → ℕ → Call → ℕ → TripleHost → TripleHost
returned_triple s rank made time host =
    returned_by s rank time (record host { left = gives_up s rank host }) (plans.left host.call made)

abbrev pub ended_triple : Settings → ℕ → TripleHost → TripleHost
ended_triple s rank host =
    record host { one = record host.one { on = false; runs = false }; took = None; left = gives_up s rank host }

abbrev pub with_triple : ℕ → TripleHost → TripleJoint → TripleJoint
with_triple rank host j = record j { hosts = put j.hosts rank host }

pub record MayReturnTriple (s : Settings) (rank : ℕ) (made : Call) (j : TripleJoint) : Type 0 where
  pub on : (j.hosts rank).one.on ≡ true
  pub asked : (j.hosts rank).one.asked ≡ true
  pub waits : question (j.hosts rank).call ≡ Some (blank made)
  pub answer : MayAnswer rank (record (j.hosts rank).one { took = (j.hosts rank).took }) j.sent made
  -- a packet is sent only while its numbers fit their bytes
  pub spells : option_map_or is_well_formed (packet_said (j.hosts rank).one.stand.spot) true ≡ true

-- What may happen: the premises of the theorem, one rule each. Each of the images may fail, lag behind and come back.
abbrev pub MayHappenTriple : Settings → Timing → TripleHappening → TripleJoint → Type 0
MayHappenTriple s t (Passes dt clocks) j =
    ((rank : ℕ) → rank < length s.nodes → host_passes s t dt (advance_of dt clocks rank) j.time (j.hosts rank).one ≡ true)
    × (list_all (λ clock. is_timed s (j.hosts clock.0.0).one) clocks ≡ true)
MayHappenTriple s t (Begins rank clean leave polls turns) j =
    (rank < length s.nodes) × (1 ≤ turns) × ((j.hosts rank).one.on ≡ false)
MayHappenTriple s t (Looks rank base) j =
    ((j.hosts rank).one.on ≡ true)
    × ((j.hosts rank).one.asked ≡ false)
    × (waits_for s rank (j.hosts rank).one ≡ Some (call.Now 0))
MayHappenTriple s t (Lands rank) j =
    ((j.hosts rank).one.on ≡ true)
    × (option_map_or is_disk (question (j.hosts rank).call) false ≡ true)
    × ((j.hosts rank).took ≡ None)
MayHappenTriple s t (Returns rank made) j = MayReturnTriple s rank made j
MayHappenTriple s t (Feeds rank) j =
    ((j.hosts rank).one.on ≡ true)
    × (option_map_or (λ decided. nat_le j.time (decided + t.feed_delay)) (j.hosts rank).one.decided false ≡ true)
MayHappenTriple s t (LandsLate rank image number) j =
    (is_image image ≡ true) × (is_some (numbered ((j.hosts rank).left image) number) ≡ true)
MayHappenTriple s t (Ends rank) j = (j.hosts rank).one.on ≡ true
MayHappenTriple s t (Operates rank image sent) j =
    (rank < length s.nodes)
    × (is_image image ≡ true)
    × ((is_deadly sent || not (is_deadly_mail (j.images image (mail_place rank))) || not (j.hosts rank).one.on) ≡ true)

-- the clock of a host after time passed
abbrev pub host_after : ℕ → Host → Host
host_after advance host =
    record host { clock = (if host.asked then host.clock + advance else host.clock) }

-- the joint after what happened
unfoldable pub happens_triple : Settings → TripleHappening → TripleJoint → TripleJoint
happens_triple s (Passes dt clocks) j =
    record j {
      time = j.time + dt;
      hosts = λ rank. record (j.hosts rank) { one = host_after (advance_of dt clocks rank) (j.hosts rank).one };
    }
happens_triple s (Begins rank clean leave polls turns) j =
    with_triple rank (began_triple s rank clean leave polls turns j.time) j
happens_triple s (Looks rank base) j =
    with_triple rank (looked_first_triple s rank base j.time (j.hosts rank)) j
happens_triple s (Lands rank) j =
    let image = image_waited (j.hosts rank) in
    option_map_or
    (λ waiting. record (with_triple rank (record (j.hosts rank) { took = Some (takes waiting (j.images image)) }) j) { images = put j.images image (landed_image waiting (j.images image)) })
    (waits_for s rank (j.hosts rank).one)
    j
happens_triple s (Returns rank made) j =
    record (with_triple rank (returned_triple s rank made j.time (j.hosts rank)) j) { sent = j.sent ++ sent_by made }
happens_triple s (Feeds rank) j =
    with_triple rank (record (j.hosts rank) { one = record (j.hosts rank).one { fed = j.time } }) j
happens_triple s (LandsLate rank image number) j =
    option_map_or
    (λ write. record (with_triple rank (record (j.hosts rank) { left = put (j.hosts rank).left image (without ((j.hosts rank).left image) number) }) j) { images = put j.images image (landed_image write (j.images image)) })
    (numbered ((j.hosts rank).left image) number)
    j
happens_triple s (Ends rank) j = with_triple rank (ended_triple s rank (j.hosts rank)) j
happens_triple s (Operates rank image sent) j =
    record j { images = put j.images image (put (j.images image) (mail_place rank) (mail_bytes (anonymous sent))) }

abbrev pub first_triple_joint : (ℕ → ℕ → List ℕ) → TripleJoint
first_triple_joint images = record { time = 0; hosts = λ rank. never_on_triple; images = images; sent = [] }

-- the joint after happenings, of which the newest stands first
unfoldable pub triple_joint_after : Settings → (ℕ → ℕ → List ℕ) → List TripleHappening → TripleJoint
triple_joint_after s images [] = first_triple_joint images
triple_joint_after s images (newest ∷ earlier) = happens_triple s newest (triple_joint_after s images earlier)

-- each of the happenings may happen in its turn
unfoldable pub AllMayHappenTriple : Settings → Timing → (ℕ → ℕ → List ℕ) → List TripleHappening → Type 0
AllMayHappenTriple s t images [] = Unit {0}
AllMayHappenTriple s t images (newest ∷ earlier) =
    MayHappenTriple s t newest (triple_joint_after s images earlier) × AllMayHappenTriple s t images earlier

-- running nodes on three images over one outside, that began on new images
pub record IsTripleJoined (s : Settings) (t : Timing) (images : ℕ → ℕ → List ℕ) (happenings : List TripleHappening) : Type 0 where
  pub fits : FitsImage s t
  pub created : (image : ℕ) → is_image image ≡ true → IsNewImage s t (images image)
  pub may : AllMayHappenTriple s t images happenings

-- the resource of a rank runs, or may
abbrev pub triple_runs_at : Settings → (ℕ → ℕ → List ℕ) → List TripleHappening → ℕ → Bool
triple_runs_at s images happenings rank =
    let host = ((triple_joint_after s images happenings).hosts rank).one in host.on && host.runs
