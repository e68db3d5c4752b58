-- The step of the world of three images at each event, its runs, and what an event reports: this project's profile.
use Rattle.std.specs.Prelude.{◌≡◌, ℕ, Bool, true, false, List, [], ◌∷◌, ◌++◌, None, Some}
use Rattle.std.specs.Option.{option_map_or}
use Rattle.qn_model.specs.declared.configuration.Settings.{Settings}
use Rattle.qn_model.specs.declared.times.Timing.{Timing}
use Rattle.qn_model.specs.declared.outputs.DiskOp.{DiskOp}
use Rattle.qn_model.specs.declared.events.Event.{Event}
use Rattle.qn_model.specs.declared.events.Event.TheVariants as event
use Rattle.qn_model.specs.declared.reports.Report.{Report}
use Rattle.qn_model.specs.Moments.{Moment, Adds, Boots, Ends}
use Rattle.qn_model.specs.World.{put, taken, numbered, without}
use Rattle.qn_model.specs.Steps.{step, report}
use Rattle.qn_safety.specs.declared.triple_event.TripleEvent.{TripleEvent}
use Rattle.qn_safety.specs.declared.triple_event.TripleEvent.TheVariants as triple
use Rattle.qn_safety.specs.declared.part.Part.TheVariants.{Landed, Failed}
use Rattle.qn_safety.specs.TripleWorld.{TripleWorld, first_triple, all_pending, all_good, none_left, put_on, image_of, nodes_of, op_of, leaves_over, answer_of, good_after, slots_on, mailboxes_on}
use Rattle.qn_safety.specs.TripleRules.{is_well_formed_triple, refusal_triple}

-- the world after one more moment that touches nothing of the images
abbrev pub happens_triple : Moment → TripleWorld → TripleWorld
happens_triple moment w = record w { moments = moment ∷ w.moments }

-- a write of a rank lands on an image
abbrev pub written_on : ℕ → ℕ → DiskOp → TripleWorld → TripleWorld
written_on rank image op w =
    record w { slots = slots_on rank image op w.slots; mailboxes = mailboxes_on rank image op w.mailboxes }

-- the part of an operation of a rank lands on an image: a read takes the value of its sector there
abbrev pub landed_on : Settings → Timing → ℕ → ℕ → DiskOp → TripleWorld → TripleWorld
landed_on s t rank image op w =
    record (written_on rank image op w) { parts = put_on w.parts rank image (Landed (taken s t rank op (image_of image w))) }

-- the part of an operation of a rank fails on an image: a write that did not land there is left over
abbrev pub failed_on : ℕ → ℕ → DiskOp → TripleWorld → TripleWorld
failed_on rank image op w =
    record w {
      parts = put_on w.parts rank image Failed;
      left = put_on w.left rank image (w.left rank image ++ leaves_over (Some op) (w.parts rank image));
    }

-- the operation of a rank is answered by its parts
abbrev pub done_triple : ℕ → DiskOp → TripleWorld → TripleWorld
done_triple rank op w =
    record (happens_triple (Adds rank (answer_of op (w.parts rank) (w.good rank))) w) {
      parts = put w.parts rank all_pending;
      good = put w.good rank (good_after op (w.parts rank) (w.good rank));
    }

-- a rank goes off: each pending write is left over on its image
abbrev pub ends_triple : Settings → ℕ → TripleWorld → TripleWorld
ends_triple s rank w =
    record (happens_triple (Ends rank) w) {
      parts = put w.parts rank all_pending;
      left = put w.left rank (λ image. w.left rank image ++ leaves_over (op_of s rank w) (w.parts rank image));
    }

-- a rank boots: its leftovers are dropped, and all images are good ones until its clear is answered
abbrev pub boots_triple : ℕ → ℕ → Bool → TripleWorld → TripleWorld
boots_triple rank base clean w =
    record (happens_triple (Boots rank base clean) w) {
      parts = put w.parts rank all_pending;
      left = put w.left rank none_left;
      good = put w.good rank all_good;
    }

-- the leftover of a rank with that number on an image lands there and leaves the list
abbrev pub lands_late_on : ℕ → ℕ → ℕ → DiskOp → TripleWorld → TripleWorld
lands_late_on rank image number op w =
    record (written_on rank image op w) { left = put_on w.left rank image (without (w.left rank image) number) }

-- an event that touches no image is to the nodes what it is in the world of one image
abbrev pub moves_nodes : Settings → Timing → Event → TripleWorld → TripleWorld
moves_nodes s t event w = record w { moments = (step s t event (nodes_of w)).moments }

-- the world after an event that names no image; Land, Fail, Late and Operator are allowed in no world of three images
abbrev pub step_of_one : Settings → Timing → Event → TripleWorld → TripleWorld
step_of_one s t (event.Land rank) w = w
step_of_one s t (event.Fail rank) w = w
step_of_one s t (event.Late rank number) w = w
step_of_one s t (event.Operator rank message) w = w
step_of_one s t (event.Boot rank base) w = boots_triple rank.0 base false w
step_of_one s t (event.BootClean rank base) w = boots_triple rank.0 base true w
step_of_one s t (event.Crash rank) w = ends_triple s rank.0 w
step_of_one s t (event.Done rank) w = option_map_or (λ op. done_triple rank.0 op w) (op_of s rank.0 w) w
step_of_one s t (event.Pass dt clocks) w = moves_nodes s t (event.Pass dt clocks) w
step_of_one s t (event.View rank view) w = moves_nodes s t (event.View rank view) w
step_of_one s t (event.Deliver rank number) w = moves_nodes s t (event.Deliver rank number) w
step_of_one s t (event.Device rank agrees) w = moves_nodes s t (event.Device rank agrees) w
step_of_one s t (event.Tick rank) w = moves_nodes s t (event.Tick rank) w
step_of_one s t (event.Stopped rank) w = moves_nodes s t (event.Stopped rank) w
step_of_one s t (event.Unstopped rank) w = moves_nodes s t (event.Unstopped rank) w
step_of_one s t (event.Leave rank) w = moves_nodes s t (event.Leave rank) w
step_of_one s t (event.Feed rank) w = moves_nodes s t (event.Feed rank) w

-- the world after an event
unfoldable pub step_triple : Settings → Timing → TripleEvent → TripleWorld → TripleWorld
step_triple s t (triple.One event) w = step_of_one s t event w
step_triple s t (triple.LandOn rank image) w = option_map_or (λ op. landed_on s t rank.0 image op w) (op_of s rank.0 w) w
step_triple s t (triple.FailOn rank image) w = option_map_or (λ op. failed_on rank.0 image op w) (op_of s rank.0 w) w
step_triple s t (triple.LateOn rank image number) w =
    option_map_or (λ op. lands_late_on rank.0 image number op w) (numbered (w.left rank.0 image) number) w
step_triple s t (triple.OperatorOn rank image message) w =
    record w { mailboxes = put_on w.mailboxes rank.0 image message }

-- the world after events, of which the newest stands first
unfoldable pub run_triple : Settings → Timing → List TripleEvent → TripleWorld
run_triple s t [] = first_triple
run_triple s t (event ∷ earlier) = step_triple s t event (run_triple s t earlier)

-- each of the events, of which the newest stands first, is well formed and allowed in its turn
unfoldable pub AllAllowedTriple : Settings → Timing → List TripleEvent → Type 0
AllAllowedTriple s t [] = Unit {0}
AllAllowedTriple s t (event ∷ earlier) =
    (is_well_formed_triple s event ≡ true) × (refusal_triple s t event (run_triple s t earlier) ≡ None) × AllAllowedTriple s t earlier

-- the event of the world of one image that touches the same node in the same way, to its trace
abbrev pub as_one : TripleEvent → Event
as_one (triple.One event) = event
as_one (triple.LandOn rank image) = event.Land rank
as_one (triple.FailOn rank image) = event.Land rank
as_one (triple.LateOn rank image number) = event.Late rank number
as_one (triple.OperatorOn rank image message) = event.Operator rank message

-- what an event reports, by the world after it. A part that fails hands its node no entry.
unfoldable pub report_triple : Settings → TripleEvent → TripleWorld → Report
report_triple s event after = report s (as_one event) (nodes_of after)
