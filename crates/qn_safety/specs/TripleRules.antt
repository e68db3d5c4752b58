-- Which events of the world of three images are well formed, and which a rule of the world refuses: this project's profile.
-- The rules have the numbers that they have in the world of one image.
use Rattle.std.specs.Prelude.{ℕ, Bool, Option, Some, ◌&&◌, not, is_some}
use Rattle.qn_base.specs.declared.limits.TheConstants.{MOST_EVENTS}
use Rattle.qn_model.specs.declared.configuration.Settings.{Settings}
use Rattle.qn_model.specs.declared.times.Timing.{Timing}
use Rattle.qn_model.specs.declared.events.Event.{Event}
use Rattle.qn_model.specs.declared.events.Event.TheVariants as event
use Rattle.qn_model.specs.Rules.{is_between, is_configured, is_on, is_well_formed, may_be_late, may_operate, refusal, unless, unless_running}
use Rattle.qn_safety.specs.declared.triple_event.TripleEvent.{TripleEvent}
use Rattle.qn_safety.specs.declared.triple_event.TripleEvent.TheVariants as triple
use Rattle.qn_safety.specs.TripleWorld.{TripleWorld, image_of, nodes_of, op_of, is_pending, has_failed}

abbrev pub is_image : ℕ → Bool
is_image image = is_between 1 3 image

-- an event is well formed: its numbers are in range, and its ranks and members are configured
unfoldable pub is_well_formed_triple : Settings → TripleEvent → Bool
is_well_formed_triple s (triple.One event) = is_well_formed s event
is_well_formed_triple s (triple.LandOn rank image) = is_configured s rank.0 && is_image image
is_well_formed_triple s (triple.FailOn rank image) = is_configured s rank.0 && is_image image
is_well_formed_triple s (triple.LateOn rank image number) =
    is_configured s rank.0 && is_image image && is_between 1 MOST_EVENTS number
is_well_formed_triple s (triple.OperatorOn rank image message) = is_configured s rank.0 && is_image image

-- whether the node of a rank is running
abbrev pub is_on_triple : Settings → ℕ → TripleWorld → Bool
is_on_triple s rank w = is_on s rank (nodes_of w)

-- rule 4: an operation is out, and its part on the image is pending
abbrev pub may_land_on : Settings → ℕ → ℕ → TripleWorld → Bool
may_land_on s rank image w = is_some (op_of s rank w) && is_pending (w.parts rank image)

-- rule 5: an operation is out, and its part on the image has not failed; or an operation is out, and no part is pending
abbrev pub may_fail_on : Settings → ℕ → ℕ → TripleWorld → Bool
may_fail_on s rank image w = is_some (op_of s rank w) && not (has_failed (w.parts rank image))

abbrev pub none_pending : (ℕ → Bool) → Bool
none_pending pending = not (pending 1) && not (pending 2) && not (pending 3)

abbrev pub may_be_done_triple : Settings → ℕ → TripleWorld → Bool
may_be_done_triple s rank w = is_some (op_of s rank w) && none_pending (λ image. is_pending (w.parts rank image))

-- rule 3 and then another one
abbrev pub unless_off : Settings → ℕ → TripleWorld → Option ℕ → Option ℕ
unless_off s rank w other = unless_running s rank (nodes_of w) other

-- the rule that refuses an event which names no image. Land, Fail, Late and Operator name one: they are refused as such. The
-- rules of the other events look at the nodes alone.
abbrev pub refusal_of_one : Settings → Timing → Event → TripleWorld → Option ℕ
refusal_of_one s t (event.Land rank) w = unless_off s rank.0 w (Some 4)
refusal_of_one s t (event.Fail rank) w = unless_off s rank.0 w (Some 5)
refusal_of_one s t (event.Late rank number) w = Some 6
refusal_of_one s t (event.Operator rank message) w = Some 10
refusal_of_one s t (event.Done rank) w = unless_off s rank.0 w (unless (may_be_done_triple s rank.0 w) 5)
refusal_of_one s t (event.Pass dt clocks) w = refusal s t (event.Pass dt clocks) (nodes_of w)
refusal_of_one s t (event.Boot rank base) w = refusal s t (event.Boot rank base) (nodes_of w)
refusal_of_one s t (event.BootClean rank base) w = refusal s t (event.BootClean rank base) (nodes_of w)
refusal_of_one s t (event.Crash rank) w = refusal s t (event.Crash rank) (nodes_of w)
refusal_of_one s t (event.View rank view) w = refusal s t (event.View rank view) (nodes_of w)
refusal_of_one s t (event.Deliver rank number) w = refusal s t (event.Deliver rank number) (nodes_of w)
refusal_of_one s t (event.Device rank agrees) w = refusal s t (event.Device rank agrees) (nodes_of w)
refusal_of_one s t (event.Tick rank) w = refusal s t (event.Tick rank) (nodes_of w)
refusal_of_one s t (event.Stopped rank) w = refusal s t (event.Stopped rank) (nodes_of w)
refusal_of_one s t (event.Unstopped rank) w = refusal s t (event.Unstopped rank) (nodes_of w)
refusal_of_one s t (event.Leave rank) w = refusal s t (event.Leave rank) (nodes_of w)
refusal_of_one s t (event.Feed rank) w = refusal s t (event.Feed rank) (nodes_of w)

-- the number of the rule that refuses an event, None where it is allowed. Rule 6: there is a leftover of that number on the
-- image. Rule 10: the message is deadly, or the mailbox of the image holds no deadly one, or the node is off.
unfoldable pub refusal_triple : Settings → Timing → TripleEvent → TripleWorld → Option ℕ
refusal_triple s t (triple.One event) w = refusal_of_one s t event w
refusal_triple s t (triple.LandOn rank image) w = unless_off s rank.0 w (unless (may_land_on s rank.0 image w) 4)
refusal_triple s t (triple.FailOn rank image) w = unless_off s rank.0 w (unless (may_fail_on s rank.0 image w) 5)
refusal_triple s t (triple.LateOn rank image number) w = unless (may_be_late rank.0 number (image_of image w)) 6
refusal_triple s t (triple.OperatorOn rank image message) w = unless (may_operate s rank.0 message (image_of image w)) 10
