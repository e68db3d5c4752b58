-- When the others have the view of their leader, and a majority of them an owner. This project's profile.
use Rattle.std.specs.Prelude.{◌≡◌, ◌+◌, ◌*◌, ◌<◌, ◌≤◌, ℕ, true, false, max, List, ◌∷◌, ◌++◌, length, Some}
use Rattle.qn_base.specs.declared.ids.Mask.{Mask}
use Rattle.qn_base.specs.declared.ids.View.{View}
use Rattle.qn_base.specs.Members.{is_member}
use Rattle.qn_model.specs.declared.configuration.Settings.{Settings}
use Rattle.qn_model.specs.declared.times.Timing.{Timing}
use Rattle.qn_model.specs.Moments.{Before}
use Rattle.qn_member.specs.Maker.{has_configured}
use Rattle.qn_member.specs.NamingViews.{after_look, may_not_start}
use Rattle.qn_progress.specs.Pace.{Pace, outside}
use Rattle.qn_joined.specs.Joints.{Happening, IsJoined, joint_after, runs_at}
use Rattle.qn_service.specs.Leaders.{EachLookIs, LooksAgree, SettlesIn, settle_ticks}
use Rattle.qn_service.specs.Announcements.{AnnouncementsAreOwn, announce_ticks}
use Rattle.qn_service.specs.Hellos.{LooksOften, StaysAwake, WordsCome}
use Rattle.qn_service.specs.KeptViews.{AgreeOnView, KeepsOneView}
use Rattle.qn_service.specs.Leading.{leader_then, names_then}
use Rattle.qn_service.specs.Looks.{LookOf}
use Rattle.qn_service.specs.NextLooks.{look_of_rank}
use Rattle.qn_service.specs.Serving.{MayServe, serving_ticks}
use Rattle.qn_service.specs.Unheard.{log_after}

-- a look of a node that may start finds this leader
pub record FindsLed (leader : ℕ) (look : LookOf) : Type 0 where
  pub leads : leader_then look.tick look.maker ≡ Some leader
  pub may : may_not_start look.maker ≡ false

-- One rank follows another one from an old joint to a new one: it is up, keeps its pace, looks often, and each look finds that one; what that
-- says comes in time, and its announcements are its own.
pub record FollowsLeader (s : Settings) (image : ℕ → List ℕ) (turn post gaze rank leader : ℕ) (old new : List Happening) : Type 0 where
  pub awake : StaysAwake s image turn rank old new
  pub looks : LooksOften s image gaze rank old new
  pub finds : EachLookIs s image rank (FindsLed leader) old new
  pub come : WordsCome s image post leader rank old new
  pub own : AnnouncementsAreOwn s image post leader rank old new

-- From an old joint to a new one a member keeps one view of configured members and leads, is up, keeps its pace and looks often, all that its looks
-- see know names, and each other member follows it.
pub record KeepsLeading (s : Settings) (image : ℕ → List ℕ) (turn post gaze leader : ℕ) (present : View) (old new : List Happening) : Type 0 where
  pub configured : (rank : ℕ) → is_member present.members rank ≡ true → rank < length s.nodes
  pub members : has_configured s.nodes present.members ≡ true
  pub member : is_member present.members leader ≡ true
  pub awake : StaysAwake s image turn leader old new
  pub looks : LooksOften s image gaze leader old new
  pub keeps : KeepsOneView s image leader leader present old new
  pub names : EachLookIs s image leader (λ look. names_then look.tick look.maker ≡ true) old new
  pub follows : (rank : ℕ) → is_member present.members rank ≡ true → ¬ (rank ≡ leader) → FollowsLeader s image turn post gaze rank leader old new

-- by then the view was announced, the leader led for four loops, and each member has looked since
abbrev pub follow_ticks : Timing → ℕ → ℕ → ℕ → ℕ
follow_ticks t turn post gaze = max (announce_ticks t turn post gaze) (4 * t.loop_ms + turn + gaze + 4)

-- each look of another one has left it with the view then
abbrev pub FollowersTakeIt : Settings → Timing → Type 0
FollowersTakeIt s t =
    (image : ℕ → List ℕ) (turn post gaze leader : ℕ) (present : View) (rank : ℕ) (newer older at : List Happening) (happening : Happening) (look : LookOf)
    → IsJoined s t image (newer ++ older)
    → KeepsLeading s image turn post gaze leader present older (newer ++ older)
    → is_member present.members rank ≡ true
    → ¬ (rank ≡ leader)
    → Before older at
    → Before (happening ∷ at) (newer ++ older)
    → look_of_rank s image rank happening at ≡ Some look
    → 100 * follow_ticks t turn post gaze + 99 * (joint_after s image older).time ≤ 99 * (joint_after s image at).time
    → (after_look look.tick look.maker).maker.view ≡ Some present

-- so from each joint on that is a look later the looks agree on the view
abbrev pub LooksComeToAgree : Settings → Timing → Type 0
LooksComeToAgree s t =
    (image : ℕ → List ℕ) (turn post gaze leader : ℕ) (present : View) (newer older at : List Happening)
    → IsJoined s t image (newer ++ older)
    → KeepsLeading s image turn post gaze leader present older (newer ++ older)
    → Before older at
    → Before at (newer ++ older)
    → 100 * (follow_ticks t turn post gaze + gaze + 2) + 99 * (joint_after s image older).time ≤ 99 * (joint_after s image at).time
    → AgreeOnView s image leader present at (newer ++ older)

-- and once the time of a take-over has passed since one of them a member runs the resource, with the premises of the chosen one from that joint on
abbrev pub NodesServe : Settings → Timing → Type 0
NodesServe s t =
    (image : ℕ → List ℕ) (pace : Pace) (turn post gaze leader rank : ℕ) (present : View) (newer older at : List Happening)
    → IsJoined s t image (newer ++ older)
    → KeepsLeading s image turn post gaze leader present older (newer ++ older)
    → Before older at
    → Before at (newer ++ older)
    → 100 * (follow_ticks t turn post gaze + gaze + 2) + 99 * (joint_after s image older).time ≤ 99 * (joint_after s image at).time
    → MayServe s t image pace post rank present at (newer ++ older)
    → 100 * serving_ticks t pace post (outside s (log_after s image at rank)) + 99 * (joint_after s image at).time
    ≤ 99 * (joint_after s image (newer ++ older)).time
    → (owner : ℕ) × (is_member present.members owner ≡ true) × (runs_at s image (newer ++ older) owner ≡ true)

-- ## Service

-- From an old joint to a new one these nodes are configured, their leader looks often, all that its looks see know names, and each other one follows it.
pub record AreLed (s : Settings) (image : ℕ → List ℕ) (turn post gaze : ℕ) (set : Mask) (leader : ℕ) (old new : List Happening) : Type 0 where
  pub configured : (rank : ℕ) → is_member set rank ≡ true → rank < length s.nodes
  pub members : has_configured s.nodes set ≡ true
  pub looks : LooksOften s image gaze leader old new
  pub names : EachLookIs s image leader (λ look. names_then look.tick look.maker ≡ true) old new
  pub follows : (rank : ℕ) → is_member set rank ≡ true → ¬ (rank ≡ leader) → FollowsLeader s image turn post gaze rank leader old new

-- Nodes whose looks agree from one joint on: their leader settles by the next one, they are led from then on, and have its view by the last. A majority of
-- them has an owner, one of them, the time of a take-over after that.
abbrev pub Service : Settings → Timing → Type 0
Service s t =
    (image : ℕ → List ℕ) (pace : Pace) (turn post gaze : ℕ) (set : Mask) (leader rank : ℕ) (newer older settled at : List Happening)
    → IsJoined s t image (newer ++ older)
    → LooksAgree s t image turn post gaze set leader older (newer ++ older)
    → SettlesIn s image turn gaze set leader older (newer ++ older)
    → Before older settled
    → Before settled at
    → Before at (newer ++ older)
    → 100 * settle_ticks t turn post gaze + 99 * (joint_after s image older).time ≤ 99 * (joint_after s image settled).time
    → AreLed s image turn post gaze set leader settled (newer ++ older)
    → 100 * (follow_ticks t turn post gaze + gaze + 2) + 99 * (joint_after s image settled).time ≤ 99 * (joint_after s image at).time
    → ((present : View) → present.members ≡ set → MayServe s t image pace post rank present at (newer ++ older))
    → 100 * serving_ticks t pace post (outside s (log_after s image at rank)) + 99 * (joint_after s image at).time
    ≤ 99 * (joint_after s image (newer ++ older)).time
    → (owner : ℕ) × (is_member set owner ≡ true) × (runs_at s image (newer ++ older) owner ≡ true)
