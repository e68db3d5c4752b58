-- While the looks of a running node keep its view, so does its log. This project's profile.
use Rattle.std.specs.Prelude.{◌≡◌, ◌⊎◌, ◌≤◌, ◌<◌, ◌+◌, ◌*◌, ◌==◌, ◌∷◌, ◌++◌, ℕ, true, false, List, length, Some}
use Rattle.qn_base.specs.declared.ids.View.{View}
use Rattle.qn_model.specs.declared.configuration.Settings.{Settings}
use Rattle.qn_base.specs.Members.{is_member}
use Rattle.qn_model.specs.declared.life.Phase.TheVariants.{Up}
use Rattle.qn_model.specs.declared.times.Timing.{Timing}
use Rattle.qn_model.specs.Moments.{Before}
use Rattle.qn_model.specs.NodeVotes.{view}
use Rattle.qn_model.specs.Phases.{is_live, phase}
use Rattle.qn_model.specs.Timing.{is_safe}
use Rattle.qn_member.specs.Maker.{of_rank}
use Rattle.qn_member.specs.NamingViews.{after_look, is_named_anew, looked_by_name, may_not_start, view_of}
use Rattle.qn_progress.specs.Pace.{Pace, outside}
use Rattle.qn_joined.specs.Joints.{Happening, IsJoined, joint_after, runs_at}
use Rattle.qn_service.specs.Leading.{company_then, leader_then}
use Rattle.qn_service.specs.Looks.{LookOf}
use Rattle.qn_service.specs.NextLooks.{last_look, look_of_rank}
use Rattle.qn_service.specs.Serving.{MayServe, serving_ticks}
use Rattle.qn_service.specs.Unheard.{log_after}

-- a look of a node that leads finds the members of a view in company, and would name nobody else
pub record LeadsMembers (present : View) (look : LookOf) : Type 0 where
  pub leads : leader_then look.tick look.maker ≡ Some look.maker.maker.me
  pub finds : company_then look.tick look.maker ≡ present.members
  pub named : is_named_anew look.tick (looked_by_name look.tick look.maker)
      (view_of (looked_by_name look.tick look.maker) (company_then look.tick look.maker))
      ≡ false

-- a look of a node that another one leads, which announced this view last
pub record FollowsView (leader : ℕ) (present : View) (look : LookOf) : Type 0 where
  pub leads : leader_then look.tick look.maker ≡ Some leader
  pub other : (leader == look.maker.maker.me) ≡ false
  pub announced : of_rank look.maker.maker.announced leader ≡ Some present

-- A look of a node that may start keeps a view: its node leads its members, or it follows the leader to that view.
pub record KeepsView (leader : ℕ) (present : View) (look : LookOf) : Type 0 where
  pub may : may_not_start look.maker ≡ false
  pub keeps : LeadsMembers present look ⊎ FollowsView leader present look

-- the last look of a rank left this view, and handed it on as it is
pub record WasLeft (s : Settings) (image : ℕ → List ℕ) (rank : ℕ) (present : View) (happenings : List Happening) : Type 0 where
  pub look : LookOf
  pub last : last_look s image rank happenings ≡ Some look
  pub left : (after_look look.tick look.maker).maker.view ≡ Some present
  pub free : (after_look look.tick look.maker).closed ≡ false

-- each look of a rank from a joint on keeps this view
pub record KeepsOneView (s : Settings) (image : ℕ → List ℕ) (rank leader : ℕ) (present : View) (old new : List Happening) : Type 0 where
  pub first : WasLeft s image rank present old
  pub looks : (at : List Happening) (happening : Happening) (look : LookOf) → Before old at → Before (happening ∷ at) new
      → look_of_rank s image rank happening at ≡ Some look
      → KeepsView leader present look

-- then its log has this view at each joint, while its node takes part
abbrev pub ViewsAreKept : Settings → Type 0
ViewsAreKept s =
    (image : ℕ → List ℕ) (rank leader : ℕ) (present : View) (newer older mid : List Happening)
    → length s.nodes ≤ 32
    → rank < length s.nodes
    → KeepsOneView s image rank leader present older (newer ++ older)
    → ((at : List Happening) → Before older at → Before at (newer ++ older) → is_live (phase s (log_after s image at rank)) ≡ true)
    → Before older mid
    → Before mid (newer ++ older)
    → view (log_after s image mid rank) ≡ Some present

-- a member that is up at each joint, and each look of which keeps the view
pub record IsUpAt (s : Settings) (image : ℕ → List ℕ) (rank : ℕ) (happenings : List Happening) : Type 0 where
  pub on : ((joint_after s image happenings).hosts rank).on ≡ true
  pub up : phase s (log_after s image happenings rank) ≡ Up

pub record AgreeOnView (s : Settings) (image : ℕ → List ℕ) (leader : ℕ) (present : View) (old new : List Happening) : Type 0 where
  pub ups : (other : ℕ) → is_member present.members other ≡ true
      → (mid : List Happening) → Before old mid → Before mid new → IsUpAt s image other mid
  pub keeps : (other : ℕ) → is_member present.members other ≡ true → KeepsOneView s image other leader present old new

-- So a majority whose looks agree on a view has an owner, one of them, once the time of a take-over has passed.
abbrev pub LooksServe : Settings → Timing → Type 0
LooksServe s t =
    (image : ℕ → List ℕ) (pace : Pace) (post rank leader : ℕ) (present : View) (newer older : List Happening)
    → IsJoined s t image (newer ++ older)
    → AgreeOnView s image leader present older (newer ++ older)
    → MayServe s t image pace post rank present older (newer ++ older)
    → 100 * serving_ticks t pace post (outside s (log_after s image older rank)) + 99 * (joint_after s image older).time
    ≤ 99 * (joint_after s image (newer ++ older)).time
    → (owner : ℕ) × (is_member present.members owner ≡ true) × (runs_at s image (newer ++ older) owner ≡ true)

-- the premises are met: in some joined run with safe times they are so for long enough
pub record LooksAreMet : Type 0 where
  pub settings : Settings
  pub timing : Timing
  pub image : ℕ → List ℕ
  pub pace : Pace
  pub post : ℕ
  pub rank : ℕ
  pub leader : ℕ
  pub present : View
  pub newer : List Happening
  pub older : List Happening
  pub safe : is_safe timing ≡ true
  pub joined : IsJoined settings timing image (newer ++ older)
  pub agree : AgreeOnView settings image leader present older (newer ++ older)
  pub may : MayServe settings timing image pace post rank present older (newer ++ older)
  pub late : 100 * serving_ticks timing pace post (outside settings (log_after settings image older rank)) + 99 * (joint_after settings image older).time
      ≤ 99 * (joint_after settings image (newer ++ older)).time
