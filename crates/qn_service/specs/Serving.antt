-- When a majority whose nodes have one view has an owner. This project's profile.
use Rattle.std.specs.Prelude.{◌≡◌, ◌≤◌, ◌<◌, ◌+◌, ◌*◌, ℕ, true, false, max, List, ◌∷◌, ◌++◌, length, None, Some, Contains}
use Rattle.qn_base.specs.declared.ids.View.{View}
use Rattle.qn_base.specs.Members.{is_member}
use Rattle.qn_model.specs.declared.configuration.Settings.{Settings}
use Rattle.qn_model.specs.declared.life.Phase.TheVariants.{Up}
use Rattle.qn_model.specs.declared.outputs.Out.TheVariants as out
use Rattle.qn_model.specs.declared.packets.Packet.{Packet}
use Rattle.qn_model.specs.declared.times.Timing.{Timing}
use Rattle.qn_model.specs.Holding.{holds, stop_due}
use Rattle.qn_model.specs.Log.{ask_tick, incarnation, now, op_out}
use Rattle.qn_model.specs.Moments.{Before, tick_of}
use Rattle.qn_model.specs.NodeOutputs.{moment, newest_outs}
use Rattle.qn_model.specs.NodeVotes.{install, view}
use Rattle.qn_model.specs.Phases.{phase}
use Rattle.qn_model.specs.Steps.{entry_of}
use Rattle.qn_model.specs.Timing.{is_safe}
use Rattle.qn_model.specs.Unmet.{is_chosen, is_given_away}
use Rattle.qn_model.specs.Wanted.{rank_of}
use Rattle.qn_progress.specs.Majority.{IsMajority}
use Rattle.qn_progress.specs.Pace.{Pace, outside, take_over_ticks}
use Rattle.qn_progress.specs.Quiet.{DelaysOver, is_gentle, newest}
use Rattle.qn_joined.specs.Joints.{Happening, IsJoined, joint_after, runs_at}
use Rattle.qn_service.specs.Unheard.{log_after}

-- the tick of the clock of a rank
abbrev pub clock_at : Settings → (ℕ → List ℕ) → List Happening → ℕ → ℕ
clock_at s image happenings rank = tick_of ((joint_after s image happenings).hosts rank).clock

-- a rank at one joint: its machine is on, its node is up, so is not asked to leave, and its view is this one
pub record HasView (s : Settings) (image : ℕ → List ℕ) (present : View) (rank : ℕ) (happenings : List Happening) : Type 0 where
  pub on : ((joint_after s image happenings).hosts rank).on ≡ true
  pub up : phase s (log_after s image happenings rank) ≡ Up
  pub sees : view (log_after s image happenings rank) ≡ Some present

-- A rank at one joint: it has installed so many views, was handed no failure last, and was handed an entry, and its disk answers, at this
-- pace.
pub record IsPaced (s : Settings) (image : ℕ → List ℕ) (pace : Pace) (views rank : ℕ) (happenings : List Happening) : Type 0 where
  pub installs : install (log_after s image happenings rank) ≡ views
  pub gentle : is_gentle (newest (log_after s image happenings rank)) ≡ true
  pub turns : clock_at s image happenings rank ≤ now (log_after s image happenings rank) + pace.turn
  pub answers : ¬ (op_out (log_after s image happenings rank) ≡ None)
      → clock_at s image happenings rank ≤ ask_tick (log_after s image happenings rank) + pace.disk

-- what happens after a joint hands a rank an entry: its log has a line more
abbrev pub HandsEntry : Settings → (ℕ → List ℕ) → ℕ → Happening → List Happening → Type 0
HandsEntry s image rank newest earlier =
    length (log_after s image earlier rank) < length (log_after s image (newest ∷ earlier) rank)

-- a packet was handed to a rank between two joints, by a tick of the clock of the rank that waits
pub record IsHanded (s : Settings) (image : ℕ → List ℕ) (rank to : ℕ) (packet : Packet) (limit : ℕ) (since new : List Happening) : Type 0 where
  pub at : List Happening
  pub happening : Happening
  pub after : Before since at
  pub back : Before (happening ∷ at) new
  pub hands : HandsEntry s image to happening at
  pub is : newest (log_after s image (happening ∷ at) to) ≡ entry_of packet
  pub soon : clock_at s image at rank ≤ limit

-- Each packet that an entry of one rank sends another between two joints is handed to it within so many ticks of the clock of the rank that
-- waits, where these pass before the new joint.
abbrev pub PacketsCome : Settings → (ℕ → List ℕ) → ℕ → ℕ → ℕ → ℕ → List Happening → List Happening → Type 0
PacketsCome s image rank post from to old new =
    (at : List Happening) (happening : Happening) (packet : Packet)
    → Before old at → Before (happening ∷ at) new
    → HandsEntry s image from happening at
    → Contains (newest_outs (log_after s image (happening ∷ at) from)) (out.Send (rank_of to) packet)
    → clock_at s image at rank + post < clock_at s image new rank
    → IsHanded s image rank to packet (clock_at s image at rank + post) (happening ∷ at) new

-- The members of a view are a majority. From an old joint to a new one the chosen one of them keeps its pace and installs no other view. No
-- fence delay is left at the old joint, and there the chosen one has claimed its incarnation and has asked, and no Stop of a member is
-- unanswered. The view gives away what no other member holds. Packets come, both ways.
pub record MayServe (s : Settings) (t : Timing) (image : ℕ → List ℕ) (pace : Pace) (post rank : ℕ) (present : View) (old new : List Happening) : Type 0 where
  pub majority : IsMajority s present.members
  pub fast : pace.disk < t.loop_ms
  pub member : is_member present.members rank ≡ true
  pub chosen : is_chosen s rank (log_after s image old rank) ≡ true
  pub paced : (mid : List Happening) → Before old mid → Before mid new
      → IsPaced s image pace (install (log_after s image old rank)) rank mid
  pub over : DelaysOver s (clock_at s image old rank) (log_after s image old rank)
  pub claims : (number : ℕ) × (incarnation (log_after s image old rank) ≡ Some number)
  pub asked : (last : ℕ) × (moment s (log_after s image old rank) ≡ Some last)
  pub calm : (other : ℕ) → is_member present.members other ≡ true → stop_due (log_after s image old other) ≡ false
  pub kept : (other : ℕ) → is_member present.members other ≡ true → ¬ (other ≡ rank)
      → (mid : List Happening) → Before old mid → Before mid new → holds (log_after s image mid other) ≡ true
      → is_given_away s other (log_after s image mid other) ≡ false
  pub asks_come : (other : ℕ) → is_member present.members other ≡ true → ¬ (other ≡ rank)
      → PacketsCome s image rank post rank other old new
  pub tells_come : (other : ℕ) → is_member present.members other ≡ true → ¬ (other ≡ rank)
      → PacketsCome s image rank post other rank old new

-- And each of them is up and has that view.
pub record HaveOneView (s : Settings) (t : Timing) (image : ℕ → List ℕ) (pace : Pace) (post rank : ℕ) (present : View) (old new : List Happening) : Type 0 where
  pub members : (other : ℕ) → is_member present.members other ≡ true
      → (mid : List Happening) → Before old mid → Before mid new → HasView s image present other mid
  pub serves : MayServe s t image pace post rank present old new

-- By then the nodes outside the view are fenced, in the time of a take-over, and each other member was heard: it is asked within a loop and a
-- turn, its answer comes after the ways of two packets, and two turns on the answers are taken in.
abbrev pub serving_ticks : Timing → Pace → ℕ → ℕ → ℕ
serving_ticks t pace post count =
    max (take_over_ticks t pace count) (t.loop_ms + pace.turn + post + post + pace.turn + pace.turn + 1)

-- A member runs the resource from then on, as long as they are so: in true milliseconds, of which a clock may miss one in a hundred.
abbrev pub MembersServe : Settings → Timing → Type 0
MembersServe s t =
    (image : ℕ → List ℕ) (pace : Pace) (post rank : ℕ) (present : View) (newer older : List Happening)
    → IsJoined s t image (newer ++ older)
    → HaveOneView s t image pace post rank present older (newer ++ older)
    → 100 * serving_ticks t pace post (outside s (log_after s image older rank)) + 99 * (joint_after s image older).time
    ≤ 99 * (joint_after s image (newer ++ older)).time
    → (owner : ℕ) × (is_member present.members owner ≡ true) × (runs_at s image (newer ++ older) owner ≡ true)

-- the premises are met: in some joined run with safe times they are so for long enough
pub record MembersAreMet : Type 0 where
  pub settings : Settings
  pub timing : Timing
  pub image : ℕ → List ℕ
  pub pace : Pace
  pub post : ℕ
  pub rank : ℕ
  pub present : View
  pub newer : List Happening
  pub older : List Happening
  pub safe : is_safe timing ≡ true
  pub joined : IsJoined settings timing image (newer ++ older)
  pub have : HaveOneView settings timing image pace post rank present older (newer ++ older)
  pub late : 100 * serving_ticks timing pace post (outside settings (log_after settings image older rank)) + 99 * (joint_after settings image older).time
      ≤ 99 * (joint_after settings image (newer ++ older)).time
