-- When the looks of some nodes agree on a leader, whom that finds then, and what the others have of it. This project's profile.
use Rattle.std.specs.Prelude.{◌≡◌, ◌+◌, ◌*◌, ◌<◌, ◌≤◌, ℕ, true, false, max, List, ◌∷◌, ◌++◌, length, Some, IfSome}
use Rattle.qn_base.specs.declared.ids.Mask.{Mask}
use Rattle.qn_base.specs.declared.ids.View.{View}
use Rattle.qn_base.specs.Members.{is_member}
use Rattle.qn_model.specs.declared.configuration.Settings.{Settings}
use Rattle.qn_model.specs.declared.times.Timing.{Timing}
use Rattle.qn_model.specs.Moments.{Before}
use Rattle.qn_member.specs.Maker.{disputed_nodes, is_present, visible_nodes}
use Rattle.qn_member.specs.NamingViews.{is_named_anew, looked_by_name, may_not_start, view_found, view_of}
use Rattle.qn_joined.specs.Joints.{Happening, IsJoined, joint_after}
use Rattle.qn_service.specs.Hellos.{HellosAreOwn, IsNear, LooksOften, StaysAwake, hello_ticks}
use Rattle.qn_service.specs.KeptViews.{KeepsOneView}
use Rattle.qn_service.specs.Leading.{company_then, leader_then, names_then}
use Rattle.qn_service.specs.Looks.{LookOf}
use Rattle.qn_service.specs.NextLooks.{look_of_rank}

-- a look sees just these nodes, all of which know names, and finds this leader
pub record FindsLeader (set : Mask) (leader : ℕ) (look : LookOf) : Type 0 where
  pub sees : visible_nodes look.tick look.maker.maker ≡ set
  pub names : names_then look.tick look.maker ≡ true
  pub leads : leader_then look.tick look.maker ≡ Some leader

-- each look of a rank between two joints is so
abbrev pub EachLookIs : Settings → (ℕ → List ℕ) → ℕ → (LookOf → Type 0) → List Happening → List Happening → Type 0
EachLookIs s image rank IsSo old new =
    (at : List Happening) (happening : Happening) (look : LookOf)
    → Before old at → Before (happening ∷ at) new
    → look_of_rank s image rank happening at ≡ Some look
    → IsSo look

-- one of them other than the leader: it is near that, looks often, and its Hellos there are its own
pub record IsFollowing (s : Settings) (t : Timing) (image : ℕ → List ℕ) (turn post gaze rank leader : ℕ) (old new : List Happening) : Type 0 where
  pub near : IsNear s t image turn post rank leader old new
  pub looks : LooksOften s image gaze rank old new
  pub own : HellosAreOwn s image post rank leader old new

-- From an old joint to a new one the looks of these nodes agree.
pub record LooksAgree (s : Settings) (t : Timing) (image : ℕ → List ℕ) (turn post gaze : ℕ) (set : Mask) (leader : ℕ) (old new : List Happening) : Type 0 where
  pub finds : (rank : ℕ) → is_member set rank ≡ true → EachLookIs s image rank (FindsLeader set leader) old new
  pub follows : (rank : ℕ) → is_member set rank ≡ true → ¬ (rank ≡ leader) → IsFollowing s t image turn post gaze rank leader old new

-- by then each of them has looked, what it says since has come, and nothing of before can come
abbrev pub found_ticks : Timing → ℕ → ℕ → ℕ → ℕ
found_ticks t turn post gaze = hello_ticks t turn post + gaze + post + 6

-- then each look of the leader finds all of them in company
abbrev pub CompaniesAreFound : Settings → Timing → Type 0
CompaniesAreFound s t =
    (image : ℕ → List ℕ) (turn post gaze : ℕ) (set : Mask) (leader : ℕ) (newer older at : List Happening) (happening : Happening) (look : LookOf)
    → IsJoined s t image (newer ++ older)
    → LooksAgree s t image turn post gaze set leader older (newer ++ older)
    → (leader < length s.nodes) × StaysAwake s image turn leader older (newer ++ older)
    → is_member set leader ≡ true
    → Before older at
    → Before (happening ∷ at) (newer ++ older)
    → look_of_rank s image leader happening at ≡ Some look
    → 100 * found_ticks t turn post gaze + 99 * (joint_after s image older).time ≤ 99 * (joint_after s image at).time
    → company_then look.tick look.maker ≡ set

-- ## The view of the leader

-- A look of a leader that finds these in company may start, has nobody in dispute, gives no view but of them, and names nobody else once that is its view.
pub record MaySettle (set : Mask) (look : LookOf) : Type 0 where
  pub may : may_not_start look.maker ≡ false
  pub agreed : (disputed_nodes look.tick (looked_by_name look.tick look.maker).maker set).0 ≡ 0
  pub gives : IfSome (view_found look.tick look.maker) (λ view. view.members ≡ set)
  pub named : is_present look.maker.maker set ≡ true
      → is_named_anew look.tick (looked_by_name look.tick look.maker) (view_of (looked_by_name look.tick look.maker) set) ≡ false

-- the leader is so from an old joint to a new one: it is a member that is up and keeps its pace, and looks often
pub record SettlesIn (s : Settings) (image : ℕ → List ℕ) (turn gaze : ℕ) (set : Mask) (leader : ℕ) (old new : List Happening) : Type 0 where
  pub configured : leader < length s.nodes
  pub member : is_member set leader ≡ true
  pub awake : StaysAwake s image turn leader old new
  pub looks : LooksOften s image gaze leader old new
  pub settles : EachLookIs s image leader (λ look. company_then look.tick look.maker ≡ set → MaySettle set look) old new

-- by then it found them in company for a loop, and leads for four
abbrev pub settle_ticks : Timing → ℕ → ℕ → ℕ → ℕ
settle_ticks t turn post gaze = max (found_ticks t turn post gaze + t.loop_ms + gaze + gaze + turn + 4) (4 * t.loop_ms + turn + gaze + gaze + 6)

-- then it keeps a view of these members
pub record HasSettled (s : Settings) (image : ℕ → List ℕ) (set : Mask) (leader : ℕ) (old new : List Happening) : Type 0 where
  pub present : View
  pub is : present.members ≡ set
  pub keeps : KeepsOneView s image leader leader present old new

abbrev pub LeadersSettle : Settings → Timing → Type 0
LeadersSettle s t =
    (image : ℕ → List ℕ) (turn post gaze : ℕ) (set : Mask) (leader : ℕ) (newer older at : List Happening)
    → IsJoined s t image (newer ++ older)
    → LooksAgree s t image turn post gaze set leader older (newer ++ older)
    → SettlesIn s image turn gaze set leader older (newer ++ older)
    → Before older at
    → Before at (newer ++ older)
    → 100 * settle_ticks t turn post gaze + 99 * (joint_after s image older).time ≤ 99 * (joint_after s image at).time
    → HasSettled s image set leader at (newer ++ older)
