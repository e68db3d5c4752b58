-- What running nodes announce to one another, and what of that is known. This project's profile.
use Rattle.std.specs.Prelude.{◌≡◌, ◌≤◌, ◌<◌, ◌+◌, ◌*◌, ℕ, true, false, List, ◌∷◌, ◌++◌, length, Some}
use Rattle.qn_base.specs.declared.ids.View.{View}
use Rattle.qn_model.specs.declared.configuration.Settings.{Settings}
use Rattle.qn_model.specs.declared.packets.Packet.TheVariants as packet
use Rattle.qn_model.specs.declared.times.Timing.{Timing}
use Rattle.qn_model.specs.Moments.{Before}
use Rattle.qn_model.specs.Wanted.{rank_of}
use Rattle.qn_member.specs.Maker.{has_configured, of_rank}
use Rattle.qn_member.specs.NamingViews.{after_look, may_not_start, view_announced}
use Rattle.qn_joined.specs.Joints.{Happening, IsJoined, joint_after}
use Rattle.qn_service.specs.Hellos.{IsNear, Says, StaysAwake, beat_ticks, hello_ticks, packet_to_hear}
use Rattle.qn_service.specs.KeptViews.{KeepsOneView, WasLeft}
use Rattle.qn_service.specs.Leading.{leader_then}
use Rattle.qn_service.specs.Looks.{LookOf}
use Rattle.qn_service.specs.NextLooks.{look_of_rank}
use Rattle.qn_service.specs.Serving.{clock_at}

-- each look of a rank between two joints leaves it announcing this view
abbrev pub LooksAnnounce : Settings → (ℕ → List ℕ) → ℕ → View → List Happening → List Happening → Type 0
LooksAnnounce s image from view old new =
    (at : List Happening) (happening : Happening) (look : LookOf)
    → Before old at → Before (happening ∷ at) new
    → look_of_rank s image from happening at ≡ Some look
    → view_announced (after_look look.tick look.maker) ≡ Some view

-- between two joints one rank announced this view to another one, at most so many ticks of its clock before the new one
pub record SaidView (s : Settings) (image : ℕ → List ℕ) (from to limit : ℕ) (view : View) (old new : List Happening) : Type 0 where
  pub at : List Happening
  pub happening : Happening
  pub after : Before old at
  pub back : Before (happening ∷ at) new
  pub says : Says s image from to (packet.Announce (rank_of from) view) happening at
  pub soon : clock_at s image new from ≤ clock_at s image at from + limit

-- a node that is up and keeps its pace, of which a look leaves it announcing a view, and each one after that, announces it to each other one at each
-- half loop and two turns
abbrev pub ViewsAreAnnounced : Settings → Timing → Type 0
ViewsAreAnnounced s t =
    (image : ℕ → List ℕ) (turn from to : ℕ) (view : View) (newer earlier : List Happening) (first : Happening) (look : LookOf)
    → IsJoined s t image (newer ++ first ∷ earlier)
    → from < length s.nodes
    → to < length s.nodes
    → ¬ (to ≡ from)
    → StaysAwake s image turn from (first ∷ earlier) (newer ++ first ∷ earlier)
    → look_of_rank s image from first earlier ≡ Some look
    → view_announced (after_look look.tick look.maker) ≡ Some view
    → LooksAnnounce s image from view (first ∷ earlier) (newer ++ first ∷ earlier)
    → clock_at s image (first ∷ earlier) from + beat_ticks t turn < clock_at s image (newer ++ first ∷ earlier) from
    → SaidView s image from to (beat_ticks t turn) view (first ∷ earlier) (newer ++ first ∷ earlier)

-- between two joints a rank hears no other announcement of another one than of this view
abbrev pub HearsOneView : Settings → (ℕ → List ℕ) → ℕ → ℕ → View → List Happening → List Happening → Type 0
HearsOneView s image from to view old new =
    (at : List Happening) (other : View)
    → Before old at → Before at new
    → packet_to_hear s image to at ≡ Some (packet.Announce (rank_of from) other)
    → other ≡ view

-- One rank is near another one from a look on that leaves it announcing a view, as each of its looks does, and the other one hears no other
-- announcement of it. The members of the view are configured.
pub record AnnouncesTo (s : Settings) (t : Timing) (image : ℕ → List ℕ) (turn post from to : ℕ) (view : View) (first : Happening) (earlier new : List Happening) : Type 0 where
  pub near : IsNear s t image turn post from to (first ∷ earlier) new
  pub seen : LookOf
  pub is : look_of_rank s image from first earlier ≡ Some seen
  pub leaves : view_announced (after_look seen.tick seen.maker) ≡ Some view
  pub looks : LooksAnnounce s image from view (first ∷ earlier) new
  pub one : HearsOneView s image from to view (first ∷ earlier) new
  pub within : has_configured s.nodes view.members ≡ true

-- So each look of the other one knows it as what that node announced last, once it has come.
abbrev pub LooksKnowViews : Settings → Timing → Type 0
LooksKnowViews s t =
    (image : ℕ → List ℕ) (turn post from to : ℕ) (view : View) (newer earlier : List Happening) (first : Happening)
    (at : List Happening) (happening : Happening) (look : LookOf)
    → IsJoined s t image (newer ++ first ∷ earlier)
    → AnnouncesTo s t image turn post from to view first earlier (newer ++ first ∷ earlier)
    → Before (first ∷ earlier) at
    → Before (happening ∷ at) (newer ++ first ∷ earlier)
    → look_of_rank s image to happening at ≡ Some look
    → 100 * hello_ticks t turn post + 99 * (joint_after s image (first ∷ earlier)).time ≤ 99 * (joint_after s image at).time
    → of_rank look.maker.maker.announced from ≡ Some view

-- each look of a rank between two joints is one of a node that may start, and that another one leads
abbrev pub LooksAreLed : Settings → (ℕ → List ℕ) → ℕ → ℕ → List Happening → List Happening → Type 0
LooksAreLed s image leader rank old new =
    (at : List Happening) (happening : Happening) (look : LookOf)
    → Before old at → Before (happening ∷ at) new
    → look_of_rank s image rank happening at ≡ Some look
    → (may_not_start look.maker ≡ false) × (leader_then look.tick look.maker ≡ Some leader)

-- so a follower keeps the view, once it has come and a look of it left it
abbrev pub FollowersKeep : Settings → Timing → Type 0
FollowersKeep s t =
    (image : ℕ → List ℕ) (turn post from to : ℕ) (view : View) (newer earlier mid : List Happening) (first : Happening)
    → IsJoined s t image (newer ++ first ∷ earlier)
    → AnnouncesTo s t image turn post from to view first earlier (newer ++ first ∷ earlier)
    → Before (first ∷ earlier) mid
    → Before mid (newer ++ first ∷ earlier)
    → 100 * hello_ticks t turn post + 99 * (joint_after s image (first ∷ earlier)).time ≤ 99 * (joint_after s image mid).time
    → WasLeft s image to view mid
    → LooksAreLed s image from to mid (newer ++ first ∷ earlier)
    → KeepsOneView s image to from view mid (newer ++ first ∷ earlier)
