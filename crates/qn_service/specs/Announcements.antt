-- What a rank has of the view that another one announces, and how soon. This project's profile.
use Rattle.std.specs.Prelude.{◌≡◌, ◌+◌, ◌*◌, ◌<◌, ◌≤◌, ℕ, true, List, ◌∷◌, ◌++◌, length, Some}
use Rattle.qn_base.specs.declared.ids.View.{View}
use Rattle.qn_model.specs.declared.configuration.Settings.{Settings}
use Rattle.qn_model.specs.declared.packets.Packet.{Packet}
use Rattle.qn_model.specs.declared.packets.Packet.TheVariants as packet
use Rattle.qn_model.specs.declared.times.Timing.{Timing}
use Rattle.qn_model.specs.Moments.{Before}
use Rattle.qn_model.specs.Wanted.{rank_of}
use Rattle.qn_member.specs.Maker.{has_configured, of_rank}
use Rattle.qn_member.specs.NamingViews.{after_look, view_announced}
use Rattle.qn_joined.specs.Joints.{Happening, IsJoined, joint_after}
use Rattle.qn_service.specs.Leaders.{EachLookIs}
use Rattle.qn_service.specs.Hellos.{LooksOften, Says, StaysAwake, WordsCome, beat_ticks, packet_to_hear}
use Rattle.qn_service.specs.Looks.{LookOf}
use Rattle.qn_service.specs.NextLooks.{look_of_rank}
use Rattle.qn_service.specs.Serving.{clock_at}

-- a look leaves a view maker that announces this view
abbrev pub Announces : View → LookOf → Type 0
Announces present look = view_announced (after_look look.tick look.maker) ≡ Some present

-- one rank said a packet to another one between two joints, at most so many ticks of the clock of the other before the new one
pub record WasSaidLately (s : Settings) (image : ℕ → List ℕ) (from to post : ℕ) (said : Packet) (old new : List Happening) : Type 0 where
  pub at : List Happening
  pub happening : Happening
  pub after : Before old at
  pub back : Before (happening ∷ at) new
  pub says : Says s image from to said happening at
  pub soon : clock_at s image new to ≤ clock_at s image at to + post

-- each announcement of a rank that comes between two joints was said by it since the old one, and is no older
abbrev pub AnnouncementsAreOwn : Settings → (ℕ → List ℕ) → ℕ → ℕ → ℕ → List Happening → List Happening → Type 0
AnnouncementsAreOwn s image post from to old new =
    (at : List Happening) (view : View)
    → Before old at → Before at new
    → packet_to_hear s image to at ≡ Some (packet.Announce (rank_of from) view)
    → WasSaidLately s image from to post (packet.Announce (rank_of from) view) old at

-- From an old joint to a new one each look of a rank leaves it with one view to announce, and what it says comes to another rank: both are up and
-- keep their pace, it looks often, what it says is heard in time, and its announcements are its own.
pub record IsAnnouncing (s : Settings) (t : Timing) (image : ℕ → List ℕ) (turn post gaze : ℕ) (present : View) (from to : ℕ) (old new : List Happening) : Type 0 where
  pub configured : (from < length s.nodes) × (to < length s.nodes)
  pub apart : ¬ (to ≡ from)
  pub members : has_configured s.nodes present.members ≡ true
  pub sender : StaysAwake s image turn from old new
  pub hearer : StaysAwake s image turn to old new
  pub come : WordsCome s image post from to old new
  pub looks : LooksOften s image gaze from old new
  pub own : AnnouncementsAreOwn s image post from to old new
  pub announces : EachLookIs s image from (Announces present) old new

-- by then it has looked, the view was announced after a Hello of the beat, and that came
abbrev pub announce_ticks : Timing → ℕ → ℕ → ℕ → ℕ
announce_ticks t turn post gaze = beat_ticks t turn + turn + turn + turn + gaze + post + post + 10

-- then that view is what each look of the other one has of it
abbrev pub AnnouncementsCome : Settings → Timing → Type 0
AnnouncementsCome s t =
    (image : ℕ → List ℕ) (turn post gaze : ℕ) (present : View) (from to : ℕ) (newer older at : List Happening) (happening : Happening) (look : LookOf)
    → IsJoined s t image (newer ++ older)
    → IsAnnouncing s t image turn post gaze present from to older (newer ++ older)
    → Before older at
    → Before (happening ∷ at) (newer ++ older)
    → look_of_rank s image to happening at ≡ Some look
    → 100 * announce_ticks t turn post gaze + 99 * (joint_after s image older).time ≤ 99 * (joint_after s image at).time
    → of_rank look.maker.maker.announced from ≡ Some present
