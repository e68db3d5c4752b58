-- While every two hear each other in time nobody is reset. This project's profile.
use Rattle.std.specs.Prelude.{◌≡◌, ◌<◌, ◌≤◌, ◌+◌, ◌*◌, ◌==◌, ℕ, true, false, List, length, Some}
use Rattle.qn_base.specs.declared.ids.Rank.{Rank}
use Rattle.qn_model.specs.declared.configuration.Settings.{Settings}
use Rattle.qn_model.specs.declared.times.Timing.{Timing}
use Rattle.qn_member.specs.Maker.{follows_other, names, of_rank}
use Rattle.qn_joined.specs.Joints.{Happening, IsJoined}
use Rattle.qn_service.specs.Leading.{known_then, leader_then, names_then}
use Rattle.qn_service.specs.Looks.{EachLook, LookOf}
use Rattle.qn_service.specs.Unheard.{AreSent, AsksReset}

-- The last Hello of a rank came at most three loops of the image before the look, and no farewell since. It names the node, and says
-- that the rank follows no other one.
pub record HearsInTime (t : Timing) (look : LookOf) (rank : ℕ) : Type 0 where
  pub at : ℕ
  pub hello : of_rank look.maker.maker.hellos rank ≡ Some at
  pub soon : look.tick ≤ at + 3 * t.loop_ms
  pub names : names look.maker.maker rank ≡ true
  pub follows : follows_other (known_then look.tick look.maker) rank ≡ false

-- a look of a node that leads hears each other node so, and all that it sees know names
abbrev pub HearsAll : Settings → Timing → LookOf → Type 0
HearsAll s t look =
    leader_then look.tick look.maker ≡ Some look.maker.maker.me
    → (names_then look.tick look.maker ≡ true)
    × ((rank : ℕ) → rank < length s.nodes → (rank == look.maker.maker.me) ≡ false → HearsInTime t look rank)

-- in a joined run of which each look is so nobody asks for a reset
abbrev pub NobodyHeardIsReset : Settings → Timing → Type 0
NobodyHeardIsReset s t =
    (image : ℕ → List ℕ) (happenings : List Happening) (rank : ℕ) (other : Rank)
    → IsJoined s t image happenings
    → AreSent s image happenings
    → EachLook s image (HearsAll s t) happenings
    → ¬ AsksReset s image happenings rank other
